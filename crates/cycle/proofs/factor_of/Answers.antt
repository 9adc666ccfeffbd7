-- `cycle::factor_of` refuses by 10, then by 11, or gives the day's factor. Assumes nothing.
use mathlib.Core.Path.{sym, ◌∙◌}
use native.Mathlib.Omega.{arith}
use borrow.Kind.Array.{good_length, e_int}
use mir.Syntax.{w16}
use Rattle.cycle_rules.specs.Day.{day_hours}
use Rattle.cycle_rules.proofs.Answers.{hour_refused, nothing_refused, factor_given}
use Rattle.cycle.proofs.factor_of.Goals as goal

pub returns-in-Some : goal.returns-in-Some
returns-in-Some c = hour_refused _ _ (sym c.first_above.ensures.answer ∙ c.in-Some.is)

pub returns-then-highest_load-eq0 : goal.returns-then-highest_load-eq0
returns-then-highest_load-eq0 c =
    let day = good_length (e_int w16) day_hours c.args.hours _ c.well_formed.1.0 in
    nothing_refused _ _ (sym c.first_above.ensures.answer ∙ c.in_default.is) day (sym c.highest_load.ensures ∙ c.if-highest_load-eq0.true)

pub returns : goal.returns
returns c =
    factor_given _ _ (sym c.first_above.ensures.answer ∙ c.in_default.is) (omega arith) c.factor_of_day.ensures
