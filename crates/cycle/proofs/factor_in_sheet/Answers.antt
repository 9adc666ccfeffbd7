-- `cycle::factor_in_sheet` answers for what a sheet gives. Assumes nothing.
use mathlib.Core.Path.{sym}
use borrow.Kind.Array.{good_length, e_int}
use mir.Syntax.{w16}
use Rattle.cycle_rules.specs.Day.{day_hours}
use Rattle.sheet_rules.proofs.SheetChecks.{sheet_sound}
use Rattle.cycle_rules.proofs.Answers.{answer_given}
use Rattle.cycle_rules.proofs.Said.{said}
use Rattle.cycle.proofs.factor_in_sheet.Goals as goal

pub returns : goal.returns
returns c =
    said (sheet_sound _) (good_length (e_int w16) day_hours c.args.hours _ c.well_formed.1.0)
    (answer_given _ (sym c.given.ensures.answer) c.factor_given.ensures)
