-- Case by case, what the check of the cable gives. Assumes nothing.
use Rattle.std.proofs.Common.{refl, sym, ap, ◌∙◌}
use Rattle.cable_rules.specs.Group.{as_given}
use Rattle.cable_rules.proofs.Acceptance.{given_sound}
use Rattle.sheet_rules.proofs.SheetChecks.{alone_laid, given_by_cable}
use Rattle.sheet.proofs.given_alone.Goals as goal

pub invariant_of-result : goal.invariant_of-result
invariant_of-result c =
    record { laid = alone_laid _ _ (given_sound _ _ (sym c.given.ensures.answer ∙ ap as_given c.in_ok-used.was)) }

pub returns : goal.returns
returns c = given_by_cable _ (sym c.given.ensures.answer ∙ ap as_given c.in_ok-used.was) refl
