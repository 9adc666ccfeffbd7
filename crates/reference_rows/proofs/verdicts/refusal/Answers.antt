-- Each number that is read, or that it is none.
use Rattle.std.proofs.Common.{◌∙◌, ap, sym, Some}
use Rattle.reference_rows.specs.Cells.{number_from}
use Rattle.reference_rows.specs.Verdicts.{by_refusal}
use Rattle.reference_rows.proofs.verdicts.refusal.Goals as goal

pub returns-in_err-number : goal.returns-in_err-number
unfolding by_refusal
returns-in_err-number c = rw (sym (c.whole.ensures ∙ ap number_from c.part.ensures) ∙ c.in_err-number.was) c.from_residual.ensures

pub returns-in_err-place : goal.returns-in_err-place
unfolding by_refusal
returns-in_err-place c =
    rw (sym (c.whole.ensures ∙ ap number_from c.part.ensures) ∙ c.in_ok-number.was, sym (c.whole-2.ensures ∙ ap number_from c.part-2.ensures) ∙ c.in_err-place.was) c.from_residual-in_err-place.ensures

pub returns : goal.returns
unfolding by_refusal
returns c =
    rw (sym (c.whole.ensures ∙ ap number_from c.part.ensures) ∙ c.in_ok-number.was, sym (c.whole-2.ensures ∙ ap number_from c.part-2.ensures) ∙ c.in_ok-place.was) (ap Some c.refuses.ensures)
