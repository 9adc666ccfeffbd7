-- A number that reached the most is none.
use Rattle.std.proofs.Common.{◌∙◌, ap, sym}
use Rattle.reference_rows.specs.Cells.{below, number_from}
use Rattle.reference_rows.proofs.cells.whole.Goals as goal

pub returns-in_err-n : goal.returns-in_err-n
unfolding number_from
returns-in_err-n c = c.from_residual.ensures ∙ ap below (sym c.in_err-n.was ∙ c.number_of.ensures)

pub returns : goal.returns
unfolding number_from
returns c = c.then_some.ensures ∙ ap below (sym c.in_ok-n.was ∙ c.number_of.ensures)
