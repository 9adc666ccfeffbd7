-- Each branch is the model's: 16 is the first knot. Assumes nothing.
use mathlib.Core.Path.{ap, ◌∙◌}
use native.Mathlib.Omega.{arith}
use Rattle.bounds.specs.Pair.{as_bounds}
use Rattle.integral.proofs.Rows.{exp_row}
use Rattle.integral.proofs.Slices.{far_beyond, far_at_knot}
use Rattle.integral.proofs.far_exp.Goals as goal

pub returns-then-diffusion-near : goal.returns-then-diffusion-near
returns-then-diffusion-near c = c.exp_neg.ensures ∙ far_beyond _ _ (omega arith)

pub returns : goal.returns
returns c = c.row.ensures ∙ ap as_bounds (exp_row 0 (omega arith)) ∙ far_at_knot c.requires (omega arith)
