-- The table's rule. Assumes nothing.
use mathlib.Core.Path.{ap, ◌∙◌}
use native.Mathlib.Omega.{arith}
use Rattle.bounds.specs.Pair.{as_bounds}
use Rattle.integral.proofs.Rows.{exp_row}
use Rattle.integral.proofs.knot_exp.Goals as goal

pub returns : goal.returns
returns c = c.row.ensures ∙ ap as_bounds (exp_row c.args.knot (omega arith))
