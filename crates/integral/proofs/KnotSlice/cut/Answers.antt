-- Each branch is the model's. Assumes nothing.
use mathlib.Core.Path.{◌∙◌}
use native.Mathlib.Omega.{arith}
use Rattle.integral.proofs.Slices.{cut_some, cut_none}
use Rattle.integral.proofs.KnotSlice.cut.Goals as goal

pub returns-then-start-end : goal.returns-then-start-end
returns-then-start-end c =
    c.heat_slice.ensures ∙ cut_some c.args.near c.args.far c.args.self.below.slice c.max-start.ensures c.least-end.ensures (omega arith)

pub returns-else-start-end : goal.returns-else-start-end
returns-else-start-end c =
    c.whole.ensures.is ∙ cut_none c.args.near c.args.far c.args.self.below.slice c.max-start.ensures c.least-end.ensures (omega arith)
