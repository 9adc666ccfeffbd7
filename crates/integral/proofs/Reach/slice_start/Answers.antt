-- Each branch is the model's. Assumes nothing.
use mathlib.Core.Path.{sym, ◌∙◌}
use native.Mathlib.Omega.{arith}
use Rattle.model.proofs.FarSlice.{slice_start_far, slice_start_near}
use Rattle.integral.proofs.Reach.slice_start.Goals as goal

pub returns-then-edge-self : goal.returns-then-edge-self
returns-then-edge-self c = c.max.ensures ∙ sym (slice_start_far _ _ _ (omega arith))

pub returns-else-edge-self : goal.returns-else-edge-self
returns-else-edge-self c = sym (slice_start_near _ _ _ (omega arith))
