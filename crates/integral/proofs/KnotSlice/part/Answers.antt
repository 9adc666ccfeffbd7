-- Each branch is the model's. Assumes nothing.
use mathlib.Core.Path.{ap, ◌∙◌}
use mathlib.Core.Logic.{inl, inr}
use native.Mathlib.Omega.{arith}
use Rattle.bounds.specs.Pair.{as_bounds}
use Rattle.model.proofs.Parts.{part_whole, part_beyond, part_not_near, part_not_far}
use Rattle.series.proofs.UpTo.{up_to_is}
use Rattle.integral.proofs.KnotSlice.part.Goals as goal

pub returns-then-far-self : goal.returns-then-far-self
returns-then-far-self c = c.whole.ensures.is ∙ ap as_bounds (part_beyond _ _ _ _ _ _ c.args.self.below.slice.order (omega arith))

pub returns-then-self-near : goal.returns-then-self-near
returns-then-self-near c =
    c.cut.ensures ∙ ap as_bounds (elim c.then-self-near.either [ inl h ↦ part_not_near _ _ _ _ _ _ h | inr h ↦ part_not_far _ _ _ _ _ _ h.1 ])

pub returns : goal.returns
returns c = up_to_is c.requires ∙ ap as_bounds (part_whole _ _ _ _ _ _ (omega arith) (omega arith))
