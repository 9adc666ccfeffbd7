-- Each branch is the model's; e^(-u) is at most 122 units where the far slice begins. Assumes nothing.
use mathlib.Core.Path.{sym, ap, ◌∙◌}
use native.Mathlib.Omega.{arith}
use Rattle.numbers.proofs.Machine.{result_seen}
use Rattle.bounds.specs.Pair.{as_bounds}
use Rattle.model.proofs.FarSlice.{far_pair_near}
use Rattle.integral.proofs.Slices.{far_room, far_slice_is}
use Rattle.integral.proofs.Reach.far_slice.Goals as goal

pub scaled_mul-requires : goal.scaled_mul-requires
scaled_mul-requires c = rw (c.from_naturals.ensures, c.far_exp.ensures) (far_room c.args.self.span)

pub returns-then-self : goal.returns-then-self
returns-then-self c =
    let l = c.signed in
    rw (c.at_most.ensures.is, c.scaled_mul.ensures.is, c.far_exp.ensures, c.from_naturals.ensures)
    (far_slice_is c.args.self.span (result_seen l.result l.type_inv ∙ l.ensures) (omega arith))

pub returns : goal.returns
returns c = c.whole.ensures.is ∙ ap as_bounds (sym (far_pair_near _ _ _ _ (omega arith)))
