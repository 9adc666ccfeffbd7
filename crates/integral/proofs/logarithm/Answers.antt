-- The loop counts the doublings; each is ln 2, and the rest is one slice. Assumes nothing.
use mathlib.Core.Path.{◌∙◌}
use native.Mathlib.Omega.{arith}
use Rattle.bounds.proofs.Pairs.{times_pair}
use Rattle.integral.proofs.Doublings.{ln_two, doubling_begin, doubling_again, doubling_done, rest_octave, doublings_room, rest_room}
use Rattle.integral.proofs.logarithm.Goals as goal

pub loop-base-init : goal.loop-base-init
loop-base-init c = doubling_begin c.requires

pub loop-base-preserved : goal.loop-base-preserved
loop-base-preserved c = doubling_again (omega arith) c.loop-base.invariant

pub times-requires : goal.times-requires
times-requires c = doublings_room c.requires (omega arith) c.loop-base.invariant

pub logarithm_slice-requires : goal.logarithm_slice-requires
logarithm_slice-requires c = rest_octave c.requires (omega arith) c.loop-base.invariant

pub add-requires : goal.add-requires
add-requires c =
    rw (c.times.ensures.is ∙ times_pair ln_two _, c.logarithm_slice.ensures) (rest_room c.requires (omega arith) c.loop-base.invariant)

pub returns : goal.returns
returns c =
    rw (c.add.ensures.is, c.times.ensures.is ∙ times_pair ln_two _, c.logarithm_slice.ensures)
    (doubling_done c.requires (omega arith) c.loop-base.invariant)
