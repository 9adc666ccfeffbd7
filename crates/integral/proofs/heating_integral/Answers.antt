-- The far slice, the unit slices and the half slices, as the model has them. Assumes nothing.
use mathlib.Core.Path.{refl}
use Rattle.model.specs.Scale.{units}
use Rattle.model.specs.Integral.{heating_integral}
use Rattle.model.proofs.FarSlice.{slice_start_inside, far_pair_under_top}
use Rattle.model.proofs.Parts.{unit_sum_under}
use Rattle.series.proofs.UpTo.{pair_up_to}
use Rattle.integral.proofs.heating_integral.Goals as goal

pub invariant_of-short : goal.invariant_of-short
invariant_of-short c =
    let a = c.requires in
    record { span = rw c.slice_start.ensures (record { stretch = a.stretch; order = (slice_start_inside _ _ _ a.order).from; top_small = a.top_small }) }

pub unit_slices-to_one-requires : goal.unit_slices-to_one-requires
unit_slices-to_one-requires c = rw c.far_slice-beyond.ensures (pair_up_to _ (far_pair_under_top _ _ _ _))

pub half_slices-requires : goal.half_slices-requires
half_slices-requires c =
    rw (c.unit_slices-to_one.ensures, c.far_slice-beyond.ensures) (pair_up_to _ (unit_sum_under _ _ _ _ _ (far_pair_under_top _ _ _ _) units))

pub returns : goal.returns
unfolding heating_integral
returns c = rw (c.half_slices.ensures, c.unit_slices-to_one.ensures, c.far_slice-beyond.ensures, c.slice_start.ensures) refl
