-- What each callee ensures is put for its result; the sizes are the model's. Assumes nothing.
use Rattle.bounds.proofs.Pairs.{scaled_pair}
use Rattle.model.specs.Scale.{one}
use Rattle.model.specs.Logarithm.{logarithm_slice}
use Rattle.integral.proofs.Slices.{octave_fractions, octave_room}
use Rattle.integral.proofs.logarithm_slice.Goals as goal

pub series-requires : goal.series-requires
series-requires c = octave_fractions c.requires

pub scaled_mul-requires : goal.scaled_mul-requires
scaled_mul-requires c = rw (c.from_naturals.ensures, c.series.ensures) (octave_room c.requires)

pub returns : goal.returns
unfolding logarithm_slice
returns c = rw (c.scaled_mul.ensures.is, c.series.ensures, c.from_naturals.ensures) (scaled_pair _ _ one)
