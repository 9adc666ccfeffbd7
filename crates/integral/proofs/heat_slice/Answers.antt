-- What each callee ensures is put for its result; the sizes are the model's. Assumes nothing.
use Rattle.bounds.proofs.Pairs.{scaled_pair}
use Rattle.integral.proofs.Slices.{slice_fractions, height_room, area_room, heat_slice_is}
use Rattle.integral.proofs.heat_slice.Goals as goal

pub series-requires : goal.series-requires
series-requires c = slice_fractions c.requires.slice

pub scaled_mul-height-requires : goal.scaled_mul-height-requires
scaled_mul-height-requires c = rw (c.requires.decay_is, c.series.ensures) (height_room c.requires.slice)

pub scaled_mul-requires : goal.scaled_mul-requires
scaled_mul-requires c =
    let a = c.requires in
    rw (c.scaled_mul-height.ensures.is, c.series.ensures, a.decay_is, c.from_naturals.ensures, scaled_pair) (area_room a.slice)

pub returns : goal.returns
returns c =
    rw (c.scaled_mul.ensures.is, c.from_naturals.ensures, c.scaled_mul-height.ensures.is, c.series.ensures, c.requires.decay_is)
    (heat_slice_is _ _ _)
