-- What each callee ensures is put for its result. Assumes nothing.
use mathlib.Core.Path.{refl}
use Rattle.model.specs.Share.{surface_factor}
use Rattle.attained.proofs.Parts.{factor_room, lost_is, lost_part}
use Rattle.attained.proofs.surface_factor.Goals as goal

pub scaled_mul-requires : goal.scaled_mul-requires
scaled_mul-requires c = rw c.rest_of-missing.ensures (factor_room c.requires)

pub rest_of-requires : goal.rest_of-requires
rest_of-requires c =
    rw (c.at_most-lost.ensures.is, c.scaled_mul.ensures.is, c.rest_of-missing.ensures, lost_is c.requires) (lost_part c.requires)

pub returns : goal.returns
unfolding surface_factor
returns c =
    rw (c.rest_of.ensures, c.at_most-lost.ensures.is, c.scaled_mul.ensures.is, c.rest_of-missing.ensures, lost_is c.requires) refl
