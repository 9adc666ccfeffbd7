-- What each callee ensures is put for its result; no part passes 1. Assumes nothing.
use mathlib.Core.Path.{◌≡◌, refl}
use Rattle.bounds.specs.Pair.{Pair, as_bounds, as_pair}
use Rattle.model.specs.Scale.{exactly}
use Rattle.model.specs.Share.{beta, surface_factor}
use Rattle.attained.proofs.Parts.{factor_asked, share_room, share_is}
use Rattle.attained.proofs.attained_share.Goals as goal

pub surface_factor-surface-requires : goal.surface_factor-surface-requires
surface_factor-surface-requires c = rw (c.whole.ensures.is, c.beta.ensures) (factor_asked _ _ c.requires.k_most)

pub scaled_mul-requires : goal.scaled_mul-requires
scaled_mul-requires c =
    let factor : Pair = surface_factor (exactly c.args.k) (beta (as_pair c.args.sums.heat) (as_pair c.args.sums.logarithm)) in
    let factor_is : c.surface_factor-surface.result ≡ as_bounds factor = rw (c.surface_factor-surface.ensures, c.beta.ensures, c.whole.ensures.is) refl in
    rw (factor_is, c.attainment-attained.ensures) (share_room _ _ _ _ _ _)

pub returns : goal.returns
returns c =
    let factor : Pair = surface_factor (exactly c.args.k) (beta (as_pair c.args.sums.heat) (as_pair c.args.sums.logarithm)) in
    let factor_is : c.surface_factor-surface.result ≡ as_bounds factor = rw (c.surface_factor-surface.ensures, c.beta.ensures, c.whole.ensures.is) refl in
    rw (c.at_most.ensures.is, c.scaled_mul.ensures.is, c.attainment-attained.ensures, factor_is) (share_is _ _)
