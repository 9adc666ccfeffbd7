-- What each callee ensures is put for its result. Assumes nothing.
use mathlib.Core.Path.{◌≡◌, refl}
use Rattle.exact.specs.Share.{Source}
use Rattle.bounds.specs.Pair.{as_bounds}
use Rattle.model.specs.Share.{source_logarithm, source_integral}
use Rattle.attained.proofs.Sources.{source_heat_asked, heat_room, logarithm_room, joined_is}
use Rattle.attained.proofs.joined.Goals as goal

pub heat_of-heat-requires : goal.heat_of-heat-requires
unfolding source_logarithm
heat_of-heat-requires c =
    let source : Source = record { near = c.args.near; image = c.args.image } in
    let own_is : c.logarithm-own.result ≡ as_bounds (source_logarithm source) = c.logarithm-own.ensures in
    rw own_is (source_heat_asked c.requires)

pub add-heat_sum-requires : goal.add-heat_sum-requires
unfolding source_logarithm source_integral
add-heat_sum-requires c =
    let source : Source = record { near = c.args.near; image = c.args.image } in
    let own_is : c.logarithm-own.result ≡ as_bounds (source_logarithm source) = c.logarithm-own.ensures in
    let heat_is : c.heat_of-heat.result ≡ as_bounds (source_integral c.args.diffusion source) = rw (c.heat_of-heat.ensures, own_is) refl in
    rw heat_is (heat_room c.requires)

pub add-logarithm_sum-requires : goal.add-logarithm_sum-requires
unfolding source_logarithm
add-logarithm_sum-requires c =
    let source : Source = record { near = c.args.near; image = c.args.image } in
    let own_is : c.logarithm-own.result ≡ as_bounds (source_logarithm source) = c.logarithm-own.ensures in
    rw own_is (logarithm_room c.requires)

pub returns : goal.returns
unfolding source_logarithm source_integral
returns c =
    let source : Source = record { near = c.args.near; image = c.args.image } in
    let own_is : c.logarithm-own.result ≡ as_bounds (source_logarithm source) = c.logarithm-own.ensures in
    let heat_is : c.heat_of-heat.result ≡ as_bounds (source_integral c.args.diffusion source) = rw (c.heat_of-heat.ensures, own_is) refl in
    rw (c.add-logarithm_sum.ensures.is, c.add-heat_sum.ensures.is, heat_is, own_is) (joined_is c.requires)
