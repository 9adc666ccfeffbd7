-- What each callee ensures is put for its result. Assumes nothing.
use mathlib.Core.Path.{◌≡◌, refl}
use Rattle.bounds.specs.Pair.{as_bounds}
use Rattle.bounds.proofs.Pairs.{times_pair}
use Rattle.model.specs.Share.{cable_logarithm}
use Rattle.attained.proofs.Sources.{cable_times_room, cable_heat_asked}
use Rattle.attained.proofs.cable_sums.Goals as goal

pub times-logarithm-requires : goal.times-logarithm-requires
times-logarithm-requires c = rw c.logarithm.ensures (cable_times_room c.requires)

pub heat_of-heat-requires : goal.heat_of-heat-requires
unfolding cable_logarithm
heat_of-heat-requires c =
    let logarithm_is : c.times-logarithm.result ≡ as_bounds (cable_logarithm c.args.d c.args.l) = rw (c.times-logarithm.ensures.is, c.logarithm.ensures) (times_pair _ 2) in
    rw logarithm_is (cable_heat_asked c.requires)

pub returns : goal.returns
unfolding cable_logarithm
returns c =
    let logarithm_is : c.times-logarithm.result ≡ as_bounds (cable_logarithm c.args.d c.args.l) = rw (c.times-logarithm.ensures.is, c.logarithm.ensures) (times_pair _ 2) in
    rw (c.heat_of-heat.ensures, logarithm_is) refl
