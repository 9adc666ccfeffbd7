-- Both exponentials are at most 1, so what is yet to rise is at most the whole. Assumes nothing.
use mathlib.Core.Path.{◌≡◌, ◌∙◌}
use Prim.Native.Nat.{◌*◌}
use native.Mathlib.Omega.{arith}
use Rattle.bounds.specs.Pair.{Pair, as_bounds, less_p}
use Rattle.bounds.proofs.Pairs.{add_pair, divided_pair}
use Rattle.model.specs.Scale.{attainment_one}
use Rattle.model.specs.Share.{attainment_of, attainment}
use Rattle.attained.proofs.Parts.{weighted_room, weighted_is, yet_to_rise, yet_to_rise_room, yet_to_rise_part}
use Rattle.attained.proofs.attainment.Goals as goal

pub times-fast_part-requires : goal.times-fast_part-requires
times-fast_part-requires c = rw c.exp_neg.ensures (weighted_room _ _ (omega arith))

pub times-slow_part-requires : goal.times-slow_part-requires
times-slow_part-requires c = rw c.exp_neg-2.ensures (weighted_room _ _ (omega arith))

pub add-requires : goal.add-requires
add-requires c =
    rw (weighted_is _ _ c.exp_neg.ensures c.times-fast_part.ensures.is, weighted_is _ _ c.exp_neg-2.ensures c.times-slow_part.ensures.is)
    (yet_to_rise_room _ _ _ (omega arith))

pub rest_of-requires : goal.rest_of-requires
rest_of-requires c =
    let yet : Pair = yet_to_rise (c.args.fast * c.args.seconds) (c.args.slow * c.args.seconds) c.args.w in
    let yet_is : c.add.result ≡ as_bounds yet =
    rw (c.add.ensures.is, weighted_is _ _ c.exp_neg.ensures c.times-fast_part.ensures.is, weighted_is _ _ c.exp_neg-2.ensures c.times-slow_part.ensures.is)
    (add_pair _ _) in
    rw yet_is (yet_to_rise_part _ _ _ (omega arith))

pub returns : goal.returns
unfolding attainment attainment_of
returns c =
    let yet : Pair = yet_to_rise (c.args.fast * c.args.seconds) (c.args.slow * c.args.seconds) c.args.w in
    let yet_is : c.add.result ≡ as_bounds yet =
    rw (c.add.ensures.is, weighted_is _ _ c.exp_neg.ensures c.times-fast_part.ensures.is, weighted_is _ _ c.exp_neg-2.ensures c.times-slow_part.ensures.is)
    (add_pair _ _) in
    c.divided.ensures.is
    ∙ rw (c.rest_of.ensures, yet_is) (divided_pair (less_p attainment_one yet) (omega arith))
