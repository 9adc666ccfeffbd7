-- `pair::pair_of` hands the sums and the cable's other fields on to the fixed point. Assumes nothing.
use mathlib.Core.Path.{refl, sym, ◌∙◌}
use Rattle.attained.proofs.Group.{attained_is}
use Rattle.share_rules.specs.Pair.{share_pair_is}
use Rattle.pair.proofs.AtNeighbour.{share_of_sums_asked}
use Rattle.pair.proofs.pair_of.Goals as goal

pub attained_share-requires : goal.attained_share-requires
attained_share-requires c =
    share_of_sums_asked (record { minutes = c.args.minutes; timed = c.requires; seconds_are = refl }) c.sums_in.ensures

pub returns : goal.returns
returns c =
    c.attained_share.ensures ∙ rw c.sums_in.ensures (attained_is _ _ _ _ _ _ _ _ _) ∙ sym (share_pair_is _ _)
