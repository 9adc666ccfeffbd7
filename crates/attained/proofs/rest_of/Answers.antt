-- A difference is the sum with the negation. Assumes nothing.
use Rattle.attained.proofs.Parts.{rest_negates, rest_room, rest_is}
use Rattle.attained.proofs.rest_of.Goals as goal

pub neg-requires : goal.neg-requires
neg-requires c = rest_negates c.requires

pub add-requires : goal.add-requires
add-requires c = rw (c.whole.ensures.is, c.neg.ensures.is) (rest_room c.requires)

pub returns : goal.returns
returns c = rw (c.add.ensures.is, c.neg.ensures.is, c.whole.ensures.is) (rest_is c.requires)
