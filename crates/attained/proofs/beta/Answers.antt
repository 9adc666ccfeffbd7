-- What each method ensures is put for its result. Assumes nothing.
use Rattle.bounds.specs.Operations.{quotient_b}
use Rattle.bounds.proofs.Pairs.{at_most_pair}
use Rattle.model.specs.Scale.{beta_one}
use Rattle.model.specs.Share.{beta}
use Rattle.attained.proofs.beta.Goals as goal

pub returns : goal.returns
unfolding beta quotient_b
returns c = rw (c.at_most.ensures.is, c.quotient.ensures.is) (at_most_pair _ beta_one)
