-- What is shown of the share's pair. Document 01, 'The attained share': "The answer is a pair, low and high, in millionths: 0 ≤ low ≤ high ≤ 1,000,000,
-- the exact G between them, high − low at most 50". The fixed point's own pair is narrower.
use Rattle.std.specs.Prelude.{ℕ, ◌+◌, ◌≤◌}
use Rattle.bounds.specs.Pair.{Pair}
use Rattle.exact.specs.Share.{CableNumbers, share}
use Rattle.model.specs.Scale.{million}
use Rattle.model.specs.Width.{inner_width}
use Rattle.model.specs.Encloses.{Encloses}

pub record ShareEnclosed (c : CableNumbers) (minutes : ℕ) (b : Pair) : Type 0 where
  pub ordered : b.low ≤ b.high
  pub at_most_one : b.high ≤ million
  pub narrow : b.high ≤ b.low + inner_width
  pub encloses : Encloses million b (share c minutes)
