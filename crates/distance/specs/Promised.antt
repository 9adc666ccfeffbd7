-- A pair of whole millionths around an exact value, at most a width wide. Document 01, 'The attained share': "The answer is a pair, low and high, in millionths:
-- 0 ≤ low ≤ high ≤ 1,000,000, the exact G between them, high − low at most 50", for any width in place of 50 and any exact value.
use Rattle.std.specs.Prelude.{ℕ, pos, ◌+ℤ◌, ◌≤ℤ◌}
use Rattle.bounds.specs.declared.Bounds.{Bounds}
use Rattle.exact.specs.Value.{Value}
use Rattle.distance.specs.Around.{Around}

-- in millionths, from nothing to all
pub record Millionths (b : Bounds) : Type 0 where
  pub low_from : pos 0 ≤ℤ b.low
  pub low_to : b.low ≤ℤ pos 1000000
  pub high_from : pos 0 ≤ℤ b.high
  pub high_to : b.high ≤ℤ pos 1000000

pub record Promised (width : ℕ) (exact : Value) (b : Bounds) : Type 0 where
  pub range : Millionths b
  pub ordered : b.low ≤ℤ b.high
  pub narrow : b.high ≤ℤ (b.low +ℤ pos width)
  pub around : Around b exact
