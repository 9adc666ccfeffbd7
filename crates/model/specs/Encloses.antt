-- What the theorems of this crate say of a pair of whole numbers and an exact value.
use Rattle.std.specs.Prelude.{ℕ}
use Rattle.numbers.specs.Fraction.{Frac, ◌per◌}
use Rattle.numbers.specs.Signed.{of_frac}
use Rattle.bounds.specs.Pair.{Pair}
use Rattle.exact.specs.Value.{Value, AtMost, AtLeast}
use Rattle.model.specs.Scale.{one}

-- n units of 2^-30
abbrev pub unit : ℕ → Frac
unit n = n per one

-- In units of 1/scale the low end is at most the exact value, the high end at least.
pub record Encloses (scale : ℕ) (b : Pair) (x : Value) : Type 0 where
  pub low_at_most : AtMost (of_frac (b.low per scale)) x
  pub high_at_least : AtLeast (of_frac (b.high per scale)) x
