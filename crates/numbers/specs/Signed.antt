-- Fractions of either sign, each the difference of two fractions not below 0.
use Rattle.std.specs.Prelude.{Bool, true, false, ℤ}
use Rattle.numbers.specs.Fraction.{Frac, ◌≼◌, ◌≺◌, ◌≼?◌, ◌⊕◌, ◌⊗◌, ◌∸◌, whole, 0F}
use Rattle.numbers.specs.Integer.{up, dn}

pub record Signed : Type 0 where
  pub plus : Frac
  pub minus : Frac

-- at most: a⁺ − a⁻ ≤ b⁺ − b⁻
infix 4 ◌≼ₛ◌
pub record ◌≼ₛ◌ (a b : Signed) : Type 0 where
  pub le : a.plus ⊕ b.minus ≼ b.plus ⊕ a.minus

-- below
infix 4 ◌≺ₛ◌
pub record ◌≺ₛ◌ (a b : Signed) : Type 0 where
  pub lt : a.plus ⊕ b.minus ≺ b.plus ⊕ a.minus

-- the same value
infix 4 ◌≈ₛ◌
pub record ◌≈ₛ◌ (a b : Signed) : Type 0 where
  pub to : a ≼ₛ b
  pub from : b ≼ₛ a

abbrev pub of_frac : Frac → Signed
of_frac a = record { plus = a; minus = 0F }

-- an integer
abbrev pub of_int : ℤ → Signed
of_int z = record { plus = whole (up z); minus = whole (dn z) }

-- what of it is above 0
abbrev pub amount : Signed → Frac
amount a = a.plus ∸ a.minus

abbrev pub neg_s : Signed → Signed
neg_s a = record { plus = a.minus; minus = a.plus }

abbrev pub add_s : Signed → Signed → Signed
add_s a b = record { plus = a.plus ⊕ b.plus; minus = a.minus ⊕ b.minus }

abbrev pub mul_s : Signed → Signed → Signed
mul_s a b = record { plus = a.plus ⊗ b.plus ⊕ a.minus ⊗ b.minus; minus = a.plus ⊗ b.minus ⊕ a.minus ⊗ b.plus }

-- the test of `◌≼ₛ◌`
infix 4 ◌≼ₛ?◌
abbrev pub ◌≼ₛ?◌ : Signed → Signed → Bool
a ≼ₛ? b = a.plus ⊕ b.minus ≼? b.plus ⊕ a.minus

unfoldable pub max_s : Signed → Signed → Signed
max_s a b = elim (a ≼ₛ? b) [ true ↦ b | false ↦ a ]

unfoldable pub min_s : Signed → Signed → Signed
min_s a b = elim (a ≼ₛ? b) [ true ↦ a | false ↦ b ]

-- the least and the greatest of the four products of the ends l, u and c, d
abbrev pub least4 : Signed → Signed → Signed → Signed → Signed
least4 l u c d = min_s (min_s (mul_s l c) (mul_s l d)) (min_s (mul_s u c) (mul_s u d))

abbrev pub most4 : Signed → Signed → Signed → Signed → Signed
most4 l u c d = max_s (max_s (mul_s l c) (mul_s l d)) (max_s (mul_s u c) (mul_s u d))
