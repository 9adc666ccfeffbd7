-- Fractions not below 0: a numerator over a positive denominator, not reduced. Document 01, 'Exact values without reals', speaks of these.
-- Two written alike may differ in their proof of `pos`, so they are compared by `◌≈◌` and never by `◌≡◌`.
use Rattle.std.specs.Prelude.{ℕ, zero, suc, ◌+◌, ◌*◌, ◌-◌, ◌≤◌, ◌<◌, Bool, leb}
use Rattle.std.proofs.Common.{mul-pos, zero-lt-suc}

pub record Frac : Type 0 where
  pub num : ℕ
  pub den : ℕ
  pub pos : 0 < den

-- at most, by cross multiplication
infix 4 ◌≼◌
pub record ◌≼◌ (a b : Frac) : Type 0 where
  pub cross : a.num * b.den ≤ b.num * a.den

-- below
infix 4 ◌≺◌
pub record ◌≺◌ (a b : Frac) : Type 0 where
  pub cross : a.num * b.den < b.num * a.den

-- the same value
infix 4 ◌≈◌
pub record ◌≈◌ (a b : Frac) : Type 0 where
  pub to : a ≼ b
  pub from : b ≼ a

-- the test of `◌≼◌`
infix 4 ◌≼?◌
abbrev pub ◌≼?◌ : Frac → Frac → Bool
a ≼? b = leb (a.num * b.den) (b.num * a.den)

-- n over d; 0 where d is 0
infix 8 ◌per◌
abbrev pub ◌per◌ : ℕ → ℕ → Frac
n per zero = record { num = 0; den = 1; pos = zero-lt-suc 0 }
n per (suc d) = record { num = n; den = suc d; pos = zero-lt-suc d }

abbrev pub whole : ℕ → Frac
whole n = n per 1

abbrev pub 0F : Frac
0F = whole 0

abbrev pub 1F : Frac
1F = whole 1

infixl 6 ◌⊕◌
abbrev pub ◌⊕◌ : Frac → Frac → Frac
a ⊕ b = record { num = a.num * b.den + b.num * a.den; den = a.den * b.den; pos = mul-pos a.pos b.pos }

infixl 7 ◌⊗◌
abbrev pub ◌⊗◌ : Frac → Frac → Frac
a ⊗ b = record { num = a.num * b.num; den = a.den * b.den; pos = mul-pos a.pos b.pos }

-- the quotient; 0 where the divisor is 0
infixl 7 ◌÷◌
abbrev pub ◌÷◌ : Frac → Frac → Frac
a ÷ b = (a.num * b.den) per (a.den * b.num)

-- a less b, cut off at 0
infixl 6 ◌∸◌
unfoldable pub ◌∸◌ : Frac → Frac → Frac
a ∸ b = record { num = a.num * b.den - b.num * a.den; den = a.den * b.den; pos = mul-pos a.pos b.pos }

abbrev pub power : Frac → ℕ → Frac
power a zero = 1F
power a (suc k) = power a k ⊗ a

-- the sum of f i for i below n
abbrev pub sum : (ℕ → Frac) → ℕ → Frac
sum f zero = 0F
sum f (suc n) = sum f n ⊕ f n
