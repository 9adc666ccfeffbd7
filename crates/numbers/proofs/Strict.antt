-- Strictly below; parts of a fraction above 0; and what is within every e above 0 of being at most b is at most b.
use Prim.Native.Nat.{suc, ◌+◌, ◌*◌, ◌≤◌, ◌<◌}
use mathlib.Core.List.{[], ◌∷◌}
use mathlib.Core.Bool.{Bool, true, false, not}
use lib.Dec.{T, leb, leb→le, nleb→lt}
use native.Mathlib.Nat.{mul-pos, mul-le-mul_right, zero-lt-suc}
use native.Mathlib.Omega.{arith}
use Rattle.numbers.specs.Fraction.{Frac, ◌≼◌, ◌≺◌, ◌≼?◌, ◌per◌, ◌⊕◌, ◌⊗◌, ◌÷◌, 0F, 1F}
use Rattle.numbers.proofs.Fractions.{trans≼, cancel⊕, test_is, ÷-times, ÷-above, above}
use Rattle.numbers.proofs.FractionProver.{qv, qn, qf, ◌+'◌, ◌*'◌, q_le, q_from, eq}

-- a is below b exactly where b is not at most a
pub below_not : {a b : Frac} → a ≺ b → b ≼ a → ⊥
below_not h k = omega (arith, h.cross, k.cross)

pub below_of : {a b : Frac} → (b ≼ a → ⊥) → a ≺ b
below_of {a} {b} f = record { cross = go (b ≼? a) (test_is b a) (nleb→lt (b.num * a.den) (a.num * b.den)) }
  where
    go : (o : Bool) → (T o → b ≼ a) → (T (not o) → a.num * b.den < b.num * a.den) → a.num * b.den < b.num * a.den
    go true p q = absurd (f (p tt))
    go false p q = q tt

pub le_strict : {a b c : Frac} → a ≼ b → b ≺ c → a ≺ c
le_strict h k = below_of (λ r. below_not k (trans≼ r h))

pub strict_le : {a b c : Frac} → a ≺ b → b ≼ c → a ≺ c
strict_le h k = below_of (λ r. below_not h (trans≼ k r))

pub above_strict : {a : Frac} → 0 < a.num → 0F ≺ a
above_strict z = record { cross = omega arith }

pub strictly : {a b : Frac} (c : Frac) → 0 < c.num → a ⊕ c ≼ b → a ≺ b
strictly {a} {b} c z h = below_of (λ r. below_not (above_strict z) (cancel⊕ a (trans≼ (q_le (a ∷ c ∷ []) (qv 1 +' qv 0) (qv 0 +' qv 1) tt) (trans≼ h (trans≼ r (q_le (a ∷ []) (qv 0) (qn 0 +' qv 0) tt))))))

-- half
abbrev pub half : Frac → Frac
half e = e ⊗ 1 per 2

pub half_above : (e : Frac) → 0 < e.num → 0 < (half e).num
half_above e z = omega arith

pub halves_in : (e : Frac) → half e ⊕ half e ≼ e
halves_in e = q_le (e ∷ []) (qv 0 *' qf 1 2 +' qv 0 *' qf 1 2) (qv 0) tt

-- a part of h that K times is still at most h
abbrev pub portion : Frac → Frac → Frac
portion h K = h ÷ (K ⊕ 1F)

more_above : (K : Frac) → 0 < (K ⊕ 1F).num
more_above K = above {a = 1F} (zero-lt-suc 0) (q_le (K ∷ []) (qn 1) (qv 0 +' qn 1) tt)

pub portion_above : (h K : Frac) → 0 < h.num → 0 < (portion h K).num
portion_above h K z = ÷-above h (K ⊕ 1F) z (more_above K)

pub portion_in : (h K : Frac) → portion h K ⊗ K ≼ h
portion_in h K = q_from (portion h K ∷ K ∷ h ∷ []) (eq (qn 1) (qn 0) (qv 0 *' (qv 1 +' qn 1)) (qv 2) ∷ []) (qv 0 *' qv 1) (qv 2) tt (÷-times h (K ⊕ 1F) (more_above K))

-- a unit below the distance of any two fractions with these denominators
abbrev unit : Frac → Frac → Frac
unit a b = record { num = 1; den = 2 * (a.den * b.den); pos = mul-pos {m = 2} (omega arith) (mul-pos a.pos b.pos) }

pub within : (a b : Frac) → ((e : Frac) → 0 < e.num → a ≼ b ⊕ e) → a ≼ b
within a b h = record { cross = go (leb (a.num * b.den) (b.num * a.den)) (leb→le (a.num * b.den) (b.num * a.den)) (nleb→lt (a.num * b.den) (b.num * a.den)) (h (unit a b) (omega arith)).cross }
  where
    go : (o : Bool) → (T o → a.num * b.den ≤ b.num * a.den) → (T (not o) → b.num * a.den < a.num * b.den)
        → a.num * (b.den * (2 * (a.den * b.den))) ≤ (b.num * (2 * (a.den * b.den)) + 1 * b.den) * a.den → a.num * b.den ≤ b.num * a.den
    go true p q k = p tt
    go false p q k = let r : suc (b.num * a.den) ≤ a.num * b.den = q tt in omega (arith, mul-le-mul_right (2 * (a.den * b.den)) r, mul-pos a.pos b.pos)
