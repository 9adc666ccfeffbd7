-- One slice with far end y, r = 1/y, at the distance ζ from it: the series of e^(X ζ)/(1 − ζ/y), its two bounds, and the tangent law of its primitive.
-- X is the exponent as a function of the place: X u = u for e^(−u)/u, X u = 0 for 1/u; one proof serves J and ln.
use Prim.Native.Nat.{ℕ, zero, suc, ◌+◌}
use mathlib.Core.List.{[], ◌∷◌}
use mathlib.Core.Logic.{◌⊎◌, inl, inr}
use native.Mathlib.Nat.{zero-lt-suc}
use Rattle.numbers.specs.Fraction.{Frac, ◌≼◌, ◌≈◌, ◌per◌, whole, 0F, 1F, ◌⊕◌, ◌⊗◌, power}
use Rattle.numbers.proofs.Fractions.{refl≼, trans≼, add≼, mul≼, either, refl≈, per_times, whole_next}
use Rattle.numbers.proofs.FractionProver.{qv, qn, qf, ◌+'◌, ◌*'◌, q_le, q_eq, le, eq, q_from, q_eqfrom}
use Rattle.numbers.proofs.Subtraction.{rearrange}
use Rattle.exact.specs.Exponential.{term, exp_sum, exp_sum_over}
use Rattle.exact.proofs.Exponential.{term≼, exp_sum≼, sum_over}
use Rattle.exact.proofs.Product.{sum_product_above, sum_product_below}
use Rattle.exact.proofs.Certified.{Below, Above}

-- g_0 = 1, g_(k+1) = ζ/y·g_k + (X ζ)^(k+1)/(k+1)!
abbrev pub slice_term : (Frac → Frac) → Frac → Frac → ℕ → Frac
slice_term X r ζ zero = 1F
slice_term X r ζ (suc k) = ζ ⊗ r ⊗ slice_term X r ζ k ⊕ term (X ζ) (suc k)

-- the sum of g_k for k from 0 to K
abbrev pub slice_sum : (Frac → Frac) → Frac → Frac → ℕ → Frac
slice_sum X r ζ zero = slice_term X r ζ 0
slice_sum X r ζ (suc k) = slice_sum X r ζ k ⊕ slice_term X r ζ (suc k)

-- the sum with its allowance for the rest
abbrev pub slice_sum_over : (Frac → Frac) → Frac → Frac → ℕ → Frac
slice_sum_over X r ζ k = slice_sum X r ζ k ⊕ whole 2 ⊗ slice_term X r ζ k

-- ζ·g_k/(k+1), and the sum for k from 0 to K
abbrev pub area_term : (Frac → Frac) → Frac → Frac → ℕ → Frac
area_term X r ζ k = ζ ⊗ slice_term X r ζ k ⊗ (1 per (suc k))

abbrev pub slice_area : (Frac → Frac) → Frac → Frac → ℕ → Frac
slice_area X r ζ zero = area_term X r ζ 0
slice_area X r ζ (suc k) = slice_area X r ζ k ⊕ area_term X r ζ (suc k)

abbrev pub slice_area_over : (Frac → Frac) → Frac → Frac → ℕ → Frac
slice_area_over X r ζ k = slice_area X r ζ k ⊕ whole 2 ⊗ area_term X r ζ k

-- (1 - z)·S + z·g = E
pub key : (X : Frac → Frac) (r ζ : Frac) (k : ℕ) → slice_sum X r ζ k ⊕ ζ ⊗ r ⊗ slice_term X r ζ k ≈ exp_sum (X ζ) k ⊕ ζ ⊗ r ⊗ slice_sum X r ζ k
key X r ζ zero = refl≈ _
key X r ζ (suc k) = q_eqfrom (exp_sum (X ζ) k ∷ term (X ζ) (suc k) ∷ ζ ∷ r ∷ slice_sum X r ζ k ∷ slice_term X r ζ k ∷ [])
    (eq (qn 1) (qn 0) (qv 4 +' qv 2 *' qv 3 *' qv 5) (qv 0 +' qv 2 *' qv 3 *' qv 4) ∷ [])
    (qv 4 +' (qv 2 *' qv 3 *' qv 5 +' qv 1) +' qv 2 *' qv 3 *' (qv 2 *' qv 3 *' qv 5 +' qv 1)) (qv 0 +' qv 1 +' qv 2 *' qv 3 *' (qv 4 +' (qv 2 *' qv 3 *' qv 5 +' qv 1))) tt tt
    (key X r ζ k)

-- S·u/y ≤ E (X ζ), for u + ζ ≤ y
pub sum_under : (X : Frac → Frac) (r y u ζ : Frac) (k : ℕ) → r ⊗ y ≈ 1F → u ⊕ ζ ≼ y → slice_sum X r ζ k ⊗ r ⊗ u ≼ exp_sum (X ζ) k
sum_under X r y u ζ k e h = q_from (exp_sum (X ζ) k ∷ slice_sum X r ζ k ∷ r ∷ u ∷ y ∷ ζ ∷ slice_term X r ζ k ∷ [])
    (le (qv 1 *' qv 2) (qv 3 +' qv 5) (qv 4) ∷ eq (qv 1) (qn 0) (qv 2 *' qv 4) (qn 1) ∷ eq (qn 1) (qn 0) (qv 1 +' qv 5 *' qv 2 *' qv 6) (qv 0 +' qv 5 *' qv 2 *' qv 1) ∷ [])
    (qv 1 *' qv 2 *' qv 3) (qv 0) tt h e (key X r ζ k)

term_in_slice : (X : Frac → Frac) (r ζ : Frac) (k : ℕ) → term (X ζ) k ≼ slice_term X r ζ k
term_in_slice X r ζ zero = refl≼ 1F
term_in_slice X r ζ (suc k) = q_le (term (X ζ) (suc k) ∷ ζ ∷ r ∷ slice_term X r ζ k ∷ []) (qv 0) (qv 1 *' qv 2 *' qv 3 +' qv 0) tt

quarter : (x : Frac) (n : ℕ) → whole 4 ⊗ x ≼ whole (suc n) → whole 4 ⊗ term x (suc n) ≼ term x n
quarter x n h = q_from (term x n ∷ x ∷ (1 per (suc n)) ∷ whole (suc n) ∷ []) (le (qv 0 *' qv 2) (qn 4 *' qv 1) (qv 3) ∷ eq (qv 0) (qn 0) (qv 2 *' qv 3) (qn 1) ∷ []) (qn 4 *' (qv 0 *' qv 1 *' qv 2)) (qv 0) tt h (per_times 1 (suc n) (zero-lt-suc n))

-- what a distance ζ from the far end must keep for the allowance to be enough
pub record Short (X : Frac → Frac) (y ζ : Frac) (k : ℕ) : Type 0 where
  pub half : whole 2 ⊗ ζ ≼ y
  pub fourth : whole 4 ⊗ X ζ ≼ whole (suc k)
  pub double : whole 2 ⊗ X ζ ≼ whole k

-- B (X ζ) ≤ (S + 2g)·u/y, for y ≤ u + ζ
pub sum_over_end : (X : Frac → Frac) (r y u ζ : Frac) (k : ℕ) → r ⊗ y ≈ 1F → y ≼ u ⊕ ζ → Short X y ζ k → exp_sum_over (X ζ) k ≼ slice_sum_over X r ζ k ⊗ r ⊗ u
sum_over_end X r y u ζ k e h s = q_from (slice_sum X r ζ k ∷ slice_term X r ζ k ∷ r ∷ u ∷ exp_sum (X ζ) k ∷ term (X ζ) (suc k) ∷ ζ ∷ y ∷ term (X ζ) k ∷ [])
    (le ((qv 0 +' qn 2 *' qv 1) *' qv 2) (qv 7) (qv 3 +' qv 6) ∷ eq (qn 0) (qv 0 +' qn 2 *' qv 1) (qv 2 *' qv 7) (qn 1) ∷ eq (qn 0) (qn 1) (qv 0 +' qv 6 *' qv 2 *' qv 1) (qv 4 +' qv 6 *' qv 2 *' qv 0)
    ∷ le (qf 3 2 *' qv 2 *' qv 1) (qn 2 *' qv 6) (qv 7) ∷ eq (qf 3 2 *' qv 1) (qn 0) (qv 2 *' qv 7) (qn 1) ∷ le (qf 1 2) (qn 4 *' qv 5) (qv 8) ∷ le (qf 1 2) (qv 8) (qv 1) ∷ [])
    (qv 4 +' qn 2 *' qv 5) ((qv 0 +' qn 2 *' qv 1) *' qv 2 *' qv 3) tt
    h e (key X r ζ k) s.half e (quarter (X ζ) k s.fourth) (term_in_slice X r ζ k)

-- ---- the tangent below the curve: a^(k+1) + (k+1)·a^k·(b − a) ≤ b^(k+1), on either side
square : (a b : Frac) → whole 2 ⊗ (a ⊗ b) ≼ a ⊗ a ⊕ b ⊗ b
square a b = go (either a b)
  where
    go : a ≼ b ⊎ b ≼ a → whole 2 ⊗ (a ⊗ b) ≼ a ⊗ a ⊕ b ⊗ b
    go (inl h) = trans≼ (q_le (a ∷ b ∷ []) (qn 2 *' (qv 0 *' qv 1)) (qv 0 *' qv 1 +' qv 1 *' qv 0) tt) (rearrange h h)
    go (inr h) = trans≼ (q_le (a ∷ b ∷ []) (qn 2 *' (qv 0 *' qv 1)) (qv 1 *' qv 0 +' qv 0 *' qv 1) tt) (trans≼ (rearrange h h) (q_le (a ∷ b ∷ []) (qv 1 *' qv 1 +' qv 0 *' qv 0) (qv 0 *' qv 0 +' qv 1 *' qv 1) tt))

pub tangent : (a b : Frac) (k : ℕ) → power a (suc k) ⊕ whole (suc k) ⊗ power a k ⊗ b ≼ power b (suc k) ⊕ whole (suc k) ⊗ power a (suc k)
tangent a b zero = q_le (a ∷ b ∷ []) (qn 1 *' qv 0 +' qn 1 *' qn 1 *' qv 1) (qn 1 *' qv 1 +' qn 1 *' (qn 1 *' qv 0)) tt
tangent a b (suc k) = q_from (power b (suc k) ∷ b ∷ whole (suc (suc k)) ∷ power a k ∷ a ∷ whole (suc k) ∷ [])
    (le (qv 1) (qv 3 *' qv 4 +' qv 5 *' qv 3 *' qv 1) (qv 0 +' qv 5 *' (qv 3 *' qv 4)) ∷ le (qv 5 *' qv 3) (qn 2 *' (qv 4 *' qv 1)) (qv 4 *' qv 4 +' qv 1 *' qv 1)
    ∷ eq (qv 3 *' qv 4 *' qv 1) (qv 3 *' qv 4 *' qv 4) (qv 2) (qv 5 +' qn 1) ∷ [])
    (qv 3 *' qv 4 *' qv 4 +' qv 2 *' (qv 3 *' qv 4) *' qv 1) (qv 0 *' qv 1 +' qv 2 *' (qv 3 *' qv 4 *' qv 4)) tt
    (tangent a b k) (square a b) (whole_next (suc k))

-- g_k = c_k·ζ^k
abbrev coefficient : Frac → Frac → ℕ → Frac
coefficient τ r zero = 1F
coefficient τ r (suc k) = r ⊗ coefficient τ r k ⊕ term τ (suc k)

module _ (τ : Frac) (X : Frac → Frac) (hom : (a : Frac) → X a ≈ τ ⊗ a) where
  exponent_add : (y u ζ : Frac) → u ⊕ ζ ≼ y → X ζ ⊕ X u ≼ X y
  exponent_add y u ζ h = q_from (X y ∷ X ζ ∷ X u ∷ τ ∷ ζ ∷ u ∷ y ∷ [])
      (eq (qn 1) (qn 0) (qv 1) (qv 3 *' qv 4) ∷ eq (qn 1) (qn 0) (qv 2) (qv 3 *' qv 5) ∷ le (qv 3) (qv 5 +' qv 4) (qv 6) ∷ eq (qn 0) (qn 1) (qv 0) (qv 3 *' qv 6) ∷ [])
      (qv 1 +' qv 2) (qv 0) tt (hom ζ) (hom u) h (hom y)

  exponent_over : (y u ζ : Frac) → y ≼ u ⊕ ζ → X y ≼ X ζ ⊕ X u
  exponent_over y u ζ h = q_from (X ζ ∷ X u ∷ X y ∷ τ ∷ y ∷ u ∷ ζ ∷ [])
      (eq (qn 1) (qn 0) (qv 2) (qv 3 *' qv 4) ∷ le (qv 3) (qv 4) (qv 5 +' qv 6) ∷ eq (qn 0) (qn 1) (qv 0) (qv 3 *' qv 6) ∷ eq (qn 0) (qn 1) (qv 1) (qv 3 *' qv 5) ∷ [])
      (qv 2) (qv 0 +' qv 1) tt (hom y) h (hom ζ) (hom u)

  pub exponent≼ : {a b : Frac} → a ≼ b → X a ≼ X b
  exponent≼ {a} {b} h = q_from (X a ∷ X b ∷ τ ∷ a ∷ b ∷ []) (eq (qn 1) (qn 0) (qv 0) (qv 2 *' qv 3) ∷ le (qv 2) (qv 3) (qv 4) ∷ eq (qn 0) (qn 1) (qv 1) (qv 2 *' qv 4) ∷ []) (qv 0) (qv 1) tt (hom a) h (hom b)

  -- the slice's height L·S/y, times the place u, is below e^(-X u) ..
  pub below_at : (r y u ζ L : Frac) (k : ℕ) → r ⊗ y ≈ 1F → u ⊕ ζ ≼ y → Below L (X y) → Below (L ⊗ slice_sum X r ζ k ⊗ r ⊗ u) (X u)
  below_at r y u ζ L k e h b = record {
    under = λ m. q_from (L ∷ slice_sum X r ζ k ∷ r ∷ u ∷ exp_sum (X u) m ∷ exp_sum (X ζ) k ∷ exp_sum (X ζ ⊕ X u) (k + m) ∷ exp_sum (X y) (k + m) ∷ [])
        (le (qv 0 *' qv 4) (qv 1 *' qv 2 *' qv 3) (qv 5) ∷ le (qv 0) (qv 5 *' qv 4) (qv 6) ∷ le (qv 0) (qv 6) (qv 7) ∷ le (qn 1) (qv 0 *' qv 7) (qn 1) ∷ []) (qv 0 *' qv 1 *' qv 2 *' qv 3 *' qv 4) (qn 1) tt
        (sum_under X r y u ζ k e h) (sum_product_below (X ζ) (X u) k m) (exp_sum≼ (k + m) (exponent_add y u ζ h)) (b.under (k + m));
  }

  -- .. and U·(S + 2g)/y, times u, is above it
  pub above_at : (r y u ζ U : Frac) (k : ℕ) → r ⊗ y ≈ 1F → y ≼ u ⊕ ζ → Short X y ζ k → Above U (X y) → Above (U ⊗ slice_sum_over X r ζ k ⊗ r ⊗ u) (X u)
  above_at r y u ζ U k e h s a = record {
    order = a.order;
    reaches = q_from (U ∷ slice_sum_over X r ζ k ∷ r ∷ u ∷ exp_sum (X u) a.order ∷ exp_sum (X y) a.order ∷ exp_sum (X ζ ⊕ X u) a.order ∷ exp_sum (X ζ) a.order ∷ exp_sum_over (X ζ) k ∷ [])
        (le (qn 1) (qn 1) (qv 0 *' qv 5) ∷ le (qv 0) (qv 5) (qv 6) ∷ le (qv 0) (qv 6) (qv 7 *' qv 4) ∷ le (qv 0 *' qv 4) (qv 7) (qv 8) ∷ le (qv 0 *' qv 4) (qv 8) (qv 1 *' qv 2 *' qv 3) ∷ []) (qn 1) (qv 0 *' qv 1 *' qv 2 *' qv 3 *' qv 4) tt
        a.reaches (exp_sum≼ a.order (exponent_over y u ζ h)) (sum_product_above (X ζ) (X u) a.order) (sum_over a.order k (refl≼ (X ζ)) s.double) (sum_over_end X r y u ζ k e h s);
  }

  term_power : (ζ : Frac) (k : ℕ) → term (X ζ) k ≈ term τ k ⊗ power ζ k
  term_power ζ zero = q_eq [] (qn 1) (qn 1 *' qn 1) tt tt
  term_power ζ (suc k) = q_eqfrom (term τ k ∷ τ ∷ (1 per (suc k)) ∷ power ζ k ∷ ζ ∷ term (X ζ) k ∷ X ζ ∷ [])
      (eq (qv 6 *' qv 2) (qn 0) (qv 5) (qv 0 *' qv 3) ∷ eq (qv 0 *' qv 3 *' qv 2) (qn 0) (qv 6) (qv 1 *' qv 4) ∷ []) (qv 5 *' qv 6 *' qv 2) (qv 0 *' qv 1 *' qv 2 *' (qv 3 *' qv 4)) tt tt
      (term_power ζ k) (hom ζ)

  slice_term_power : (r ζ : Frac) (k : ℕ) → slice_term X r ζ k ≈ coefficient τ r k ⊗ power ζ k
  slice_term_power r ζ zero = q_eq [] (qn 1) (qn 1 *' qn 1) tt tt
  slice_term_power r ζ (suc k) = q_eqfrom (r ∷ coefficient τ r k ∷ term τ (suc k) ∷ power ζ k ∷ ζ ∷ slice_term X r ζ k ∷ term (X ζ) (suc k) ∷ [])
      (eq (qv 4 *' qv 0) (qn 0) (qv 5) (qv 1 *' qv 3) ∷ eq (qn 1) (qn 0) (qv 6) (qv 2 *' (qv 3 *' qv 4)) ∷ []) (qv 4 *' qv 0 *' qv 5 +' qv 6) ((qv 0 *' qv 1 +' qv 2) *' (qv 3 *' qv 4)) tt tt
      (slice_term_power r ζ k) (term_power ζ (suc k))

  area_term_tangent : (r a b : Frac) (k : ℕ) → area_term X r a k ⊕ slice_term X r a k ⊗ b ≼ area_term X r b k ⊕ slice_term X r a k ⊗ a
  area_term_tangent r a b k = q_from (b ∷ slice_term X r b k ∷ (1 per (suc k)) ∷ slice_term X r a k ∷ a ∷ coefficient τ r k ∷ power a k ∷ power b k ∷ whole (suc k) ∷ [])
      (eq (qv 4 *' qv 2 +' qv 0) (qv 4) (qv 3) (qv 5 *' qv 6) ∷ eq (qn 0) (qv 0 *' qv 2) (qv 1) (qv 5 *' qv 7) ∷ eq (qv 5 *' qv 6 *' qv 4) (qv 5 *' qv 6 *' qv 0) (qv 2 *' qv 8) (qn 1)
      ∷ le (qv 5 *' qv 2) (qv 6 *' qv 4 +' qv 8 *' qv 6 *' qv 0) (qv 7 *' qv 0 +' qv 8 *' (qv 6 *' qv 4)) ∷ [])
      (qv 4 *' qv 3 *' qv 2 +' qv 3 *' qv 0) (qv 0 *' qv 1 *' qv 2 +' qv 3 *' qv 4) tt
      (slice_term_power r a k) (slice_term_power r b k) (per_times 1 (suc k) (zero-lt-suc k)) (tangent a b k)

  -- Γ(a) + S(a)·(b - a) ≤ Γ(b), for a ≤ b and for b ≤ a
  pub area_tangent : (r a b : Frac) (k : ℕ) → slice_area X r a k ⊕ slice_sum X r a k ⊗ b ≼ slice_area X r b k ⊕ slice_sum X r a k ⊗ a
  area_tangent r a b zero = area_term_tangent r a b 0
  area_tangent r a b (suc k) = q_from (slice_area X r a k ∷ slice_sum X r a k ∷ slice_area X r b k ∷ a ∷ b ∷ area_term X r a (suc k) ∷ slice_term X r a (suc k) ∷ area_term X r b (suc k) ∷ [])
      (le (qn 1) (qv 0 +' qv 1 *' qv 4) (qv 2 +' qv 1 *' qv 3) ∷ le (qn 1) (qv 5 +' qv 6 *' qv 4) (qv 7 +' qv 6 *' qv 3) ∷ [])
      (qv 0 +' qv 5 +' (qv 1 +' qv 6) *' qv 4) (qv 2 +' qv 7 +' (qv 1 +' qv 6) *' qv 3) tt
      (area_tangent r a b k) (area_term_tangent r a b (suc k))

  pub area_over_tangent : (r a b : Frac) (k : ℕ) → slice_area_over X r a k ⊕ slice_sum_over X r a k ⊗ b ≼ slice_area_over X r b k ⊕ slice_sum_over X r a k ⊗ a
  area_over_tangent r a b k = q_from (slice_area X r a k ∷ slice_sum X r a k ∷ slice_area X r b k ∷ a ∷ b ∷ area_term X r a k ∷ slice_term X r a k ∷ area_term X r b k ∷ [])
      (le (qn 1) (qv 0 +' qv 1 *' qv 4) (qv 2 +' qv 1 *' qv 3) ∷ le (qn 2) (qv 5 +' qv 6 *' qv 4) (qv 7 +' qv 6 *' qv 3) ∷ [])
      (qv 0 +' qn 2 *' qv 5 +' (qv 1 +' qn 2 *' qv 6) *' qv 4) (qv 2 +' qn 2 *' qv 7 +' (qv 1 +' qn 2 *' qv 6) *' qv 3) tt
      (area_tangent r a b k) (area_term_tangent r a b k)

  -- all grow with ζ
  slice_term≼ : (r : Frac) {a b : Frac} (k : ℕ) → a ≼ b → slice_term X r a k ≼ slice_term X r b k
  slice_term≼ r zero h = refl≼ 1F
  slice_term≼ r (suc k) h = add≼ (mul≼ (mul≼ h (refl≼ r)) (slice_term≼ r k h)) (term≼ (suc k) (exponent≼ h))

  area_term≼ : (r : Frac) {a b : Frac} (k : ℕ) → a ≼ b → area_term X r a k ≼ area_term X r b k
  area_term≼ r k h = mul≼ (mul≼ h (slice_term≼ r k h)) (refl≼ (1 per (suc k)))

  pub area≼ : (r : Frac) {a b : Frac} (k : ℕ) → a ≼ b → slice_area X r a k ≼ slice_area X r b k
  area≼ r zero h = area_term≼ r 0 h
  area≼ r (suc k) h = add≼ (area≼ r k h) (area_term≼ r (suc k) h)

  pub area_over≼ : (r : Frac) {a b : Frac} (k : ℕ) → a ≼ b → slice_area_over X r a k ≼ slice_area_over X r b k
  area_over≼ r k h = add≼ (area≼ r k h) (mul≼ (refl≼ (whole 2)) (area_term≼ r k h))

  pub short_mono : {y a b : Frac} {k : ℕ} → a ≼ b → Short X y b k → Short X y a k
  short_mono h s = record { half = trans≼ (mul≼ (refl≼ (whole 2)) h) s.half; fourth = trans≼ (mul≼ (refl≼ (whole 4)) (exponent≼ h)) s.fourth; double = trans≼ (mul≼ (refl≼ (whole 2)) (exponent≼ h)) s.double }

-- Γ(0) = 0
area_term_zero : (X : Frac → Frac) (r ζ : Frac) (k : ℕ) → ζ ≼ 0F → area_term X r ζ k ≼ 0F
area_term_zero X r ζ k h = q_from (ζ ∷ slice_term X r ζ k ∷ (1 per (suc k)) ∷ []) (le (qv 1 *' qv 2) (qv 0) (qn 0) ∷ []) (qv 0 *' qv 1 *' qv 2) (qn 0) tt h

pub area_zero : (X : Frac → Frac) (r ζ : Frac) (k : ℕ) → ζ ≼ 0F → slice_area X r ζ k ≼ 0F
area_zero X r ζ zero h = area_term_zero X r ζ 0 h
area_zero X r ζ (suc k) h = trans≼ (add≼ (area_zero X r ζ k h) (area_term_zero X r ζ (suc k) h)) (q_le [] (qn 0 +' qn 0) (qn 0) tt)
