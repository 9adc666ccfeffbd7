-- The pair of e^(-x), for every quotient x: its low end is certified below e^(-x), its high end above.
use Prim.Native.Nat.{ℕ, zero, suc, ◌+◌, ◌*◌, ◌/◌, ◌%◌, ◌-◌, ◌≤◌, ◌<◌, min}
use mathlib.Core.Path.{◌≡◌, refl, ap}
use mathlib.Core.Bool.{Bool, true, false}
use mathlib.Core.List.{[], ◌∷◌}
use lib.Dec.{ltb, leb→le}
use borrow.Author.Tests.{ltb-true}
use native.Mathlib.Nat.{div-mul-le_self, div-add-mod', mod-lt, mul-le-mul_right}
use native.Mathlib.Omega.{arith}
use Rattle.numbers.specs.Fraction.{Frac, ◌≼◌, ◌≈◌, ◌per◌, whole, 1F, ◌⊕◌, ◌⊗◌}
use Rattle.numbers.proofs.Fractions.{refl≼, trans≼, add≼, mul≼}
use Rattle.numbers.proofs.FractionProver.{qv, qn, ◌+'◌, ◌*'◌, q_from, le, eq}
use Rattle.bounds.specs.Pair.{Pair, scaled_p, quotient_p, at_most_p}
use Rattle.exact.specs.Exponential.{term, exp_sum}
use Rattle.exact.proofs.Exponential.{term≼, sum_over, one_exp_sum}
use Rattle.exact.proofs.Certified.{Below, Above, below_mono, above_mono, below_product, above_product, below_zero, above_one}
use Rattle.model.specs.Scale.{one, far_from, inverse_e_low, inverse_e_high}
use Rattle.model.specs.Exponential.{exp_term, fraction_exp_pair, decayed, exp_pair}
use Rattle.model.specs.Exponential as model
use Rattle.model.proofs.Exponential.{exp_room}
use Rattle.model.specs.Encloses.{unit}
use Rattle.model.proofs.Enclosure.Units.{unit_times_low, unit_times_high, unit_times_over, unit_part_low, unit_part_high, unit_add, unit_whole, Floor, quotient_floor, floor_at_most_one, inverse_low, inverse_over, of_lesser}

-- in units of 2^-30 the low end is certified below e^(-ξ), the high end above
pub record ExpIn (b : Pair) (ξ : Frac) : Type 0 where
  pub below : Below (unit b.low) ξ
  pub above : Above (unit b.high) ξ

pub exp_in_same : {b : Pair} {ξ η : Frac} → ξ ≈ η → ExpIn b ξ → ExpIn b η
exp_in_same {b} h r = record { below = below_mono (refl≼ (unit b.low)) h.from r.below; above = above_mono (refl≼ (unit b.high)) h.to r.above }

-- ---- the terms x^k/k!
pub term_low : (x : ℕ) (ξ : Frac) → Floor x ξ → (k : ℕ) → unit (exp_term x k) ≼ term ξ k
unfolding exp_term
term_low x ξ f zero = omega arith
term_low x ξ f (suc k) = trans≼ (unit_part_low _ k) (mul≼ (trans≼ (unit_times_low (exp_term x k) x) (mul≼ (term_low x ξ f k) f.low)) (refl≼ (1 per (suc k))))

pub half_part_lem : (k : ℕ) → whole 2 ⊗ 1 per (suc (suc k)) ≼ 1F
half_part_lem k = omega arith

first_term : (ξ : Frac) → term ξ 1 ≼ ξ
first_term ξ = omega arith

term_fits : (x k : ℕ) → x ≤ one → unit (exp_term x (suc k)) ≼ 1F
term_fits x k h = unit_whole 1 (let r = exp_room x k h in omega arith)

pub term_high : (x : ℕ) (ξ : Frac) → Floor x ξ → ξ ≼ 1F → (k : ℕ) → term ξ k ≼ unit (exp_term x k) ⊕ whole 4 ⊗ unit 1
unfolding exp_term
term_high x ξ f o zero = omega arith
term_high x ξ f o (suc zero) = trans≼ (first_term ξ) (trans≼ f.high (omega arith))
term_high x ξ f o (suc (suc k)) =
    let e = exp_term x (suc k) in
    let m = e * x / one in
    q_from (unit (m / suc (suc k)) ∷ unit 1 ∷ term ξ (suc k) ∷ ξ ∷ (1 per (suc (suc k))) ∷ unit e ∷ unit x ∷ unit m ∷ [])
    (le (qv 3 *' qv 4) (qv 2) (qv 5 +' qn 4 *' qv 1) ∷ le (qv 5 *' qv 4) (qv 3) (qv 6 +' qv 1) ∷ le (qv 4) (qv 5 *' qv 6) (qv 7 +' qv 1) ∷ le (qn 1) (qv 7 *' qv 4) (qv 0 +' qv 1)
    ∷ le (qv 1 *' qv 4) (qv 5) (qn 1) ∷ le (qn 4 *' qv 1 *' qv 4) (qv 3) (qn 1) ∷ le (qn 3 *' qv 1) (qn 2 *' qv 4) (qn 1) ∷ [])
    (qv 2 *' qv 3 *' qv 4) (qv 0 +' qn 4 *' qv 1) tt
    (term_high x ξ f o (suc k)) f.high (unit_times_high e x) (unit_part_high m (suc k)) (term_fits x k (floor_at_most_one f o)) o (half_part_lem k)

-- ---- e^(-x) for x at most 1
module _ (x : ℕ) (ξ : Frac) (f : Floor x ξ) (o : ξ ≼ 1F) where
  sum_low : (k : ℕ) → unit (model.exp_sum x k) ≼ exp_sum ξ k
  unfolding model.exp_sum
  sum_low zero = omega arith
  sum_low (suc k) = trans≼ (unit_add _ _).to (add≼ (sum_low k) (term_low x ξ f (suc k)))

  four : (k : ℕ) → whole (4 * suc k) ≈ whole (4 * k) ⊕ whole 4
  four k = omega arith

  sum_high : (k : ℕ) → exp_sum ξ k ≼ unit (model.exp_sum x k) ⊕ whole (4 * k) ⊗ unit 1
  unfolding model.exp_sum
  sum_high zero = omega arith
  sum_high (suc k) =
      let z = model.exp_sum x k in
      let e = exp_term x (suc k) in
      q_from (unit (z + e) ∷ whole (4 * suc k) ∷ unit 1 ∷ exp_sum ξ k ∷ term ξ (suc k) ∷ unit z ∷ whole (4 * k) ∷ unit e ∷ [])
      (le (qn 1) (qv 3) (qv 5 +' qv 6 *' qv 2) ∷ le (qn 1) (qv 4) (qv 7 +' qn 4 *' qv 2) ∷ eq (qn 0) (qn 1) (qv 0) (qv 5 +' qv 7) ∷ eq (qn 0) (qv 2) (qv 1) (qv 6 +' qn 4) ∷ [])
      (qv 3 +' qv 4) (qv 0 +' qv 1 *' qv 2) tt (sum_high k) (term_high x ξ f o (suc k)) (unit_add z e) (four k)

  add_units : (z d : ℕ) → unit (z + d) ≈ unit z ⊕ whole d ⊗ unit 1
  add_units z d = omega arith

  one_more : (k : ℕ) → whole (4 * k + 1) ≈ whole (4 * k) ⊕ whole 1
  one_more k = omega arith

  -- every partial sum, of whatever order m
  sum_all : (k m : ℕ) → whole 2 ⊗ ξ ≼ whole k → whole 2 ⊗ term ξ (suc k) ≼ unit 1 → exp_sum ξ m ≼ unit (model.exp_sum x k + (4 * k + 1))
  sum_all k m p r = trans≼ (sum_over m k (refl≼ ξ) p)
      (let z = model.exp_sum x k in
      q_from (unit (z + (4 * k + 1)) ∷ exp_sum ξ k ∷ term ξ (suc k) ∷ unit z ∷ whole (4 * k) ∷ unit 1 ∷ whole (4 * k + 1) ∷ [])
      (le (qn 1) (qv 1) (qv 3 +' qv 4 *' qv 5) ∷ le (qn 1) (qn 2 *' qv 2) (qv 5) ∷ eq (qn 0) (qn 1) (qv 0) (qv 3 +' qv 6 *' qv 5) ∷ eq (qn 0) (qv 5) (qv 6) (qv 4 +' qn 1) ∷ [])
      (qv 1 +' qn 2 *' qv 2) (qv 0) tt (sum_high k) r (add_units z (4 * k + 1)) (one_more k))

  last : whole 2 ⊗ term ξ 13 ≼ unit 1
  last = trans≼ (mul≼ (refl≼ (whole 2)) (term≼ 13 o)) (record { cross = leb→le _ _ tt })

  enough : whole 2 ⊗ ξ ≼ whole 12
  enough = trans≼ (mul≼ (refl≼ (whole 2)) o) (omega arith)

  unit_lesser : (u v : ℕ) → unit (min u v) ≼ unit u
  unit_lesser u v = omega arith

  fraction_exp_in : ExpIn (fraction_exp_pair x) ξ
  unfolding fraction_exp_pair at_most_p quotient_p
  fraction_exp_in =
      let z = model.exp_sum x 12 in
      record {
        below = record { under = λ m. trans≼ (mul≼ (unit_lesser (one * one / (z + 49)) one) (sum_all 12 m enough last)) (inverse_low (z + 49)) };
        above = record {
          order = 12;
          reaches = of_lesser (λ n. 1F ≼ unit n ⊗ exp_sum ξ 12) (one * one / z + 1) one
              (trans≼ (inverse_over z (let r = exp_room x 11 (floor_at_most_one f o) in omega arith)) (mul≼ (refl≼ _) (sum_low 12)))
              (trans≼ {b = unit one ⊗ 1F} (omega arith) (mul≼ (refl≼ (unit one)) (one_exp_sum ξ 12)));
        };
      }

-- ---- times e^(-m)
inverse_e_in : ExpIn (record { low = inverse_e_low; high = inverse_e_high }) 1F
inverse_e_in = record {
  below = record { under = λ m. trans≼ (mul≼ (refl≼ (unit inverse_e_low)) (sum_over m 14 (refl≼ 1F) (omega arith))) (record { cross = leb→le _ _ tt }) };
  above = record { order = 14; reaches = record { cross = leb→le _ _ tt } };
}

product_exp_in : {b c : Pair} {ξ η : Frac} → ExpIn b ξ → ExpIn c η → ExpIn (scaled_p b c one) (ξ ⊕ η)
unfolding scaled_p
product_exp_in {b} {c} {ξ} {η} r s = record {
  below = below_mono (unit_times_low b.low c.low) (refl≼ (ξ ⊕ η)) (below_product r.below s.below);
  above = above_mono (unit_times_over b.high c.high) (refl≼ (ξ ⊕ η)) (above_product r.above s.above);
}

decayed_exp_in : (m : ℕ) {b : Pair} {ξ : Frac} → ExpIn b ξ → ExpIn (decayed m b) (ξ ⊕ whole m)
unfolding decayed
decayed_exp_in zero r = exp_in_same (omega arith) r
decayed_exp_in (suc m) r = exp_in_same (omega arith) (decayed_exp_in m (product_exp_in r inverse_e_in))

-- ---- any quotient
whole_and_rest : (num den : ℕ) → 0 < den → (num % den) per den ⊕ whole (num / den) ≈ num per den
whole_and_rest num zero z = absurd (omega arith)
whole_and_rest num (suc d) z = omega (arith, ap (λ x. suc d * x) (div-add-mod' num (suc d)))

rest_at_most_one : (num den : ℕ) → 0 < den → (num % den) per den ≼ 1F
rest_at_most_one num zero z = absurd (omega arith)
rest_at_most_one num (suc d) z = omega (arith, mod-lt num {m = suc d} z)

beyond : (num den : ℕ) → 0 < den → far_from < num / den → (num - 17 * den) per den ⊕ whole 17 ≈ num per den
beyond num zero z h = absurd (omega arith)
beyond num (suc d) z h =
    let a : 17 * suc d ≤ num = omega (arith, div-mul-le_self num (suc d), mul-le-mul_right (suc d) h) in
    let e : num - 17 * suc d + 17 * suc d ≡ num = omega arith in
    omega (arith, ap (λ x. suc d * x) e)

zero_to_one : (ξ : Frac) → ExpIn (record { low = 0; high = one }) ξ
zero_to_one ξ = record { below = below_mono (omega arith) (refl≼ ξ) (below_zero ξ); above = above_mono (omega arith) (refl≼ ξ) (above_one ξ) }

pub exp_in : (num den : ℕ) → 0 < den → ExpIn (exp_pair num den) (num per den)
unfolding exp_pair
exp_in num den z = go (ltb far_from (num / den)) refl
  where
    rest : ℕ
    rest = num % den * one / den

    go : (b : Bool) → ltb far_from (num / den) ≡ b →
        ExpIn (elim b [ true ↦ decayed (suc far_from) (record { low = 0; high = one }) | false ↦ decayed (num / den) (fraction_exp_pair rest) ]) (num per den)
    go true e = exp_in_same (beyond num den z (ltb-true far_from (num / den) e)) (decayed_exp_in 17 (zero_to_one ((num - 17 * den) per den)))
    go false e =
        exp_in_same (whole_and_rest num den z)
        (decayed_exp_in (num / den)
        (fraction_exp_in rest ((num % den) per den) (quotient_floor (num % den) den z) (rest_at_most_one num den z)))
