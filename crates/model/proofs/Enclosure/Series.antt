-- The pair of the series of a slice against exact's series, for J and ln alike: ζ times the low end is at most its area, ζ times the high end at
-- least its area with the allowance for the rest. θ is ζ·r and τ is X ζ, each known rounded down.
use Prim.Native.Nat.{ℕ, zero, suc, ◌+◌, ◌*◌, ◌/◌, ◌≤◌}
use mathlib.Core.List.{[], ◌∷◌}
use native.Mathlib.Omega.{arith}
use Rattle.numbers.specs.Fraction.{Frac, ◌≼◌, ◌≈◌, ◌per◌, whole, 1F, ◌⊕◌, ◌⊗◌}
use Rattle.numbers.proofs.Fractions.{trans≼, add≼, mul≼}
use Rattle.numbers.proofs.FractionProver.{qv, qn, ◌+'◌, ◌*'◌, q_from, le, eq}
use Rattle.exact.specs.Exponential.{term}
use Rattle.exact.proofs.SliceSeries.{slice_term, slice_area, slice_area_over}
use Rattle.model.specs.Scale.{one, half, series_order}
use Rattle.model.specs.Exponential.{exp_term}
use Rattle.model.specs.Series.{series_term, series_sum, series_pair}
use Rattle.model.proofs.Series.{series_room}
use Rattle.model.specs.Encloses.{unit}
use Rattle.model.proofs.Enclosure.Units.{unit_times_low, unit_times_high, unit_part_low, unit_part_high, unit_add, unit_whole, Floor, floor_at_most_one, floor_at_most_half}
use Rattle.model.proofs.Enclosure.Exponential.{term_low, term_high, half_part_lem}

term_fits : (theta tau k : ℕ) → theta ≤ half → tau ≤ one → unit (series_term theta tau k) ≼ whole 2
unfolding series_term
term_fits theta tau zero h j = omega arith
term_fits theta tau (suc k) h j = unit_whole 2 (series_room theta tau k h j).term_most

eight_more : (k : ℕ) → whole (8 * suc k) ≈ whole (8 * k) ⊕ whole 8
eight_more k = omega arith

twenty_more : (k : ℕ) → whole (8 * k + 20) ≈ whole (8 * k) ⊕ whole 20
twenty_more k = omega arith

-- the parts of the upper end
doubled_term : (x : ℕ) → unit (2 * (x + 15)) ≈ whole 2 ⊗ unit x ⊕ whole 30 ⊗ unit 1
doubled_term x = omega arith

three_parts : (s d q : ℕ) → unit (s + d + q) ≈ unit s ⊕ whole d ⊗ unit 1 ⊕ unit q
three_parts s d q = omega arith

module _ (X : Frac → Frac) (r ζ : Frac) (theta tau : ℕ) (t : Floor theta (ζ ⊗ r)) (u : Floor tau (X ζ)) where
  slice_term_low : (k : ℕ) → unit (series_term theta tau k) ≼ slice_term X r ζ k
  unfolding series_term
  slice_term_low zero = omega arith
  slice_term_low (suc k) = trans≼ (unit_add _ _).to (add≼ (trans≼ (unit_times_low theta (series_term theta tau k)) (mul≼ t.low (slice_term_low k))) (term_low tau (X ζ) u (suc k)))

  area_low : (k : ℕ) → ζ ⊗ unit (series_sum theta tau k) ≼ slice_area X r ζ k
  unfolding series_sum
  area_low zero = omega arith
  area_low (suc k) =
      let s = series_sum theta tau k in
      let γ = series_term theta tau (suc k) in
      let q = γ / suc (suc k) in
      q_from (slice_area X r ζ k ∷ ζ ∷ slice_term X r ζ (suc k) ∷ (1 per (suc (suc k))) ∷ unit (s + q) ∷ unit s ∷ unit q ∷ unit γ ∷ [])
      (eq (qv 1) (qn 0) (qv 4) (qv 5 +' qv 6) ∷ le (qn 1) (qv 1 *' qv 5) (qv 0) ∷ le (qv 1) (qv 6) (qv 7 *' qv 3) ∷ le (qv 1 *' qv 3) (qv 7) (qv 2) ∷ [])
      (qv 1 *' qv 4) (qv 0 +' qv 1 *' qv 2 *' qv 3) tt
      (unit_add s q) (area_low k) (unit_part_low γ (suc k)) (slice_term_low (suc k))

  pub series_under : ζ ⊗ unit (series_pair theta tau).low ≼ slice_area X r ζ series_order
  unfolding series_pair
  series_under = area_low series_order

  module _ (θ-half : whole 2 ⊗ (ζ ⊗ r) ≼ 1F) (τ-one : X ζ ≼ 1F) where
    slice_term_high : (k : ℕ) → slice_term X r ζ k ≼ unit (series_term theta tau k) ⊕ whole 14 ⊗ unit 1
    unfolding series_term
    slice_term_high zero = omega arith
    slice_term_high (suc k) =
        let γ = series_term theta tau k in
        let m = theta * γ / one in
        let e = exp_term tau (suc k) in
        q_from (unit (m + e) ∷ unit 1 ∷ (ζ ⊗ r) ∷ slice_term X r ζ k ∷ term (X ζ) (suc k) ∷ unit γ ∷ unit theta ∷ unit m ∷ unit e ∷ [])
        (le (qv 2) (qv 3) (qv 5 +' qn 14 *' qv 1) ∷ le (qv 5) (qv 2) (qv 6 +' qv 1) ∷ le (qn 1) (qv 6 *' qv 5) (qv 7 +' qv 1) ∷ le (qv 1) (qv 5) (qn 2)
        ∷ le (qn 7 *' qv 1) (qn 2 *' qv 2) (qn 1) ∷ le (qn 1) (qv 4) (qv 8 +' qn 4 *' qv 1) ∷ eq (qn 0) (qn 1) (qv 0) (qv 7 +' qv 8) ∷ [])
        (qv 2 *' qv 3 +' qv 4) (qv 0 +' qn 14 *' qv 1) tt
        (slice_term_high k) t.high (unit_times_high theta γ) (term_fits theta tau k (floor_at_most_half t θ-half) (floor_at_most_one u τ-one)) θ-half
        (term_high tau (X ζ) u τ-one (suc k)) (unit_add m e)

    area_high : (k : ℕ) → slice_area X r ζ k ≼ ζ ⊗ (unit (series_sum theta tau k) ⊕ whole (8 * k) ⊗ unit 1)
    unfolding series_sum
    area_high zero = omega arith
    area_high (suc k) =
        let s = series_sum theta tau k in
        let γ = series_term theta tau (suc k) in
        let q = γ / suc (suc k) in
        q_from (ζ ∷ unit (s + q) ∷ whole (8 * suc k) ∷ unit 1 ∷ slice_area X r ζ k ∷ slice_term X r ζ (suc k) ∷ (1 per (suc (suc k))) ∷ unit s ∷ whole (8 * k) ∷ unit γ ∷ unit q ∷ [])
        (le (qn 1) (qv 4) (qv 0 *' (qv 7 +' qv 8 *' qv 3)) ∷ le (qv 0 *' qv 6) (qv 5) (qv 9 +' qn 14 *' qv 3) ∷ le (qv 0) (qv 9 *' qv 6) (qv 10 +' qv 3)
        ∷ le (qn 7 *' qv 3 *' qv 0) (qn 2 *' qv 6) (qn 1) ∷ eq (qn 0) (qv 0) (qv 1) (qv 7 +' qv 10) ∷ eq (qn 0) (qv 0 *' qv 3) (qv 2) (qv 8 +' qn 8) ∷ [])
        (qv 4 +' qv 0 *' qv 5 *' qv 6) (qv 0 *' (qv 1 +' qv 2 *' qv 3)) tt
        (area_high k) (slice_term_high (suc k)) (unit_part_high γ (suc k)) (half_part_lem k) (unit_add s q) (eight_more k)

    area_over_high : (k : ℕ) → slice_area_over X r ζ k ≼ ζ ⊗ unit (series_sum theta tau k + (8 * k + 20) + 2 * (series_term theta tau k + 15) / suc k)
    area_over_high k =
        let s = series_sum theta tau k in
        let γ = series_term theta tau k in
        let q = 2 * (γ + 15) / suc k in
        q_from (ζ ∷ unit (s + (8 * k + 20) + q) ∷ slice_area X r ζ k ∷ slice_term X r ζ k ∷ (1 per (suc k)) ∷ unit s ∷ whole (8 * k) ∷ unit 1 ∷ unit γ ∷ unit q ∷ unit (2 * (γ + 15)) ∷ whole (8 * k + 20) ∷ [])
        (le (qn 1) (qv 2) (qv 0 *' (qv 5 +' qv 6 *' qv 7)) ∷ le (qn 2 *' qv 0 *' qv 4) (qv 3) (qv 8 +' qn 14 *' qv 7) ∷ le (qv 0) (qv 10 *' qv 4) (qv 9 +' qv 7)
        ∷ eq (qn 0) (qv 0 *' qv 4) (qv 10) (qn 2 *' qv 8 +' qn 30 *' qv 7) ∷ eq (qn 0) (qv 0) (qv 1) (qv 5 +' qv 11 *' qv 7 +' qv 9) ∷ eq (qn 0) (qv 0 *' qv 7) (qv 11) (qv 6 +' qn 20) ∷ [])
        (qv 2 +' qn 2 *' (qv 0 *' qv 3 *' qv 4)) (qv 0 *' qv 1) tt
        (area_high k) (slice_term_high k) (unit_part_high (2 * (γ + 15)) k) (doubled_term γ) (three_parts s (8 * k + 20) q) (twenty_more k)

    pub series_over : slice_area_over X r ζ series_order ≼ ζ ⊗ unit (series_pair theta tau).high
    unfolding series_pair
    series_over = area_over_high series_order
