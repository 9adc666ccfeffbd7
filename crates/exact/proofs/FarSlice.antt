-- The far slice, from x to the far end: lower 0, upper U·Λ, where U is above e^(−x) and Λ is at least the logarithm over a range that holds x to
-- the far end. It may be the only slice. Its upper bound is that of equal level slices whose heights are U/u.
use Prim.Native.Nat.{ℕ, zero, suc, ◌+◌, ◌≤◌, ◌<◌}
use mathlib.Core.List.{List, [], ◌∷◌, ◌++◌}
use lib.Dec.{T}
use native.Mathlib.Nat.{zero-add, add-zero, suc-add, add-suc}
use native.Mathlib.Omega.{arith}
use Rattle.numbers.specs.Fraction.{Frac, ◌≼◌, ◌≈◌, ◌per◌, 0F, 1F, ◌⊕◌, ◌⊗◌, ◌÷◌, ◌∸◌, sum}
use Rattle.numbers.specs.Signed.{of_frac}
use Rattle.numbers.proofs.Fractions.{refl≼, trans≼, add≼, mul≼, above, refl≈, sym≈, ÷-times, ÷≼}
use Rattle.numbers.proofs.FractionProver.{qv, qn, ◌+'◌, ◌*'◌, q_le, le, eq, q_from}
use Rattle.numbers.proofs.Sums.{sum≼, sum_scale}
use Rattle.numbers.proofs.Subtraction.{less_on, less_exact}
use Rattle.numbers.proofs.Strict.{portion, portion_above, portion_in, within}
use Rattle.numbers.proofs.SignedFractions.{of_frac≼, of_frac_order}
use Rattle.exact.specs.Cutting.{cut_at, integral_low, ln_high, ln_low}
use Rattle.exact.specs.Value.{AtMost, AtLeast, from_one}
use Rattle.exact.proofs.Exponential.{low_zero}
use Rattle.exact.proofs.Cutting.{cut_above, cut_start, cut_end, cut_next, cut_first, cut_last}
use Rattle.exact.proofs.Plain.{◌⊴ₚ◌}
use Rattle.exact.proofs.Values.{lift, lift⊴, at_least_join, fine_lift}
use Rattle.exact.proofs.Parts.{integral_p, ln_p, from_one_is, fine_p_ln}
use Rattle.exact.proofs.Certified.{Above, below_mono, above_mono, below_zero, above_one}
use Rattle.exact.proofs.SliceSeries.{exponent≼}
use Rattle.exact.proofs.Slices.{level, Slice, All, none, more, Adjacent, end, next, total, near_far, from_same, to_same, adjacent_both, all_both, total_both}
use Rattle.exact.proofs.Enclosure.{low_area, high_area, level_low, level_high, Lower, Upper, over_in, heat_linear, heat_exponent, integral_under}
use Rattle.exact.proofs.LogarithmSlices.{ln_exponent, ln_linear}

-- ---- the upper sum of U/u over k equal parts of x to x + v, as level slices
module _ (τ : Frac) (X : Frac → Frac) (hom : (a : Frac) → X a ≈ τ ⊗ a) (x v U : Frac) (zx : 0 < x.num) (a : Above U (X x)) (k : ℕ) (z : 0 < k) where
  abbrev pl : ℕ → Frac
  pl i = cut_at x v i k

  abbrev part_of : ℕ → Frac
  part_of i = 1F ÷ pl i

  abbrev piece : ℕ → Slice
  piece i = record { far = pl (suc i); width = v ⊗ (1 per k); kind = level 0F (U ⊗ part_of i) }

  abbrev pub levels : ℕ → ℕ → List Slice
  levels i zero = []
  levels i (suc j) = piece i ∷ levels (suc i) j

  adjacent_from : (i j : ℕ) → Adjacent (pl i) (levels i j) (pl (i + j))
  adjacent_from i zero = rw add-zero (end (refl≈ (pl i)))
  adjacent_from i (suc j) = rw add-suc (next (sym≈ (cut_next x v i k)) (rw suc-add at (adjacent_from (suc i) j)))

  pub levels_adjacent : Adjacent x (levels 0 k) (x ⊕ v)
  levels_adjacent = from_same (record { to = cut_start x v 0 k; from = cut_first x v k }) (to_same (rw zero-add at (adjacent_from 0 k)) (record { to = cut_end x v k k z (omega arith); from = cut_last x v k z }))

  piece_upper : (i : ℕ) → Upper X (piece i)
  piece_upper i = level_high (pl i) (cut_next x v i k).from (above_mono (q_from (U ∷ part_of i ∷ pl i ∷ []) (eq (qn 0) (qv 0) (qv 1 *' qv 2) (qn 1) ∷ []) (qv 0) (qv 0 *' qv 1 *' qv 2) tt (÷-times 1F (pl i) (cut_above x v i k zx))) (exponent≼ τ X hom (cut_start x v i k)) a)

  pub levels_upper : (i j : ℕ) → All (Upper X) (levels i j)
  levels_upper i zero = none
  levels_upper i (suc j) = more (piece_upper i) (levels_upper (suc i) j)

  abbrev f : ℕ → Frac
  f i = U ⊗ part_of i

  sum_up : (i j : ℕ) → total (high_area X) (levels i j) ⊕ v ⊗ (1 per k) ⊗ sum f i ≼ v ⊗ (1 per k) ⊗ sum f (i + j)
  sum_up i zero = rw add-zero (q_le (v ∷ (1 per k) ∷ sum f i ∷ []) (qn 0 +' qv 0 *' qv 1 *' qv 2) (qv 0 *' qv 1 *' qv 2) tt)
  sum_up i (suc j) = rw add-suc (q_from (v ∷ (1 per k) ∷ sum f i ∷ U ∷ part_of i ∷ total (high_area X) (levels (suc i) j) ∷ sum f (suc (i + j)) ∷ [])
      (le (qn 1) (qv 5 +' qv 0 *' qv 1 *' (qv 2 +' qv 3 *' qv 4)) (qv 0 *' qv 1 *' qv 6) ∷ []) (qv 3 *' qv 4 *' (qv 0 *' qv 1) +' qv 5 +' qv 0 *' qv 1 *' qv 2) (qv 0 *' qv 1 *' qv 6) tt (rw suc-add at (sum_up (suc i) j)))

  pub levels_total : total (high_area X) (levels 0 k) ≼ U ⊗ ln_high x v k
  levels_total = q_from (total (high_area X) (levels 0 k) ∷ v ∷ (1 per k) ∷ sum f k ∷ U ∷ sum part_of k ∷ [])
      (le (qn 1) (qv 0 +' qv 1 *' qv 2 *' qn 0) (qv 1 *' qv 2 *' qv 3) ∷ eq (qv 1 *' qv 2) (qn 0) (qv 3) (qv 4 *' qv 5) ∷ []) (qv 0) (qv 4 *' (qv 1 *' qv 2 *' qv 5)) tt
      (rw zero-add at (sum_up 0 k)) (sum_scale U part_of k)

-- ---- ln over a range is at most ln over a range that holds it
module _ (x v p w : Frac) (zx : 0 < x.num) (zp : 0 < p.num) (hp : p ≼ x) (hq : x ⊕ v ≼ p ⊕ w) where
  ln_in : (n k : ℕ) (z : 0 < n) (y : 0 < k) → ln_low x v n ≼ ln_high p w k
  ln_in n k z y = trans≼ (mul≼ (refl≼ (v ⊗ (1 per n))) (sum≼ _ _ n (λ i l. ÷≼ (cut_above x v (suc i) n zx) (low_zero n) (refl≼ (cut_at x v (suc i) n)))))
      (trans≼ (over_in 0F ln_exponent ln_linear x v zx n z (levels_adjacent 0F ln_exponent ln_linear p w 1F zp (above_one 0F) k y) hp hq (levels_upper 0F ln_exponent ln_linear p w 1F zp (above_one 0F) k y 0 k))
      (trans≼ (levels_total 0F ln_exponent ln_linear p w 1F zp (above_one 0F) k y) (q_le (ln_high p w k ∷ []) (qn 1 *' qv 0) (qv 0) tt)))

  pub ln_in⊴ₚ : ln_p x v ⊴ₚ ln_p p w
  ln_in⊴ₚ = record { apart = λ n m s t. ln_in n m (from_one_is n s) (from_one_is m t) }

-- ---- the far slice
module _ (p w x U : Frac) (zp : 0 < p.num) (ss : List Slice) (adj : Adjacent p ss x) (hx : x ≼ p ⊕ w) where
  abbrev far_width : Frac
  far_width = (p ⊕ w) ∸ x

  zx : 0 < x.num
  zx = above zp (near_far adj)

  far_whole : x ⊕ far_width ≈ p ⊕ w
  far_whole = record { to = less_exact hx; from = less_on (p ⊕ w) x }

  -- lower: 0
  abbrev nothing_there : Slice
  nothing_there = record { far = p ⊕ w; width = far_width; kind = level 0F 0F }

  pub far_under : All (Lower heat_exponent) ss → AtMost (of_frac (total (low_area heat_exponent) ss)) (lift (integral_p p w))
  far_under os = record {
    most = λ n s. of_frac≼ (trans≼ (trans≼ (q_le (total (low_area heat_exponent) ss ∷ total (low_area heat_exponent) (nothing_there ∷ []) ∷ []) (qv 0) (qv 0 +' qv 1) tt) (total_both (low_area heat_exponent) ss (nothing_there ∷ [])).from)
        (integral_under p w zp (ss ++ (nothing_there ∷ [])) (adjacent_both adj (next {s = nothing_there} far_whole (end (refl≈ (p ⊕ w))))) n (from_one_is n s)
        (all_both os (more {s = nothing_there} (level_low (below_mono (q_le ((p ⊕ w) ∷ []) (qn 0 *' qv 0) (qn 0) tt) (refl≼ (p ⊕ w)) (below_zero (p ⊕ w)))) none))));
  }

  -- upper: U times any upper fraction of the logarithm from x to the far end
  module _ (a : Above U x) (os : All (Upper heat_exponent) ss) where
    far_over : (n k : ℕ) (z : 0 < n) (y : 0 < k) → integral_low p w n ≼ total (high_area heat_exponent) ss ⊕ U ⊗ ln_high x far_width k
    far_over n k z y = trans≼ (over_in 1F heat_exponent heat_linear p w zp n z (adjacent_both adj (levels_adjacent 1F heat_exponent heat_linear x far_width U zx a k y)) (refl≼ p) far_whole.from (all_both os (levels_upper 1F heat_exponent heat_linear x far_width U zx a k y 0 k)))
        (trans≼ (total_both (high_area heat_exponent) ss (levels 1F heat_exponent heat_linear x far_width U zx a k y 0 k)).to (add≼ (refl≼ (total (high_area heat_exponent) ss)) (levels_total 1F heat_exponent heat_linear x far_width U zx a k y)))

    -- .. so U times what is at least the logarithm over any range p0 to p0 + w0 that holds x to the far end
    module _ (p0 w0 Λ : Frac) (z0 : 0 < p0.num) (hp : p0 ≼ x) (hq : p ⊕ w ≼ p0 ⊕ w0) (l : AtLeast (of_frac Λ) (lift (ln_p p0 w0))) where
      Λ-there : AtLeast (of_frac Λ) (lift (ln_p x far_width))
      Λ-there = at_least_join (lift⊴ (ln_in⊴ₚ x far_width p0 w0 zx z0 hp (trans≼ far_whole.to hq))) (fine_lift (fine_p_ln p0 w0 z0)) l

      abbrev close_enough : (e : Frac) → 0 < e.num → ℕ
      close_enough e ze = (fine_p_ln x far_width zx).order (portion e U) (portion_above e U ze)

      close : (e : Frac) (ze : 0 < e.num) (n : ℕ) → 0 < n → (k : ℕ) → close_enough e ze ≤ k → T (from_one k) → integral_low p w n ≼ total (high_area heat_exponent) ss ⊕ U ⊗ Λ ⊕ e
      close e ze n z k h s = q_from (integral_low p w n ∷ total (high_area heat_exponent) ss ∷ U ∷ ln_high x far_width k ∷ ln_low x far_width k ∷ Λ ∷ portion e U ∷ e ∷ [])
          (le (qn 1) (qv 0) (qv 1 +' qv 2 *' qv 3) ∷ le (qv 2) (qv 3) (qv 4 +' qv 6) ∷ le (qv 2) (qv 4) (qv 5) ∷ le (qn 1) (qv 6 *' qv 2) (qv 7) ∷ []) (qv 0) (qv 1 +' qv 2 *' qv 5 +' qv 7) tt
          (far_over n k z (from_one_is k s)) ((fine_p_ln x far_width zx).gap (portion e U) (portion_above e U ze) k h) (of_frac_order (ln_low x far_width k) Λ (Λ-there.least k s)) (portion_in e U)

      pub far_slice : AtLeast (of_frac (total (high_area heat_exponent) ss ⊕ U ⊗ Λ)) (lift (integral_p p w))
      far_slice = record {
        least = λ n s. of_frac≼ (within (integral_low p w n) (total (high_area heat_exponent) ss ⊕ U ⊗ Λ) (λ e ze.
            close e ze n (from_one_is n s) (close_enough e ze) (omega arith) ((fine_p_ln x far_width zx).bounds (portion e U) (portion_above e U ze) (close_enough e ze) (omega arith))));
      }
