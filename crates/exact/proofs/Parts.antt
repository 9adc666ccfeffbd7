-- e^(−x), J and ln over any range: no lower fraction above an upper one, gaps that vanish, and bounds at every order.
use Prim.Native.Nat.{ℕ, zero, suc, ◌+◌, ◌*◌, ◌≤◌, ◌<◌}
use mathlib.Core.List.{[], ◌∷◌}
use lib.Dec.{T}
use native.Mathlib.Nat.{zero-lt-suc}
use native.Mathlib.Omega.{arith}
use Rattle.numbers.specs.Fraction.{Frac, ◌≼◌, ◌per◌, whole, 0F, 1F, ◌⊕◌, ◌⊗◌, ◌÷◌, sum}
use Rattle.numbers.proofs.Fractions.{refl≼, trans≼, add≼, mul≼, above, per_times, whole≼, ÷≼}
use Rattle.numbers.proofs.FractionProver.{qv, qn, ◌+'◌, ◌*'◌, q_le, le, eq, q_from}
use Rattle.numbers.proofs.Quotients.{÷-inv}
use Rattle.numbers.proofs.Sums.{sum≼, sum_same}
use Rattle.numbers.proofs.Strict.{half, half_above, halves_in}
use Rattle.exact.specs.Exponential.{term, exp_low, exp_high}
use Rattle.exact.specs.Cutting.{cut_at, integral_high, integral_low, ln_high, ln_low}
use Rattle.exact.specs.Value.{from_one}
use Rattle.exact.proofs.Exponential.{enough_of, low_high, low_one, high_one}
use Rattle.exact.proofs.Cutting.{per_meet, cut_above, cut_start, cut_end, sums_apart}
use Rattle.exact.proofs.Vanishing.{reach, twice, order_for, vanishes}
use Rattle.exact.proofs.Gaps.{gap_exp, telescope, integral_order, integral_close}
use Rattle.exact.proofs.Plain.{Plain, ◌⊴ₚ◌}
use Rattle.exact.proofs.PlainFine.{FineP}

-- e^(−x), J and ln as plain values; `lift` makes them those of specs/Value.antt
abbrev pub exp_p : Frac → Plain
exp_p x = record { ok = from_one; low = λ n. exp_low x n; high = λ n. exp_high x n }

abbrev pub integral_p : Frac → Frac → Plain
integral_p p w = record { ok = from_one; low = λ n. integral_low p w n; high = λ n. integral_high p w n }

abbrev pub ln_p : Frac → Frac → Plain
ln_p p w = record { ok = from_one; low = λ n. ln_low p w n; high = λ n. ln_high p w n }

is_from_one : (n : ℕ) → 0 < n → T (from_one n)
is_from_one zero h = absurd (omega arith)
is_from_one (suc n) h = tt

pub from_one_is : (n : ℕ) → T (from_one n) → 0 < n
from_one_is zero h = absurd h
from_one_is (suc n) h = zero-lt-suc n

-- ---- e^(−x)
pub exp⊴ₚ : {x y : Frac} → x ≼ y → exp_p y ⊴ₚ exp_p x
exp⊴ₚ h = record { apart = λ n m s t. low_high n m h }

abbrev pub e_order : Frac → Frac → ℕ
e_order x e = suc (2 * x.num + order_for x (half e))

pub fine_p_exp : (x : Frac) → FineP (exp_p x)
fine_p_exp x = record { order = λ e z. e_order x e; bounds = λ e z n h. is_from_one n (omega arith); gap = near }
  where
    near : (e : Frac) (z : 0 < e.num) (n : ℕ) → e_order x e ≤ n → exp_high x n ≼ exp_low x n ⊕ e
    near e z n h = q_from (exp_high x n ∷ exp_low x n ∷ term x (suc n) ∷ e ∷ half e ∷ [])
        (le (qn 1) (qv 0) (qv 1 +' qn 2 *' qv 2) ∷ le (qn 2) (qv 2) (qv 4) ∷ le (qn 1) (qv 4 +' qv 4) (qv 3) ∷ []) (qv 0) (qv 1 +' qv 3) tt
        (gap_exp x n (enough_of x n (trans≼ (twice x) (whole≼ (omega arith))))) (vanishes x (half e) (half_above e z) (suc n) (omega arith)) (halves_in e)

-- ---- J is at most ln, order by order
module _ (p w : Frac) (zp : 0 < p.num) where
  pub integral_below_ln : (n : ℕ) → integral_low p w n ≼ ln_low p w n
  integral_below_ln n = mul≼ (refl≼ (w ⊗ 1 per n)) (sum≼ _ _ n (λ i l. ÷≼ (cut_above p w (suc i) n zp) (low_one (cut_at p w (suc i) n) n) (refl≼ (cut_at p w (suc i) n))))

  pub integral_below_ln_high : (n : ℕ) → integral_high p w n ≼ ln_high p w n
  integral_below_ln_high n = mul≼ (refl≼ (w ⊗ 1 per n)) (sum≼ _ _ n (λ i l. ÷≼ (cut_above p w i n zp) (high_one (cut_at p w i n) n) (refl≼ (cut_at p w i n))))

-- ---- J and ln over two stretches, the second nearer to 0, with the same ratio of their ends
module _ (p w p' w' : Frac) (zp : 0 < p.num) (zp' : 0 < p'.num) (hr : w ⊗ p' ≼ w' ⊗ p) where
  pub integral⊴ₚ : p' ≼ p → w' ≼ w → integral_p p w ⊴ₚ integral_p p' w'
  integral⊴ₚ hp hw = record {
    apart = λ n m s t. sums_apart p w p' w' zp zp' hr n m (from_one_is n s) (from_one_is m t) (λ i. exp_low (cut_at p w (suc i) n) n) (λ j. exp_high (cut_at p' w' j m) m)
        (λ i j k. low_high n m (add≼ hp (mul≼ hw (per_meet j m (from_one_is m t) i n (from_one_is n s) k))));
  }

  pub ln⊴ₚ : ln_p p w ⊴ₚ ln_p p' w'
  ln⊴ₚ = record { apart = λ n m s t. sums_apart p w p' w' zp zp' hr n m (from_one_is n s) (from_one_is m t) (λ i. 1F) (λ j. 1F) (λ i j k. refl≼ 1F) }

  -- J is at most ln of the same ratio
  pub integral⊴ln : integral_p p w ⊴ₚ ln_p p' w'
  integral⊴ln = record { apart = λ n m s t. trans≼ (integral_below_ln p w zp n) (ln⊴ₚ.apart n m s t) }

-- ---- the gaps vanish
pub fine_p_integral : (p w : Frac) → 0 < p.num → FineP (integral_p p w)
fine_p_integral p w zp = record { order = λ e z. suc (integral_order p w zp (half e) (half_above e z)); bounds = λ e z n h. is_from_one n (omega arith); gap = near }
  where
    near : (e : Frac) (z : 0 < e.num) (n : ℕ) → suc (integral_order p w zp (half e) (half_above e z)) ≤ n → integral_high p w n ≼ integral_low p w n ⊕ e
    near e z zero h = absurd (omega arith)
    near e z (suc n) h = trans≼ (integral_close p w zp (half e) (half_above e z) n (omega arith)) (add≼ (refl≼ (integral_low p w (suc n))) (halves_in e))

module _ (p w : Frac) (zp : 0 < p.num) where
  nearest : (i n : ℕ) → 1F ÷ cut_at p w i n ≼ 1F ÷ p
  nearest i n = ÷≼ zp (refl≼ 1F) (cut_start p w i n)

  -- ln's gap at order n is at most w/(n·p)
  gap_ln : (n : ℕ) → ln_high p w n ≼ ln_low p w n ⊕ w ⊗ 1 per n ⊗ (1F ÷ p)
  gap_ln n = q_from (w ∷ (1 per n) ∷ sum (λ i. 1F ÷ cut_at p w i n) n ∷ sum (λ i. 1F ÷ cut_at p w (suc i) n) n ∷ (1F ÷ cut_at p w 0 n) ∷ (1F ÷ p) ∷ (1F ÷ cut_at p w n n) ∷ whole n ∷ [])
      (le (qv 0 *' qv 1) (qv 2 +' qv 6) (qv 3 +' qv 4 +' qv 7 *' qn 0) ∷ le (qv 0 *' qv 1) (qv 4) (qv 5) ∷ []) (qv 0 *' qv 1 *' qv 2) (qv 0 *' qv 1 *' qv 3 +' qv 0 *' qv 1 *' qv 5) tt
      (telescope (λ i. 1F ÷ cut_at p w i n) (λ i. 1F ÷ cut_at p w i n) 0F (refl≼ (1F ÷ cut_at p w 0 n)) n (λ i l. q_le ((1F ÷ cut_at p w i n) ∷ []) (qv 0) (qv 0 +' qn 0) tt)) (nearest 0 n)

  abbrev pub ln_order : Frac → ℕ
  ln_order e = suc ((w ⊗ (1F ÷ p)).num * e.den)

  pub fine_p_ln : FineP (ln_p p w)
  fine_p_ln = record { order = λ e z. ln_order e; bounds = λ e z n h. is_from_one n (omega arith); gap = near }
    where
      near : (e : Frac) (z : 0 < e.num) (n : ℕ) → ln_order e ≤ n → ln_high p w n ≼ ln_low p w n ⊕ e
      near e z zero h = absurd (omega arith)
      near e z (suc n) h = trans≼ (gap_ln (suc n)) (add≼ (refl≼ (ln_low p w (suc n)))
          (q_from (w ∷ (1 per (suc n)) ∷ (1F ÷ p) ∷ whole (suc n) ∷ e ∷ []) (le (qv 1) (qv 0 *' qv 2) (qv 3 *' qv 4) ∷ eq (qv 4) (qn 0) (qv 1 *' qv 3) (qn 1) ∷ []) (qv 0 *' qv 1 *' qv 2) (qv 4) tt
          (reach (w ⊗ (1F ÷ p)) e z n (omega arith)) (per_times 1 (suc n) (zero-lt-suc n))))

  -- ---- at every order: ln's lower fraction is at least w/(p + w), which is (r − 1)/r
  pub end_above : 0 < (p ⊕ w).num
  end_above = above zp (q_le (p ∷ w ∷ []) (qv 0) (qv 0 +' qv 1) tt)

  pub ln_least : (n : ℕ) → T (from_one n) → w ÷ (p ⊕ w) ≼ ln_low p w n
  ln_least n s = q_from ((w ÷ (p ⊕ w)) ∷ w ∷ (1F ÷ (p ⊕ w)) ∷ (1 per n) ∷ whole n ∷ sum (λ i. 1F ÷ (p ⊕ w)) n ∷ sum (λ i. 1F ÷ cut_at p w (suc i) n) n ∷ [])
      (eq (qn 1) (qn 0) (qv 0) (qv 1 *' qv 2) ∷ eq (qn 0) (qv 1 *' qv 2) (qv 3 *' qv 4) (qn 1) ∷ eq (qn 0) (qv 1 *' qv 3) (qv 5) (qv 4 *' qv 2) ∷ le (qv 1 *' qv 3) (qv 5) (qv 6) ∷ []) (qv 0) (qv 1 *' qv 3 *' qv 6) tt
      (÷-inv w (p ⊕ w) end_above) (per_times 1 n (from_one_is n s)) (sum_same (1F ÷ (p ⊕ w)) n)
      (sum≼ (λ i. 1F ÷ (p ⊕ w)) (λ i. 1F ÷ cut_at p w (suc i) n) n (λ i l. ÷≼ (cut_above p w (suc i) n zp) (refl≼ 1F) (cut_end p w (suc i) n (from_one_is n s) l)))

  -- .. and the upper fractions are at most w/p, which is r − 1
  pub ln_most : (n : ℕ) → T (from_one n) → ln_high p w n ≼ w ⊗ (1F ÷ p)
  ln_most n s = q_from (w ∷ (1F ÷ p) ∷ (1 per n) ∷ whole n ∷ sum (λ i. 1F ÷ cut_at p w i n) n ∷ sum (λ i. 1F ÷ p) n ∷ [])
      (le (qv 0 *' qv 2) (qv 4) (qv 5) ∷ eq (qv 0 *' qv 2) (qn 0) (qv 5) (qv 3 *' qv 1) ∷ eq (qv 0 *' qv 1) (qn 0) (qv 2 *' qv 3) (qn 1) ∷ []) (qv 0 *' qv 2 *' qv 4) (qv 0 *' qv 1) tt
      (sum≼ (λ i. 1F ÷ cut_at p w i n) (λ i. 1F ÷ p) n (λ i l. nearest i n)) (sum_same (1F ÷ p) n) (per_times 1 n (from_one_is n s))

  pub integral_most : (n : ℕ) → T (from_one n) → integral_high p w n ≼ w ⊗ (1F ÷ p)
  integral_most n s = trans≼ (integral_below_ln_high p w zp n) (ln_most n s)
