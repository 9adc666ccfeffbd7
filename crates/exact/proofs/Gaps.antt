-- How far the two fractions of one order lie apart: of e^(−x), and of J over any stretch.
use Prim.Native.Nat.{ℕ, zero, suc, ◌+◌, ◌*◌, ◌≤◌, ◌<◌}
use mathlib.Core.List.{[], ◌∷◌}
use mathlib.Core.Bool.{Bool, true, false}
use lib.Dec.{T}
use native.Mathlib.Nat.{mul-pos, zero-lt-suc}
use native.Mathlib.Omega.{arith}
use Rattle.numbers.specs.Fraction.{Frac, ◌≼◌, ◌per◌, whole, 0F, 1F, ◌⊕◌, ◌⊗◌, ◌÷◌, sum}
use Rattle.numbers.proofs.Fractions.{refl≼, trans≼, add≼, mul≼, per_times, whole≼, whole_next, one_above, ÷-times, ÷-above, ÷≼}
use Rattle.numbers.proofs.FractionProver.{qv, qn, ◌+'◌, ◌*'◌, q_le, le, eq, q_from}
use Rattle.numbers.proofs.Quotients.{÷-inv, ÷-add}
use Rattle.exact.specs.Exponential.{term, exp_sum, exp_sum_over, enough, exp_low, exp_high}
use Rattle.exact.specs.Cutting.{cut_at, integral_high, integral_low}
use Rattle.exact.proofs.Exponential.{term≼, sum_below_over, one_exp_sum, exp_sum_inv, exp_sum_over_inv, enough_of, low_high, high_one}
use Rattle.exact.proofs.Cutting.{cut_above, cut_start, cut_end}
use Rattle.exact.proofs.Vanishing.{reach, twice, order_for, vanishes}

gap_sums : (x : Frac) (n : ℕ) → (1F ÷ exp_sum x n) ≼ (1F ÷ exp_sum_over x n) ⊕ whole 2 ⊗ term x (suc n)
gap_sums x n = q_from ((1F ÷ exp_sum x n) ∷ (1F ÷ exp_sum_over x n) ∷ exp_sum x n ∷ term x (suc n) ∷ [])
    (eq (qn 0) (qv 0) (qv 1 *' (qv 2 +' qn 2 *' qv 3)) (qn 1) ∷ eq (qv 1) (qn 0) (qv 0 *' qv 2) (qn 1) ∷ le (qv 1 *' (qn 2 *' qv 3)) (qv 0) (qn 1) ∷ le (qn 2 *' qv 3) (qv 1) (qn 1) ∷ [])
    (qv 0) (qv 1 +' qn 2 *' qv 3) tt
    (exp_sum_over_inv x n) (exp_sum_inv x n) (÷≼ one_above (refl≼ 1F) (one_exp_sum x n)) (÷≼ one_above (refl≼ 1F) (trans≼ (one_exp_sum x n) (sum_below_over x n)))

pub gap_exp : (x : Frac) (n : ℕ) → T (enough x n) → exp_high x n ≼ exp_low x n ⊕ whole 2 ⊗ term x (suc n)
gap_exp x n h = go (enough x n) h
  where
    go : (b : Bool) → T b → ◌≼◌ (elim b [ true ↦ (1F ÷ exp_sum x n) | false ↦ 1F ]) (◌⊕◌ (elim b [ true ↦ (1F ÷ exp_sum_over x n) | false ↦ 0F ]) (whole 2 ⊗ term x (suc n)))
    go true k = gap_sums x n
    go false k = absurd k

-- a i ≤ b i + d, and b 0 ≤ a 0: the sum of a i over i < n is at most that of b (i + 1), and a 0 and n times d
pub telescope : (a b : ℕ → Frac) (d : Frac) → b 0 ≼ a 0 → (n : ℕ) → ((i : ℕ) → i < n → a i ≼ b i ⊕ d) → sum a n ⊕ b n ≼ sum (λ i. b (suc i)) n ⊕ a 0 ⊕ whole n ⊗ d
telescope a b d z zero h = q_from (a 0 ∷ b 0 ∷ d ∷ []) (le (qn 1) (qv 1) (qv 0) ∷ []) (qn 0 +' qv 1) (qn 0 +' qv 0 +' qn 0 *' qv 2) tt z
telescope a b d z (suc n) h = q_from (sum a n ∷ a n ∷ b (suc n) ∷ b n ∷ sum (λ i. b (suc i)) n ∷ a 0 ∷ whole n ∷ d ∷ whole (suc n) ∷ [])
    (le (qn 1) (qv 1) (qv 3 +' qv 7) ∷ le (qn 1) (qv 0 +' qv 3) (qv 4 +' qv 5 +' qv 6 *' qv 7) ∷ le (qv 7) (qv 6 +' qn 1) (qv 8) ∷ [])
    (qv 0 +' qv 1 +' qv 2) (qv 4 +' qv 2 +' qv 5 +' qv 8 *' qv 7) tt
    (h n (omega arith)) (telescope a b d z n (λ i p. h i (omega arith))) (whole_next n).from

module _ (p w : Frac) (zp : 0 < p.num) (n : ℕ) (z : 0 < n) (many : whole 2 ⊗ (p ⊕ w) ≼ whole n) where
  abbrev rest : Frac
  rest = (whole 2 ⊗ term (p ⊕ w) (suc n)) ÷ p

  abbrev a : ℕ → Frac
  a i = exp_high (cut_at p w i n) n ÷ (cut_at p w i n)

  abbrev b : ℕ → Frac
  b i = exp_low (cut_at p w i n) n ÷ (cut_at p w i n)

  near : (i : ℕ) → i < n → a i ≼ b i ⊕ rest
  near i h = trans≼
      (÷-add (exp_low (cut_at p w i n) n) (whole 2 ⊗ term (cut_at p w i n) (suc n)) (cut_at p w i n) (exp_high (cut_at p w i n) n) (cut_above p w i n zp) (gap_exp (cut_at p w i n) n (enough_of (cut_at p w i n) n (trans≼ (mul≼ (refl≼ (whole 2)) (cut_end p w i n z (omega arith))) many))))
      (add≼ (refl≼ (b i)) (÷≼ zp (mul≼ (refl≼ (whole 2)) (term≼ (suc n) (cut_end p w i n z (omega arith)))) (cut_start p w i n)))

  -- J's gap at order n: the width over n times the first height, and the width times 2·q^(n+1)/(n+1)! over p
  pub gap_integral : integral_high p w n ≼ integral_low p w n ⊕ w ⊗ (1 per n) ⊗ a 0 ⊕ w ⊗ rest
  gap_integral = q_from (w ∷ (1 per n) ∷ sum a n ∷ sum (λ i. b (suc i)) n ∷ a 0 ∷ whole n ∷ rest ∷ b n ∷ [])
      (le (qv 0 *' qv 1) (qv 2 +' qv 7) (qv 3 +' qv 4 +' qv 5 *' qv 6) ∷ eq (qv 0 *' qv 6) (qn 0) (qv 1 *' qv 5) (qn 1) ∷ [])
      (qv 0 *' qv 1 *' qv 2) (qv 0 *' qv 1 *' qv 3 +' qv 0 *' qv 1 *' qv 4 +' qv 0 *' qv 6) tt
      (telescope a b rest (÷≼ (cut_above p w 0 n zp) (low_high n n (refl≼ (cut_at p w 0 n))) (refl≼ (cut_at p w 0 n))) n near) (per_times 1 n z)

more_above : (w : Frac) → 0 < (whole 2 ⊗ (w ⊕ 1F)).num
more_above w = omega (arith, w.pos)

module _ (p w : Frac) (zp : 0 < p.num) (h : Frac) (zh : 0 < h.num) where
  -- how small x^(n+1)/(n+1)! must be
  abbrev pub gap_unit : Frac
  gap_unit = h ⊗ p ⊗ (1F ÷ (whole 2 ⊗ (w ⊕ 1F)))

  pub gap_unit_above : 0 < gap_unit.num
  gap_unit_above = mul-pos (mul-pos zh zp) (÷-above 1F (whole 2 ⊗ (w ⊕ 1F)) one_above (more_above w))

  -- the order from which on the gap is at most 2h, less one
  abbrev pub integral_order : ℕ
  integral_order = (w ⊗ (1F ÷ p)).num * h.den + 2 * (p ⊕ w).num + order_for (p ⊕ w) gap_unit

  first : (n : ℕ) (z : 0 < n) → w ⊗ (1F ÷ p) ≼ whole n ⊗ h → w ⊗ (1 per n) ⊗ (exp_high (cut_at p w 0 n) n ÷ (cut_at p w 0 n)) ≼ h
  first n z r = q_from (w ∷ (1 per n) ∷ (exp_high (cut_at p w 0 n) n ÷ (cut_at p w 0 n)) ∷ (1F ÷ p) ∷ whole n ∷ h ∷ [])
      (le (qv 0 *' qv 1) (qv 2) (qv 3) ∷ le (qv 1) (qv 0 *' qv 3) (qv 4 *' qv 5) ∷ eq (qv 5) (qn 0) (qv 1 *' qv 4) (qn 1) ∷ [])
      (qv 0 *' qv 1 *' qv 2) (qv 5) tt
      (÷≼ zp (high_one (cut_at p w 0 n) n) (q_le (p ∷ w ∷ (0 per n) ∷ []) (qv 0) (qv 0 +' qv 1 *' qv 2) tt)) r (per_times 1 n z)

  second : (s : Frac) → s ≼ gap_unit → w ⊗ ((whole 2 ⊗ s) ÷ p) ≼ h
  second s r = q_from (w ∷ s ∷ ((whole 2 ⊗ s) ÷ p) ∷ (1F ÷ p) ∷ p ∷ h ∷ (1F ÷ (whole 2 ⊗ (w ⊕ 1F))) ∷ [])
      (eq (qv 0) (qn 0) (qv 2) (qn 2 *' qv 1 *' qv 3) ∷ le (qv 0 *' qn 2 *' qv 3) (qv 1) (qv 5 *' qv 4 *' qv 6) ∷ eq (qn 2 *' qv 0 *' qv 5 *' qv 6) (qn 0) (qv 3 *' qv 4) (qn 1) ∷ eq (qv 5) (qn 0) (qv 6 *' (qn 2 *' (qv 0 +' qn 1))) (qn 1) ∷ [])
      (qv 0 *' qv 2) (qv 5) tt
      (÷-inv (whole 2 ⊗ s) p zp) r (÷-times 1F p zp) (÷-times 1F (whole 2 ⊗ (w ⊕ 1F)) (more_above w))

  pub integral_close : (m : ℕ) → integral_order ≤ m → integral_high p w (suc m) ≼ integral_low p w (suc m) ⊕ (h ⊕ h)
  integral_close m l = trans≼ (gap_integral p w zp (suc m) (zero-lt-suc m) (trans≼ (twice (p ⊕ w)) (whole≼ (omega arith))))
      (trans≼ (add≼ (add≼ (refl≼ (integral_low p w (suc m))) (first (suc m) (zero-lt-suc m) (reach (w ⊗ (1F ÷ p)) h zh m (omega arith))))
      (second (term (p ⊕ w) (suc (suc m))) (vanishes (p ⊕ w) gap_unit gap_unit_above (suc (suc m)) (omega arith))))
      (q_le (integral_low p w (suc m) ∷ h ∷ []) (qv 0 +' qv 1 +' qv 1) (qv 0 +' (qv 1 +' qv 1)) tt))
