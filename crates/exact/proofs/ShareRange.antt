-- The share in plain values lies strictly between 0 and 1: no lower fraction is above 1, some upper one is below 1, some lower one is above 0.
use Prim.Native.Nat.{ℕ, zero, suc, ◌+◌, ◌*◌, ◌-◌, ◌≤◌, ◌<◌}
use mathlib.Core.List.{[], ◌∷◌}
use mathlib.Core.Bool.{Bool, true, false}
use lib.Dec.{T}
use native.Mathlib.Nat.{mul-pos, zero-lt-suc, mul-le-mul, sub-add_cancel, le_refl}
use native.Mathlib.Omega.{arith}
use Rattle.numbers.specs.Fraction.{Frac, ◌≼◌, ◌≺◌, ◌per◌, 0F, 1F, ◌⊕◌, ◌⊗◌, ◌÷◌, ◌∸◌, sum}
use Rattle.numbers.proofs.Fractions.{refl≼, trans≼, above, whole≼, one_above, ÷-above, ÷≼, ÷≼of}
use Rattle.numbers.proofs.FractionProver.{qv, qn, qf, ◌+'◌, ◌*'◌, q_le, le, eq, q_from, q_cancel}
use Rattle.numbers.proofs.Subtraction.{less_on, less_least, less_exact}
use Rattle.numbers.proofs.Strict.{above_strict, strictly}
use Rattle.exact.specs.Exponential.{term, exp_sum, exp_sum_over, enough, exp_low, exp_high}
use Rattle.exact.specs.Cutting.{cut_at, integral_low}
use Rattle.exact.specs.Value.{from_one}
use Rattle.exact.specs.Share.{CableNumbers, sources, Accepted, millionths, exponent, near_end}
use Rattle.exact.proofs.Exponential.{over_falls_on, exp_sum_over_above, exp_sum_inv, enough_of, low_falls}
use Rattle.exact.proofs.Cutting.{cut_above, cut_end}
use Rattle.exact.proofs.Vanishing.{twice}
use Rattle.exact.proofs.Plain.{◌⊴ₚ◌}
use Rattle.exact.proofs.Parts.{integral⊴ln}
use Rattle.exact.proofs.Sources.{log_on_ok, heating_on⊴log_on, heating_on_least, heating_on_ok}
use Rattle.exact.proofs.Share.{lag_p, attainment_p, span_of, beyond_one, heating_p, log_p, group_heating_p, group_log_p, beta_p, surface_p, share_p, near_above, beyond_above, span_is, weight_one, surface_one_lem, group_log⊴ₚ, soil, all_sources, log_floor_above, group_log_least, fine_beta_p, lag_low_one}

-- ---- e^(−x) away from 0 and from 1
-- the lower fraction of order 2·num, above 0; those of higher orders are no smaller
abbrev pub exp_floor : Frac → Frac
exp_floor x = 1F ÷ exp_sum_over x (2 * x.num)

pub exp_floor_above : (x : Frac) → 0 < (exp_floor x).num
exp_floor_above x = ÷-above 1F (exp_sum_over x (2 * x.num)) one_above (exp_sum_over_above x (2 * x.num))

enough_on : (x : Frac) (n : ℕ) → 2 * x.num ≤ n → T (enough x n)
enough_on x n h = enough_of x n (trans≼ (twice x) (whole≼ h))

pub low_from_floor : (x : Frac) (n : ℕ) → 2 * x.num ≤ n → exp_floor x ≼ exp_low x n
low_from_floor x n h = go (enough x n) (enough_on x n h)
  where
    go : (b : Bool) → T b → ◌≼◌ (exp_floor x) (elim b [ true ↦ 1F ÷ exp_sum_over x n | false ↦ 0F ])
    go true k = ÷≼ (exp_sum_over_above x n) (refl≼ 1F) (rw (sub-add_cancel {n = n} {m = 2 * x.num} h) at (over_falls_on x (n - 2 * x.num) (2 * x.num) (twice x)))
    go false k = absurd k

one_and_more : (y : Frac) (n : ℕ) → 1F ⊕ y ≼ exp_sum y (suc n)
one_and_more y zero = q_le (y ∷ []) (qn 1 +' qv 0) (qn 1 +' qn 1 *' qv 0 *' qf 1 1) tt
one_and_more y (suc n) = trans≼ (one_and_more y n) (q_le (exp_sum y (suc n) ∷ term y (suc (suc n)) ∷ []) (qv 0) (qv 0 +' qv 1) tt)

-- the upper fraction of e^(−x) is at most 1/(1 + x) once the order is enough
high_under : (x x0 : Frac) (n : ℕ) → x0 ≼ x → 2 * x.num ≤ suc n → exp_high x (suc n) ⊗ (1F ⊕ x0) ≼ 1F
high_under x x0 n k h = go (enough x (suc n)) (enough_on x (suc n) h)
  where
    go : (b : Bool) → T b → ◌≼◌ (◌⊗◌ (elim b [ true ↦ 1F ÷ exp_sum x (suc n) | false ↦ 1F ]) (1F ⊕ x0)) 1F
    go true k' = q_from ((1F ÷ exp_sum x (suc n)) ∷ x ∷ x0 ∷ exp_sum x (suc n) ∷ []) (le (qv 0) (qv 2) (qv 1) ∷ le (qv 0) (qn 1 +' qv 1) (qv 3) ∷ eq (qn 1) (qn 0) (qv 0 *' qv 3) (qn 1) ∷ []) (qv 0 *' (qn 1 +' qv 2)) (qn 1) tt
        k (one_and_more x n) (exp_sum_inv x (suc n))
    go false k' = absurd k'

-- J's lower fraction is above 0 once 2q is at most the order
integral_low_above : (p w : Frac) → 0 < p.num → 0 < w.num → (n : ℕ) → 2 * (p ⊕ w).num ≤ suc n → 0 < (integral_low p w (suc n)).num
integral_low_above p w zp zw n h = mul-pos (omega (arith, zw)) (above last (q_le (sum f n ∷ f n ∷ []) (qv 1) (qv 0 +' qv 1) tt))
  where
    u : Frac
    u = cut_at p w (suc n) (suc n)

    f : ℕ → Frac
    f i = exp_low (cut_at p w (suc i) (suc n)) (suc n) ÷ cut_at p w (suc i) (suc n)

    low_above : 0 < (exp_low u (suc n)).num
    low_above = above (exp_floor_above (p ⊕ w)) (trans≼ (low_from_floor (p ⊕ w) (suc n) h) (low_falls (suc n) (cut_end p w (suc n) (suc n) (zero-lt-suc n) (le_refl (suc n)))))

    last : 0 < (f n).num
    last = ÷-above (exp_low u (suc n)) u low_above (cut_above p w (suc n) (suc n) zp)

module _ (c : CableNumbers) (m : ℕ) (a : Accepted c m) where
  abbrev pub fast_by : Frac
  fast_by = exponent c.fast m

  abbrev pub slow_by : Frac
  slow_by = exponent c.slow m

  -- ---- no lower fraction is above 1
  pub heating⊴log : heating_p c m ⊴ₚ log_p c
  heating⊴log = integral⊴ln (near_end c m) (span_of c m) 1F (beyond_one c) (near_above c m a) one_above (q_from (near_end c m ∷ span_of c m ∷ beyond_one c ∷ []) (eq (qn 1) (qn 0) (qv 1) (qv 2 *' qv 0) ∷ []) (qv 1 *' qn 1) (qv 2 *' qv 0) tt (span_is c m a))

  -- the same of the sums over the neighbours
  pub group_heating⊴log : group_heating_p c m ⊴ₚ group_log_p c
  group_heating⊴log = heating_on⊴log_on c.s m (soil c m a) (all_sources c m a) heating⊴log

  heating_ok : (n : ℕ) → T (from_one n) → T ((group_heating_p c m).ok n)
  heating_ok n t = heating_on_ok c.s m (heating_p c m) n (sources c) t t

  log_ok : (n : ℕ) → T (from_one n) → T ((group_log_p c).ok n)
  log_ok n t = log_on_ok (log_p c) n (sources c) t t

  group_log_high_above : (n : ℕ) → T (from_one n) → 0 < ((group_log_p c).high n).num
  group_log_high_above n t = above (log_floor_above c m a) (trans≼ (group_log_least c m a n (log_ok n t)) ((group_log⊴ₚ c).apart n n (log_ok n t) (log_ok n t)))

  pub beta_low_one : (n : ℕ) → T (from_one n) → (beta_p c m).low n ≼ 1F
  beta_low_one n t = ÷≼of 1F ((group_log_p c).high n) ((group_heating_p c m).low n) (group_log_high_above n t)
      (trans≼ (group_heating⊴log.apart n n (heating_ok n t) (log_ok n t)) (q_le ((group_log_p c).high n ∷ []) (qv 0) (qn 1 *' qv 0) tt))

  surface_low_one : (n : ℕ) → T (from_one n) → (surface_p c m).low n ≼ 1F
  surface_low_one n t = q_from (millionths c.k ∷ (1F ∸ millionths c.k) ∷ (beta_p c m).low n ∷ []) (le (qv 0) (qv 2) (qn 1) ∷ le (qn 1) (qv 0 +' qv 1) (qn 1) ∷ []) (qv 1 +' qv 0 *' qv 2) (qn 1) tt (beta_low_one n t) (less_exact (surface_one_lem c m a))

  pub share_low_one_p : (n : ℕ) → T (from_one n) → (share_p c m).low n ≼ 1F
  share_low_one_p n t = q_from ((surface_p c m).low n ∷ (attainment_p c m).low n ∷ []) (le (qv 1) (qv 0) (qn 1) ∷ le (qn 1) (qv 1) (qn 1) ∷ []) (qv 0 *' qv 1) (qn 1) tt (surface_low_one n t)
      (less_least 1F ((lag_p c m).high n) 1F (q_le ((lag_p c m).high n ∷ []) (qn 1) (qv 0 +' qn 1) tt))

  -- ---- some upper fraction is below 1: from some order on attainment is at most 1 − e and β at most 1 + e, e being above 0
  abbrev pub margin : Frac
  margin = exp_floor (fast_by ⊕ slow_by)

  pub margin_above : 0 < margin.num
  margin_above = exp_floor_above (fast_by ⊕ slow_by)

  abbrev pub top_order : ℕ
  top_order = suc (2 * (fast_by ⊕ slow_by).num + (fine_beta_p c m a).order margin margin_above)

  lag_low : (n : ℕ) → 2 * (fast_by ⊕ slow_by).num ≤ n → margin ≼ (lag_p c m).low n
  lag_low n h = q_from (millionths c.w ∷ (1F ∸ millionths c.w) ∷ exp_low fast_by n ∷ exp_low slow_by n ∷ margin ∷ []) (le (qv 4) (qn 1) (qv 0 +' qv 1) ∷ le (qv 0) (qv 4) (qv 2) ∷ le (qv 1) (qv 4) (qv 3) ∷ []) (qv 4) (qv 0 *' qv 2 +' qv 1 *' qv 3) tt
      (less_on 1F (millionths c.w)) (trans≼ (low_from_floor (fast_by ⊕ slow_by) n h) (low_falls n (q_le (fast_by ∷ slow_by ∷ []) (qv 0) (qv 0 +' qv 1) tt))) (trans≼ (low_from_floor (fast_by ⊕ slow_by) n h) (low_falls n (q_le (fast_by ∷ slow_by ∷ []) (qv 1) (qv 0 +' qv 1) tt)))

  attainment_high : (n : ℕ) → 2 * (fast_by ⊕ slow_by).num ≤ n → (attainment_p c m).high n ⊕ margin ≼ 1F
  attainment_high n h = q_from (margin ∷ (lag_p c m).low n ∷ (1F ∸ (lag_p c m).low n) ∷ []) (le (qn 1) (qv 0) (qv 1) ∷ le (qn 1) (qv 1 +' qv 2) (qn 1) ∷ []) (qv 2 +' qv 0) (qn 1) tt (lag_low n h) (less_exact (lag_low_one c m a n))

  surface_high : (n : ℕ) → (fine_beta_p c m a).order margin margin_above ≤ n → T (from_one n) → (surface_p c m).high n ≼ 1F ⊕ margin
  surface_high n h t = q_from (millionths c.k ∷ (1F ∸ millionths c.k) ∷ (beta_p c m).high n ∷ margin ∷ (beta_p c m).low n ∷ [])
      (le (qv 0) (qv 2) (qv 4 +' qv 3) ∷ le (qv 0) (qv 4) (qn 1) ∷ le (qn 1) (qv 0 +' qv 1) (qn 1) ∷ le (qv 3) (qv 0) (qn 1) ∷ []) (qv 1 +' qv 0 *' qv 2) (qn 1 +' qv 3) tt
      ((fine_beta_p c m a).gap margin margin_above n h) (beta_low_one n t) (less_exact (surface_one_lem c m a)) (surface_one_lem c m a)

  pub share_below_one_p : (share_p c m).high top_order ≺ 1F
  share_below_one_p = strictly (margin ⊗ margin) (mul-pos margin_above margin_above) (q_from ((surface_p c m).high top_order ∷ (attainment_p c m).high top_order ∷ margin ∷ [])
      (le (qv 1) (qv 0) (qn 1 +' qv 2) ∷ le (qn 1 +' qv 2) (qv 1 +' qv 2) (qn 1) ∷ []) (qv 0 *' qv 1 +' qv 2 *' qv 2) (qn 1) tt
      (surface_high top_order (omega arith) tt) (attainment_high top_order (omega arith)))

  -- ---- some lower fraction is above 0: each exponent is at least that of one minute at rate 1
  abbrev minute : Frac
  minute = millionths 60

  abbrev pub bottom_order : ℕ
  bottom_order = suc (2 * fast_by.num + 2 * slow_by.num + 2 * (near_end c m ⊕ span_of c m).num)

  minute_or_more : (rate : ℕ) → 1 ≤ rate → minute ≼ exponent rate m
  minute_or_more rate h = record { cross = go (mul-le-mul h a.minutes_from) }
    where
      go : 1 * 1 ≤ rate * m → 60 * (1000000 * 1) ≤ rate * (60 * m) * 1000000
      go p = omega arith

  lag_high : (lag_p c m).high bottom_order ⊗ (1F ⊕ minute) ≼ 1F
  lag_high = q_from (millionths c.w ∷ (1F ∸ millionths c.w) ∷ exp_high fast_by bottom_order ∷ exp_high slow_by bottom_order ∷ minute ∷ [])
      (le (qv 0) (qv 2 *' (qn 1 +' qv 4)) (qn 1) ∷ le (qv 1) (qv 3 *' (qn 1 +' qv 4)) (qn 1) ∷ le (qn 1) (qv 0 +' qv 1) (qn 1) ∷ []) ((qv 0 *' qv 2 +' qv 1 *' qv 3) *' (qn 1 +' qv 4)) (qn 1) tt
      (high_under fast_by minute (2 * fast_by.num + 2 * slow_by.num + 2 * (near_end c m ⊕ span_of c m).num) (minute_or_more c.fast a.cable.fast_from) (omega arith))
      (high_under slow_by minute (2 * fast_by.num + 2 * slow_by.num + 2 * (near_end c m ⊕ span_of c m).num) (minute_or_more c.slow a.cable.slow_from) (omega arith)) (less_exact (weight_one c m a))

  attainment_low_above : 0 < ((attainment_p c m).low bottom_order).num
  attainment_low_above = above {a = 60 per 1000060} (omega arith) (q_cancel ((lag_p c m).high bottom_order ∷ (1F ∸ (lag_p c m).high bottom_order) ∷ [])
      (le (qn 1) (qv 0 *' (qn 1 +' qf 60 1000000)) (qn 1) ∷ le (qn 1 +' qf 60 1000000) (qn 1) (qv 0 +' qv 1) ∷ []) (qn 1 +' qf 60 1000000) (qf 60 1000060) (qv 1) tt (omega arith)
      lag_high (less_on 1F ((lag_p c m).high bottom_order)))

  span_above : 0 < (span_of c m).num
  span_above = above (mul-pos (beyond_above c m a) (near_above c m a)) (span_is c m a).from

  heating_low_above : 0 < ((heating_p c m).low bottom_order).num
  heating_low_above = integral_low_above (near_end c m) (span_of c m) (near_above c m a) span_above (2 * fast_by.num + 2 * slow_by.num + 2 * (near_end c m ⊕ span_of c m).num) (omega arith)

  beta_low_above : 0 < ((beta_p c m).low bottom_order).num
  beta_low_above = ÷-above ((group_heating_p c m).low bottom_order) ((group_log_p c).high bottom_order)
      (above heating_low_above (heating_on_least c.s m (heating_p c m) bottom_order (sources c) (refl≼ _))) (group_log_high_above bottom_order tt)

  surface_low_above : 0 < ((surface_p c m).low bottom_order).num
  surface_low_above = above beta_low_above (q_from (millionths c.k ∷ (1F ∸ millionths c.k) ∷ (beta_p c m).low bottom_order ∷ []) (le (qv 1) (qv 2) (qn 1) ∷ le (qv 2) (qn 1) (qv 0 +' qv 1) ∷ []) (qv 2) (qv 1 +' qv 0 *' qv 2) tt (beta_low_one bottom_order tt) (less_on 1F (millionths c.k)))

  pub share_above_zero_p : 0F ≺ (share_p c m).low bottom_order
  share_above_zero_p = above_strict (mul-pos surface_low_above attainment_low_above)
