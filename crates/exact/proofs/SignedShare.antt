-- The laws of the values that specs/Share.antt defines: attainment, J, β and G of an accepted cable and minute count.
use Prim.Native.Nat.{ℕ, zero, suc, ◌≤◌}
use mathlib.Core.List.{List, [], ◌∷◌}
use lib.Dec.{T}
use native.Mathlib.Nat.{le_refl}
use native.Mathlib.Omega.{arith}
use Rattle.numbers.specs.Fraction.{Frac, ◌≼◌, ◌≺◌, 0F, 1F, ◌∸◌}
use Rattle.numbers.specs.Signed.{Signed, ◌≼ₛ◌, ◌≺ₛ◌, of_frac, add_s}
use Rattle.numbers.proofs.Fractions.{refl≼, zero≼, one_above}
use Rattle.numbers.proofs.Strict.{half, half_above}
use Rattle.numbers.proofs.SignedFractions.{trans≼ₛ, of_frac≼, of_frac≺, of_frac_below, le_strictₛ, strict_leₛ}
use Rattle.exact.specs.Value.{◌+ᵥ◌, Value, AtMost, AtLeast, ◌⊴◌, Fine, from_one, number, exp_neg, ln, ◌−ᵥ◌, ◌·ᵥ◌}
use Rattle.exact.specs.Share.{CableNumbers, Source, sources, Accepted, millionths, exponent, ratio, attainment, heating, source_heating, source_log, with_heatings, with_logs, beta, surface, share}
use Rattle.exact.proofs.Plain.{Plain, and_0, and_1, known, add_p, mul_p, known⊴ₚ}
use Rattle.exact.proofs.Values.{lift, lift⊴, at_least_join, fine_lift, gap_below}
use Rattle.exact.proofs.Parts.{exp_p, exp⊴ₚ}
use Rattle.exact.proofs.Lifting.{◌≐◌, refl≐, trans≐, ⊴-same, fine_same, add≐, neg≐, mul≐, lift_add, lift_mul, lift_less, less_twice, quot_same}
use Rattle.exact.proofs.Sources.{source_heating_p, source_log_p, heating_on, log_on}
use Rattle.exact.proofs.Share.{lag_p, attainment_p, heating_p, log_p, group_heating_p, group_log_p, beta_p, surface_p, share_p, weight_one, surface_one_lem, fine_log_p, heating_rises_p, group_heating_rises_p, group_log⊴ₚ, beta_rises_p, attainment_rises_p, surface_rises_p, share_rises_p, fine_heating_p, fine_beta_p, fine_attainment_p, fine_share_p, beta_ok_p, attainment_ok_p, share_ok_p, lag_high_one, lag_low_one}
use Rattle.exact.proofs.ShareRange.{heating⊴log, share_low_one_p, top_order, share_below_one_p, bottom_order, share_above_zero_p}

-- ---- each has, order by order, the fractions of its plain value: nothing is cut off there
module _ (c : CableNumbers) (m : ℕ) (a : Accepted c m) where
  complement : (v : Frac) → v ≼ 1F → number 1F −ᵥ number v ≐ lift (known (1F ∸ v))
  complement v h = lift_less 1F (known v) (λ n t. h) (λ n t. h)

  pub attainment_plain : attainment c m ≐ lift (attainment_p c m)
  attainment_plain = trans≐ (less_twice (number 1F) (number w ·ᵥ exp_neg fast_by) ((number 1F −ᵥ number w) ·ᵥ exp_neg slow_by))
      (trans≐ (add≐ (refl≐ (number 1F)) (neg≐ (trans≐ (add≐ (lift_mul (known w) (exp_p fast_by) (known⊴ₚ (refl≼ w)) (exp⊴ₚ (refl≼ fast_by)))
      (trans≐ (mul≐ (complement w (weight_one c m a)) (refl≐ (exp_neg slow_by))) (lift_mul (known (1F ∸ w)) (exp_p slow_by) (known⊴ₚ (refl≼ (1F ∸ w))) (exp⊴ₚ (refl≼ slow_by)))))
      (lift_add (mul_p (known w) (exp_p fast_by)) (mul_p (known (1F ∸ w)) (exp_p slow_by))))))
      (lift_less 1F (lag_p c m) (λ n t. lag_high_one c m a n) (λ n t. lag_low_one c m a n)))
    where
      w : Frac
      w = millionths c.w

      fast_by : Frac
      fast_by = exponent c.fast m

      slow_by : Frac
      slow_by = exponent c.slow m

  heatings_plain : {v : Value} (own : Plain) (xs : List Source) → v ≐ lift own → with_heatings c.s m v xs ≐ lift (heating_on c.s m own xs)
  heatings_plain own [] e = e
  heatings_plain {v = v} own (x ∷ xs) e = heatings_plain {v = v +ᵥ (source_heating c.s m x)} (add_p own (source_heating_p c.s m x)) xs (trans≐ (add≐ e (refl≐ (source_heating c.s m x))) (lift_add own (source_heating_p c.s m x)))

  logs_plain : {v : Value} (own : Plain) (xs : List Source) → v ≐ lift own → with_logs v xs ≐ lift (log_on own xs)
  logs_plain own [] e = e
  logs_plain {v = v} own (x ∷ xs) e = logs_plain {v = v +ᵥ (source_log x)} (add_p own (source_log_p x)) xs (trans≐ (add≐ e (refl≐ (source_log x))) (lift_add own (source_log_p x)))

  pub beta_plain : beta c m ≐ lift (beta_p c m)
  beta_plain = quot_same (group_heating_p c m) (group_log_p c) (group_heating_rises_p c m m a a (le_refl m)) (group_log⊴ₚ c) (heatings_plain (heating_p c m) (sources c) (refl≐ (heating c m))) (logs_plain (log_p c) (sources c) (refl≐ (ln (ratio c))))

  pub surface_plain : surface c m ≐ lift (surface_p c m)
  surface_plain = trans≐ (add≐ (complement k (surface_one_lem c m a)) (trans≐ (mul≐ (refl≐ (number k)) beta_plain) (lift_mul (known k) (beta_p c m) (known⊴ₚ (refl≼ k)) (beta_rises_p c m m a a (le_refl m)))))
      (lift_add (known (1F ∸ k)) (mul_p (known k) (beta_p c m)))
    where
      k : Frac
      k = millionths c.k

  pub share_plain : share c m ≐ lift (share_p c m)
  share_plain = trans≐ (mul≐ surface_plain attainment_plain) (lift_mul (surface_p c m) (attainment_p c m) (surface_rises_p c m m a a (le_refl m)) (attainment_rises_p c m m a a (le_refl m)))

-- ---- no lower fraction at m minutes exceeds an upper one at m' ≥ m minutes; with m' = m, none exceeds another
module _ (c : CableNumbers) (m m' : ℕ) (a : Accepted c m) (a' : Accepted c m') (h : m ≤ m') where
  pub attainment_rises : attainment c m ⊴ attainment c m'
  attainment_rises = ⊴-same (attainment_plain c m a) (attainment_plain c m' a') (lift⊴ (attainment_rises_p c m m' a a' h))

  pub heating_rises : heating c m ⊴ heating c m'
  heating_rises = lift⊴ (heating_rises_p c m m' a a' h)

  pub beta_rises : beta c m ⊴ beta c m'
  beta_rises = ⊴-same (beta_plain c m a) (beta_plain c m' a') (lift⊴ (beta_rises_p c m m' a a' h))

  pub share_rises : share c m ⊴ share c m'
  share_rises = ⊴-same (share_plain c m a) (share_plain c m' a') (lift⊴ (share_rises_p c m m' a a' h))

module _ (c : CableNumbers) (m : ℕ) (a : Accepted c m) where
  -- ---- for every e above 0, from some order on bounds at most e apart
  pub fine_attainment : Fine (attainment c m)
  fine_attainment = fine_same (attainment_plain c m a) (fine_lift (fine_attainment_p c m a))

  pub fine_heating : Fine (heating c m)
  fine_heating = fine_lift (fine_heating_p c m a)

  pub fine_log : Fine (ln (ratio c))
  fine_log = fine_lift (fine_log_p c)

  pub fine_beta : Fine (beta c m)
  fine_beta = fine_same (beta_plain c m a) (fine_lift (fine_beta_p c m a))

  pub fine_share : Fine (share c m)
  fine_share = fine_same (share_plain c m a) (fine_lift (fine_share_p c m a))

  -- 'for every accepted cable and minute count some order has a gap below one millionth'
  abbrev pub millionth_order : ℕ
  millionth_order = fine_share.order (half (millionths 1)) (half_above (millionths 1) one_above)

  pub millionth_bounds : T ((share c m).ok millionth_order)
  millionth_bounds = fine_share.bounds (half (millionths 1)) (half_above (millionths 1) one_above) millionth_order (le_refl millionth_order)

  pub millionth_gap : (share c m).high millionth_order ≺ₛ add_s ((share c m).low millionth_order) (of_frac (millionths 1))
  millionth_gap = gap_below fine_share (millionths 1) one_above millionth_order (le_refl millionth_order)

  -- ---- every order from 1 gives bounds
  pub attainment_bounds : (n : ℕ) → T (from_one n) → T ((attainment c m).ok n)
  attainment_bounds n t = (attainment_plain c m a).back n (attainment_ok_p c m a n t)

  pub beta_bounds : (n : ℕ) → T (from_one n) → T ((beta c m).ok n)
  beta_bounds n t = (beta_plain c m a).back n (beta_ok_p c m a n t)

  pub share_bounds : (n : ℕ) → T (from_one n) → T ((share c m).ok n)
  share_bounds n t = (share_plain c m a).back n (share_ok_p c m a n t)

  -- ---- G's lower fraction is at most 1 and its upper one at least 0, at every order
  pub share_low_one : (n : ℕ) → T (from_one n) → (share c m).low n ≼ₛ of_frac 1F
  share_low_one n t = trans≼ₛ ((share_plain c m a).lows n (share_bounds n t)).to (of_frac≼ (share_low_one_p c m a n t))

  pub share_high_zero : (n : ℕ) → T (from_one n) → of_frac 0F ≼ₛ (share c m).high n
  share_high_zero n t = trans≼ₛ (of_frac≼ (zero≼ ((share_p c m).high n))) ((share_plain c m a).highs n (share_bounds n t)).from

  -- ---- the exact G lies strictly between 0 and 1
  pub share_below_one : (share c m).high (top_order c m a) ≺ₛ of_frac 1F
  share_below_one = le_strictₛ ((share_plain c m a).highs (top_order c m a) (share_bounds (top_order c m a) tt)).to (of_frac≺ (share_below_one_p c m a))

  pub share_above_zero : of_frac 0F ≺ₛ (share c m).low (bottom_order c m a)
  share_above_zero = strict_leₛ (of_frac≺ (share_above_zero_p c m a)) ((share_plain c m a).lows (bottom_order c m a) (share_bounds (bottom_order c m a) tt)).from

  -- so a whole number of millionths that is at most G is at most 999,999, and one that is at least G is at least 1
  pub low_share_most : (v : ℕ) → AtMost (of_frac (millionths v)) (share c m) → v ≤ 999999
  low_share_most v h = go (of_frac_below (millionths v) 1F (le_strictₛ (h.most (top_order c m a) (share_bounds (top_order c m a) tt)) share_below_one))
    where
      go : millionths v ≺ 1F → v ≤ 999999
      go k = omega (arith, k.cross)

  pub high_share_least : (v : ℕ) → AtLeast (of_frac (millionths v)) (share c m) → 1 ≤ v
  high_share_least v h = go (of_frac_below 0F (millionths v) (strict_leₛ share_above_zero (h.least (bottom_order c m a) (share_bounds (bottom_order c m a) tt))))
    where
      go : 0F ≺ millionths v → 1 ≤ v
      go k = omega (arith, k.cross)

  -- 0 is at most G, 1 is at least G, and what is at least ln r is at least J
  pub zero_at_most : AtMost (of_frac 0F) (share c m)
  zero_at_most = record { most = λ n t. trans≼ₛ (of_frac≼ (zero≼ ((share_p c m).high n))) ((share_plain c m a).highs n t).from }

  pub one_at_least : AtLeast (of_frac 1F) (share c m)
  one_at_least = record { least = λ n t. go n t }
    where
      go : (n : ℕ) → T ((share c m).ok n) → (share c m).low n ≼ₛ of_frac 1F
      go zero t = absurd (and_0 (from_one 0) (from_one 0) (and_1 ((surface_p c m).ok 0) ((attainment_p c m).ok 0) ((share_plain c m a).there zero t)))
      go (suc n) t = share_low_one (suc n) tt

  pub log_caps_heating : {v : Signed} → AtLeast v (ln (ratio c)) → AtLeast v (heating c m)
  log_caps_heating = at_least_join (lift⊴ (heating⊴log c m a)) fine_log
