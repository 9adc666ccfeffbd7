-- The attained share of a cable in plain values: no lower fraction at m minutes exceeds an upper one at m' ≥ m minutes, the gaps vanish, and every
-- order from 1 gives bounds. `SignedShare` carries this to the definitions of specs/Share.antt.
use Prim.Native.Nat.{ℕ, ◌+◌, ◌*◌, ◌≤◌, ◌<◌}
use mathlib.Core.List.{List, [], ◌∷◌, map}
use lib.Dec.{T}
use lib.IntN.{nat_abs}
use native.Mathlib.Nat.{mul-pos, zero-lt-suc, mul-le-mul, mul-le-mul_right, le_refl}
use native.Mathlib.Omega.{arith}
use Rattle.numbers.specs.Fraction.{Frac, ◌≼◌, ◌≈◌, 1F, ◌⊕◌, ◌⊗◌, ◌÷◌, ◌∸◌}
use Rattle.numbers.proofs.Fractions.{refl≼, trans≼, mul≼, above, sym≈, trans≈, mul≈, per_is, per_above, per≼, whole≼, one_above, ÷-above}
use Rattle.numbers.proofs.FractionProver.{qv, qn, ◌+'◌, ◌*'◌, q_le, le, q_from}
use Rattle.numbers.proofs.Subtraction.{less_on, less_exact}
use Rattle.exact.specs.Exponential.{exp_low, exp_high}
use Rattle.exact.specs.Value.{from_one}
use Rattle.exact.specs.Share.{CableNumbers, Neighbour, between, source_of, sources, InTrench, AllInTrench, Accepted, seconds, millionths, exponent, near_end, far_end, ratio}
use Rattle.exact.specs.Share as exact
use Rattle.exact.proofs.Exponential.{low_one, high_one}
use Rattle.exact.proofs.Plain.{Plain, ◌⊴ₚ◌, both, known, add_p, mul_p, less_p, quot_p, known⊴ₚ, add⊴ₚ, mul⊴ₚ, less⊴ₚ, quot⊴ₚ}
use Rattle.exact.proofs.PlainFine.{FineP, fine_p_known, fine_p_add, fine_p_less, fine_p_mul, quot_ok, fine_p_quot}
use Rattle.exact.proofs.Parts.{exp_p, integral_p, ln_p, exp⊴ₚ, fine_p_exp, integral⊴ₚ, ln⊴ₚ, fine_p_integral, fine_p_ln, end_above, ln_least}
use Rattle.exact.proofs.Sources.{span_of_ratio, spans_fall, spans_alike, Apart, AllApart, none, more, Soil, heating_on, log_on, log_on⊴ₚ, fine_log_on, log_on_least, log_on_ok, log_on_own, fine_heating_on, heating_on_ok, heating_on_rises}

-- w·e^(−fast·t) + (1−w)·e^(−slow·t)
abbrev pub lag_p : CableNumbers → ℕ → Plain
lag_p c m = add_p (mul_p (known (millionths c.w)) (exp_p (exponent c.fast m))) (mul_p (known (1F ∸ millionths c.w)) (exp_p (exponent c.slow m)))

abbrev pub attainment_p : CableNumbers → ℕ → Plain
attainment_p c m = less_p 1F (lag_p c m)

-- q − p and r − 1
abbrev pub span_of : CableNumbers → ℕ → Frac
span_of c m = far_end c m ∸ near_end c m

abbrev pub beyond_one : CableNumbers → Frac
beyond_one c = ratio c ∸ 1F

abbrev pub heating_p : CableNumbers → ℕ → Plain
heating_p c m = integral_p (near_end c m) (span_of c m)

abbrev pub log_p : CableNumbers → Plain
log_p c = ln_p 1F (beyond_one c)

-- of the cable with its neighbours
abbrev pub group_heating_p : CableNumbers → ℕ → Plain
group_heating_p c m = heating_on c.s m (heating_p c m) (sources c)

abbrev pub group_log_p : CableNumbers → Plain
group_log_p c = log_on (log_p c) (sources c)

abbrev pub beta_p : CableNumbers → ℕ → Plain
beta_p c m = quot_p (group_heating_p c m) (group_log_p c)

abbrev pub surface_p : CableNumbers → ℕ → Plain
surface_p c m = add_p (known (1F ∸ millionths c.k)) (mul_p (known (millionths c.k)) (beta_p c m))

abbrev pub share_p : CableNumbers → ℕ → Plain
share_p c m = mul_p (surface_p c m) (attainment_p c m)

pub millionths_one : {n : ℕ} → n ≤ 1000000 → millionths n ≼ 1F
millionths_one h = omega arith

-- ---- the numbers p, q and r
module _ (c : CableNumbers) (m : ℕ) (a : Accepted c m) where
  pub minutes_above : 0 < m
  minutes_above = omega (arith, a.minutes_from)

  d_above : 0 < c.d
  d_above = omega (arith, a.cable.d_from)

  s_above : 0 < c.s
  s_above = omega (arith, a.cable.s_from)

  near_den : 0 < 8 * seconds m * c.s
  near_den = omega (arith, mul-pos minutes_above s_above)

  far_den : 0 < seconds m * c.s
  far_den = omega (arith, mul-pos minutes_above s_above)

  ratio_den : 0 < c.d * c.d
  ratio_den = mul-pos d_above d_above

  pub near_above : 0 < (near_end c m).num
  near_above = per_above (8 * seconds m * c.s) (omega (arith, ratio_den)) near_den

  pub two_below_ratio : 1F ⊕ 1F ≼ ratio c
  two_below_ratio = trans≼ (q_le [] (qn 1 +' qn 1) (qn 2) tt) (per≼ 2 1 (1600 * c.l * c.l) (c.d * c.d) (zero-lt-suc 0) ratio_den (omega (arith, mul-le-mul a.cable.d_to a.cable.d_to, mul-le-mul a.cable.l_from a.cable.l_from)))

  -- r − 1 and q − p are not cut off
  pub ratio_uncut : 1F ⊕ beyond_one c ≈ ratio c
  ratio_uncut = record { to = less_exact (trans≼ (q_le [] (qn 1) (qn 1 +' qn 1) tt) two_below_ratio); from = less_on (ratio c) 1F }

  pub beyond_above : 0 < (beyond_one c).num
  beyond_above = above one_above (q_from (ratio c ∷ beyond_one c ∷ []) (le (qn 1) (qn 1 +' qn 1) (qv 0) ∷ le (qn 1) (qv 0) (qn 1 +' qv 1) ∷ []) (qn 1) (qv 1) tt two_below_ratio (less_on (ratio c) 1F))

  pub far_is : near_end c m ⊗ ratio c ≈ far_end c m
  far_is = trans≈ (mul≈ (per_is (5 * c.d * c.d) (8 * seconds m * c.s) near_den) (per_is (1600 * c.l * c.l) (c.d * c.d) ratio_den))
      (trans≈ (go near_den ratio_den far_den) (sym≈ (per_is (1000 * c.l * c.l) (seconds m * c.s) far_den)))
    where
      go : (x : 0 < 8 * seconds m * c.s) (y : 0 < c.d * c.d) (z : 0 < seconds m * c.s) → ◌≈◌ ((record { num = 5 * c.d * c.d; den = 8 * seconds m * c.s; pos = x }) ⊗ (record { num = 1600 * c.l * c.l; den = c.d * c.d; pos = y })) (record { num = 1000 * c.l * c.l; den = seconds m * c.s; pos = z })
      go x y z = omega arith

  pub near_below_far : near_end c m ≼ far_end c m
  near_below_far = trans≼ (q_from (near_end c m ∷ ratio c ∷ []) (le (qv 0) (qn 1 +' qn 1) (qv 1) ∷ []) (qv 0) (qv 0 *' qv 1) tt two_below_ratio) far_is.to

  pub span_uncut : near_end c m ⊕ span_of c m ≈ far_end c m
  span_uncut = record { to = less_exact near_below_far; from = less_on (far_end c m) (near_end c m) }

  -- q − p is p times r − 1
  pub span_is : span_of c m ≈ beyond_one c ⊗ near_end c m
  span_is = span_of_ratio (near_end c m) (far_end c m) (ratio c) span_uncut ratio_uncut far_is

  pub weight_one : millionths c.w ≼ 1F
  weight_one = millionths_one a.cable.w_to

  pub surface_one_lem : millionths c.k ≼ 1F
  surface_one_lem = millionths_one a.cable.k_to

-- ---- the neighbours: d is at least 100, so that c is not 0
apart_of : (c : CableNumbers) (n : Neighbour) → 100 ≤ c.d → InTrench c n → Apart (source_of c.l n)
apart_of c n h t = record { some = above_zero (source_of c.l n).near (mul-le-mul h h) t.apart; order = further c.l n.depth }
  where
    above_zero : (x : ℕ) → 100 * 100 ≤ c.d * c.d → c.d * c.d ≤ 100 * x → 0 < x
    above_zero x i j = omega arith

    shorter : (a b : ℕ) → between a b ≤ a + b
    shorter a b = omega arith

    further : (a b : ℕ) → nat_abs n.offset * nat_abs n.offset + between a b * between a b ≤ nat_abs n.offset * nat_abs n.offset + (a + b) * (a + b)
    further a b = omega (arith, mul-le-mul (shorter a b) (shorter a b))

all_apart : (c : CableNumbers) {ns : List Neighbour} → 100 ≤ c.d → AllInTrench c ns → AllApart (map (source_of c.l) ns)
all_apart c h exact.none = none
all_apart c h (exact.more {n} t r) = more (apart_of c n h t) (all_apart c h r)

pub log⊴ₚ : (c : CableNumbers) → log_p c ⊴ₚ log_p c
log⊴ₚ c = ln⊴ₚ 1F (beyond_one c) 1F (beyond_one c) one_above one_above (refl≼ (beyond_one c ⊗ 1F))

pub fine_log_p : (c : CableNumbers) → FineP (log_p c)
fine_log_p c = fine_p_ln 1F (beyond_one c) one_above

pub group_log⊴ₚ : (c : CableNumbers) → group_log_p c ⊴ₚ group_log_p c
group_log⊴ₚ c = log_on⊴ₚ (sources c) (log⊴ₚ c)

pub fine_group_log_p : (c : CableNumbers) → FineP (group_log_p c)
fine_group_log_p c = fine_log_on (sources c) (fine_log_p c)

module _ (c : CableNumbers) (m : ℕ) (a : Accepted c m) where
  pub soil : Soil c.s m
  soil = omega (arith, mul-pos (minutes_above c m a) (s_above c m a))

  pub all_sources : AllApart (sources c)
  all_sources = all_apart c a.cable.d_from a.neighbours

-- w·x + (1 − w)·y is at most 1 where x and y are
pub weighed_one : (w x y : Frac) → w ≼ 1F → x ≼ 1F → y ≼ 1F → w ⊗ x ⊕ (1F ∸ w) ⊗ y ≼ 1F
weighed_one w x y z h k = q_from (w ∷ (1F ∸ w) ∷ x ∷ y ∷ []) (le (qv 0) (qv 2) (qn 1) ∷ le (qv 1) (qv 3) (qn 1) ∷ le (qn 1) (qv 0 +' qv 1) (qn 1) ∷ []) (qv 0 *' qv 2 +' qv 1 *' qv 3) (qn 1) tt h k (less_exact z)

-- ---- two minute counts
module _ (c : CableNumbers) (m m' : ℕ) (a : Accepted c m) (a' : Accepted c m') (h : m ≤ m') where
  near_falls : near_end c m' ≼ near_end c m
  near_falls = per≼ (5 * c.d * c.d) (8 * seconds m' * c.s) (5 * c.d * c.d) (8 * seconds m * c.s) (near_den c m' a') (near_den c m a) (omega (arith, mul-le-mul_right (2400 * c.s * c.d * c.d) h))

  span_falls : span_of c m' ≼ span_of c m
  span_falls = spans_fall (near_end c m) (near_end c m') (beyond_one c) (span_of c m) (span_of c m') (span_is c m a) (span_is c m' a') near_falls

  same_ratio : span_of c m ⊗ near_end c m' ≼ span_of c m' ⊗ near_end c m
  same_ratio = spans_alike (near_end c m) (near_end c m') (beyond_one c) (span_of c m) (span_of c m') (span_is c m a) (span_is c m' a')

  later : (rate : ℕ) → exponent rate m ≼ exponent rate m'
  later rate = mul≼ (refl≼ (millionths rate)) (whole≼ (omega (arith, mul-le-mul_right 60 h)))

  pub heating_rises_p : heating_p c m ⊴ₚ heating_p c m'
  heating_rises_p = integral⊴ₚ (near_end c m) (span_of c m) (near_end c m') (span_of c m') (near_above c m a) (near_above c m' a') same_ratio near_falls span_falls

  pub group_heating_rises_p : group_heating_p c m ⊴ₚ group_heating_p c m'
  group_heating_rises_p = heating_on_rises c.s m m' (soil c m a) (soil c m' a') h (all_sources c m a) heating_rises_p

  pub beta_rises_p : beta_p c m ⊴ₚ beta_p c m'
  beta_rises_p = quot⊴ₚ group_heating_rises_p (group_log⊴ₚ c)

  pub attainment_rises_p : attainment_p c m ⊴ₚ attainment_p c m'
  attainment_rises_p = less⊴ₚ 1F (add⊴ₚ (mul⊴ₚ (known⊴ₚ (refl≼ (millionths c.w))) (exp⊴ₚ (later c.fast))) (mul⊴ₚ (known⊴ₚ (refl≼ (1F ∸ millionths c.w))) (exp⊴ₚ (later c.slow))))

  pub surface_rises_p : surface_p c m ⊴ₚ surface_p c m'
  surface_rises_p = add⊴ₚ (known⊴ₚ (refl≼ (1F ∸ millionths c.k))) (mul⊴ₚ (known⊴ₚ (refl≼ (millionths c.k))) beta_rises_p)

  pub share_rises_p : share_p c m ⊴ₚ share_p c m'
  share_rises_p = mul⊴ₚ surface_rises_p attainment_rises_p

-- ---- the gaps vanish, and every order from 1 gives bounds
module _ (c : CableNumbers) (m : ℕ) (a : Accepted c m) where
  -- (r − 1)/r
  abbrev pub log_floor : Frac
  log_floor = beyond_one c ÷ (1F ⊕ beyond_one c)

  pub log_floor_above : 0 < log_floor.num
  log_floor_above = ÷-above (beyond_one c) (1F ⊕ beyond_one c) (beyond_above c m a) (end_above 1F (beyond_one c) one_above)

  pub fine_heating_p : FineP (heating_p c m)
  fine_heating_p = fine_p_integral (near_end c m) (span_of c m) (near_above c m a)

  pub fine_group_heating_p : FineP (group_heating_p c m)
  fine_group_heating_p = fine_heating_on c.s m (soil c m a) (all_sources c m a) fine_heating_p

  -- every lower fraction of the divisor
  pub group_log_least : (n : ℕ) → T ((group_log_p c).ok n) → log_floor ≼ (group_log_p c).low n
  group_log_least n t = log_on_least (log_p c) n (sources c) (ln_least 1F (beyond_one c) one_above n (log_on_own (log_p c) n (sources c) t))

  pub fine_beta_p : FineP (beta_p c m)
  fine_beta_p = fine_p_quot (group_heating_p c m) (group_log_p c) (group_heating_rises_p c m m a a (le_refl m)) (group_log⊴ₚ c) fine_group_heating_p (fine_group_log_p c) log_floor log_floor_above group_log_least

  fine_lag_p : FineP (lag_p c m)
  fine_lag_p = fine_p_add (weighed (millionths c.w) (exponent c.fast m)) (weighed (1F ∸ millionths c.w) (exponent c.slow m))
    where
      weighed : (v x : Frac) → FineP (mul_p (known v) (exp_p x))
      weighed v x = fine_p_mul (known⊴ₚ (refl≼ v)) (exp⊴ₚ (refl≼ x)) (fine_p_known v) (fine_p_exp x)

  pub fine_attainment_p : FineP (attainment_p c m)
  fine_attainment_p = fine_p_less 1F fine_lag_p

  fine_surface_p : FineP (surface_p c m)
  fine_surface_p = fine_p_add (fine_p_known (1F ∸ millionths c.k)) (fine_p_mul (known⊴ₚ (refl≼ (millionths c.k))) (beta_rises_p c m m a a (le_refl m)) (fine_p_known (millionths c.k)) fine_beta_p)

  pub fine_share_p : FineP (share_p c m)
  fine_share_p = fine_p_mul (surface_rises_p c m m a a (le_refl m)) (attainment_rises_p c m m a a (le_refl m)) fine_surface_p fine_attainment_p

  pub beta_ok_p : (n : ℕ) → T (from_one n) → T ((beta_p c m).ok n)
  beta_ok_p n h = quot_ok (group_heating_p c m) (group_log_p c) (group_heating_rises_p c m m a a (le_refl m)) (group_log⊴ₚ c) fine_group_heating_p (fine_group_log_p c) log_floor log_floor_above group_log_least n
      (heating_on_ok c.s m (heating_p c m) n (sources c) h h) (log_on_ok (log_p c) n (sources c) h h)

  pub attainment_ok_p : (n : ℕ) → T (from_one n) → T ((attainment_p c m).ok n)
  attainment_ok_p n h = both (from_one n) (from_one n) h h

  pub share_ok_p : (n : ℕ) → T (from_one n) → T ((share_p c m).ok n)
  share_ok_p n h = both ((beta_p c m).ok n) ((attainment_p c m).ok n) (beta_ok_p n h) (attainment_ok_p n h)

  -- the lag is at most 1, so that 1 less the lag is not cut off
  pub lag_high_one : (n : ℕ) → (lag_p c m).high n ≼ 1F
  lag_high_one n = weighed_one (millionths c.w) (exp_high (exponent c.fast m) n) (exp_high (exponent c.slow m) n) (weight_one c m a) (high_one (exponent c.fast m) n) (high_one (exponent c.slow m) n)

  pub lag_low_one : (n : ℕ) → (lag_p c m).low n ≼ 1F
  lag_low_one n = weighed_one (millionths c.w) (exp_low (exponent c.fast m) n) (exp_low (exponent c.slow m) n) (weight_one c m a) (low_one (exponent c.fast m) n) (low_one (exponent c.slow m) n)
