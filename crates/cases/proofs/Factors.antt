-- C3 and C4. Document 02, note 1: "C3 and C4 keep their answers." What multiplies each share is computed from the hours, for every reference hour of C3 and for C4's
-- loaded hour. C4's largest sum is that hour's at least, and at most what the law that no exact sum passes one leaves.
use Rattle.std.proofs.Common.{Option, Some, None, is_some}
use mathlib.Core.Path.{◌≡◌, refl, sym, ap, subst, ◌∙◌}
use mathlib.Core.Bool.{Bool, true, false, cond}
use mathlib.Core.List.{List, [], ◌∷◌}
use mathlib.Core.Logic.{⊎_elim}
use Prim.Native.Nat.{ℕ, suc, ◌+◌, ◌*◌, ◌≤◌, ◌<◌}
use native.Mathlib.Nat.{eq-or-lt_of_le}
use native.Mathlib.Omega.{arith}
use borrow.Author.Tests.{le-leb, lt-leb}
use lib.IntN.{ℤ, pos, negsuc, ◌+ℤ◌, ◌-ℤ◌, ◌*ℤ◌, +ℤ_idr}
use lib.ListN.{replicate}
use lib.Signed.{◌≤ℤ◌, ≤ℤ_refl}
use Rattle.numbers.specs.Fraction.{◌per◌}
use Rattle.numbers.specs.Rounding.{floor_z, ceil_z}
use Rattle.numbers.proofs.Integers.{le_lin, lin_le, mul_lin, ≤ℤ_trans, +ℤ_mono, *ℤ_mono_pos, *ℤ_mono_neg, greater_left, greater_right}
use Rattle.numbers.proofs.Rounding.{ceil_high}
use Rattle.numbers.proofs.Largest.{found_largest}
use Rattle.bounds.specs.Operations.{point_b, add_b, mul_b, divided_b}
use Rattle.bounds.specs.declared.Bounds.{Bounds}
use Rattle.cable_rules.specs.Checks.{outside_field, checked}
use Rattle.cable_rules.specs.Group.{alone, given_cable}
use Rattle.share_rules.specs.Pair.{share_pair}
use Rattle.share_rules.proofs.Promises.{share_promised}
use Rattle.cycle_rules.specs.Day.{highest_load, highest_of, squared_loads}
use Rattle.cycle_rules.specs.Heating.{relative_load, gathered_bounds, heating_bounds, heating_sum, reference_hour}
use Rattle.cycle_rules.specs.Factor.{allowed, most_heating, largest_factor}
use Rattle.cycle_rules.specs.Answer.{first_above, all_zero, factor_from, hour_pair}
use Rattle.cycle_rules.specs.declared.FactorAnswer.TheVariants.{Factor}
use Rattle.cycle_rules.proofs.FactorTest.{allowed_falls}
use Rattle.cycle_rules.proofs.ReferenceHour.{is_latest_largest, latest_one}
use Rattle.cable_rules.proofs.Acceptance.{given_sound}
use Rattle.cycle_rules.proofs.Said.{largest_sum_to}
use Rattle.cases.specs.Table.{Meant, gives, any_hour, factor, values, one_hour, cable_a, cable_b}
use Rattle.cases.proofs.Shares.{accepted_b, low_below_all, by_order, all_of_b}
use Rattle.cases.proofs.Rises.{none_of}

-- ---- the factor from the numbers of a day

-- 1 where an hour is above 4,000 A, 1 for a load of nothing, the highest load, and Y0 to Y5 and the mean of a reference hour in their common units
abbrev numbers : List ℕ → ℕ → List ℕ
numbers hours hour =
    cond (is_some (first_above hours)) 1 0 ∷ cond (all_zero hours) 1 0 ∷ highest_load hours
    ∷ relative_load hours hour 0 ∷ relative_load hours hour 1 ∷ relative_load hours hour 2 ∷ relative_load hours hour 3
    ∷ relative_load hours hour 4 ∷ relative_load hours hour 5 ∷ relative_load hours hour 6 ∷ []

-- Y1 to Y5 are equal
abbrev Day : List ℕ → ℕ → ℕ → ℕ → ℕ → ℕ → Type 0
Day hours hour top first rest mean = numbers hours hour ≡ 0 ∷ 0 ∷ top ∷ first ∷ rest ∷ rest ∷ rest ∷ rest ∷ rest ∷ mean ∷ []

some_load : (b : Bool) → ◌≡◌ {A = ℕ} (cond b 1 0) 0 → b ≡ false
some_load true e = absurd (omega arith)
some_load false e = refl

abbrev gathered : (ℕ → Bounds) → ℕ → ℕ → ℕ → Bounds
gathered pairs first rest mean =
    add_b (add_b (add_b (add_b (add_b (add_b (point_b (pos (mean * 1000000)))
    (mul_b (point_b (pos first -ℤ pos rest)) (pairs 1)))
    (mul_b (point_b (pos rest -ℤ pos rest)) (pairs 2)))
    (mul_b (point_b (pos rest -ℤ pos rest)) (pairs 3)))
    (mul_b (point_b (pos rest -ℤ pos rest)) (pairs 4)))
    (mul_b (point_b (pos rest -ℤ pos rest)) (pairs 5)))
    (mul_b (point_b (pos rest -ℤ pos mean)) (pairs 6))

module _ (pairs : ℕ → Bounds) (hours : List ℕ) (hour top first rest mean : ℕ) (d : Day hours hour top first rest mean) where
  day_heating : heating_bounds pairs hours hour ≡ divided_b (gathered pairs first rest mean) (24 * (top * top))
  unfolding heating_bounds gathered_bounds
  day_heating =
      let t : highest_load hours ≡ top = cc in
      let e0 : relative_load hours hour 0 ≡ first = cc in
      let e1 : relative_load hours hour 1 ≡ rest = cc in
      let e2 : relative_load hours hour 2 ≡ rest = cc in
      let e3 : relative_load hours hour 3 ≡ rest = cc in
      let e4 : relative_load hours hour 4 ≡ rest = cc in
      let e5 : relative_load hours hour 5 ≡ rest = cc in
      let e6 : relative_load hours hour 6 ≡ mean = cc in
      rw (heating_bounds, t, e0, e1, e2, e3, e4, e5, e6)

-- the answer of an accepted day is the factor of the largest sum
day_factor : (pairs : ℕ → Bounds) (hours : List ℕ) → first_above hours ≡ None → all_zero hours ≡ false
    → factor_from pairs hours ≡ Factor (largest_factor (heating_sum pairs hours (reference_hour pairs hours)))
unfolding factor_from
day_factor pairs hours f z = rw (factor_from, f, z)

-- a statement of n numbers in a row, from k on
infixr 5 ◌⨟◌
data Run (P : ℕ → Type 0) : ℕ → ℕ → Type 0 where
  ended : {k : ℕ} → Run P k 0
  ◌⨟◌ : {k n : ℕ} → P k → Run P (suc k) n → Run P k (suc n)

run : {P : ℕ → Type 0} {k n : ℕ} → Run P k n → (i : ℕ) → k ≤ i → i < k + n → P i
run ended i h l = absurd (omega arith)
run {P} (p ⨟ r) i h l = ⊎_elim (λ e. subst P e p) (λ g. run r i g (omega arith)) (eq-or-lt_of_le h)

-- ---- C3: an even load, whatever the shares are and whichever hour is the reference

even : Run (λ hour. Day (replicate 24 200) hour 200 960000 960000 960000) 0 24
unfolding relative_load squared_loads highest_of
even = refl ⨟ refl ⨟ refl ⨟ refl ⨟ refl ⨟ refl ⨟ refl ⨟ refl ⨟ refl ⨟ refl ⨟ refl ⨟ refl ⨟ refl ⨟ refl ⨟ refl ⨟ refl ⨟ refl ⨟ refl ⨟ refl ⨟ refl ⨟ refl ⨟ refl ⨟ refl ⨟ refl ⨟ ended

even_quotient : (pairs : ℕ → Bounds) → (divided_b (gathered pairs 960000 960000 960000) 960000).high ≡ pos 1000000
unfolding add_b divided_b floor_z ceil_z
even_quotient pairs = rw (none_of (pairs 1), none_of (pairs 2), none_of (pairs 3), none_of (pairs 4), none_of (pairs 5), none_of (pairs 6))

even_sum : (pairs : ℕ → Bounds) (hour : ℕ) → hour < 24 → heating_sum pairs (replicate 24 200) hour ≡ pos 1000000
even_sum pairs hour h =
    ap (λ (b : Bounds). b.high) (day_heating pairs (replicate 24 200) hour 200 960000 960000 960000 (run even hour (omega arith) (omega arith))) ∙ even_quotient pairs

factor_of_one : largest_factor (pos 1000000) ≡ 1000
unfolding allowed
factor_of_one = sym (found_largest (allowed_falls (pos 1000000)) (omega arith) refl (λ h. refl))

pub C3 : Meant (gives (factor (given_cable cable_a) (replicate 24 200)) (values (1000 ∷ [])))
unfolding given_cable checked outside_field
C3 =
    let pairs = hour_pair (alone cable_a) in
    let hour = reference_hour pairs (replicate 24 200) in
    rw (
      day_factor pairs (replicate 24 200) refl refl,
      even_sum pairs hour (latest_one (heating_sum pairs (replicate 24 200)) 24 (omega arith)),
      factor_of_one,
    )

-- ---- C4: one hour of the day

one_hour_lem : Run (λ hour. Day (one_hour hour 400) hour 400 3840000 0 160000) 0 24
unfolding relative_load squared_loads highest_of
one_hour_lem = refl ⨟ refl ⨟ refl ⨟ refl ⨟ refl ⨟ refl ⨟ refl ⨟ refl ⨟ refl ⨟ refl ⨟ refl ⨟ refl ⨟ refl ⨟ refl ⨟ refl ⨟ refl ⨟ refl ⨟ refl ⨟ refl ⨟ refl ⨟ refl ⨟ refl ⨟ refl ⨟ refl ⨟ ended

-- the upper end of a number times a pair
module _ (z : ℤ) (b : Bounds) where
  times_low : (z *ℤ b.low) ≤ℤ (mul_b (point_b z) b).high
  unfolding mul_b
  times_low = ≤ℤ_trans (greater_left _ _) (greater_left _ _)

  times_high : (z *ℤ b.high) ≤ℤ (mul_b (point_b z) b).high
  unfolding mul_b
  times_high = ≤ℤ_trans (greater_right _ _) (greater_left _ _)

-- 1,000,001 to 1,000,301 has the factor 999
factor_999 : (z : ℤ) → pos 1000001 ≤ℤ z → z ≤ℤ pos 1000301 → largest_factor z ≡ 999
unfolding allowed
factor_999 (pos s) l h =
    sym (found_largest (allowed_falls (pos s)) (omega arith) (le-leb (s * 998001) most_heating (omega (arith, le_lin h)))
    (λ n. lt-leb (s * 1000000) most_heating (omega (arith, le_lin l))))
factor_999 (negsuc s) l h = absurd (omega (arith, le_lin l))

-- (24·G(1) − G(6) + 1,000,000) / 24 with a high G(1) of 1,000,000 and a low G(6) below it passes 1,000,000
module _ (pairs : ℕ → Bounds) (all : pos 1000000 ≤ℤ (pairs 1).high) (most : (pairs 6).low ≤ℤ pos 999999) where
  abbrev first : ℤ
  first = (mul_b (point_b (pos 3840000)) (pairs 1)).high

  abbrev last : ℤ
  last = (mul_b (point_b (negsuc 159999)) (pairs 6)).high

  first_least : pos 3840000000000 ≤ℤ first
  first_least = ≤ℤ_trans (*ℤ_mono_pos 3840000 all) (times_high (pos 3840000) (pairs 1))

  last_least : negsuc 159999839999 ≤ℤ last
  last_least = ≤ℤ_trans (*ℤ_mono_neg 159999 most) (times_low (negsuc 159999) (pairs 6))

  total_is : (gathered pairs 3840000 0 160000).high ≡ (pos 160000000000 +ℤ first) +ℤ last
  unfolding add_b
  total_is = rw (none_of (pairs 2), none_of (pairs 3), none_of (pairs 4), none_of (pairs 5)) (simp +ℤ_idr)

  past_one : (z : ℤ) → pos 3840000160000 ≤ℤ z → pos 1000001 ≤ℤ ceil_z z 3840000
  past_one z l = lin_le _ _ (omega (arith, le_lin l, le_lin (ceil_high {d = 3840000} (omega arith) z), mul_lin (ceil_z z 3840000) (pos 3840000)))

  one_hour_quotient : pos 1000001 ≤ℤ (divided_b (gathered pairs 3840000 0 160000) 3840000).high
  unfolding divided_b
  one_hour_quotient = rw total_is (past_one ((pos 160000000000 +ℤ first) +ℤ last) (≤ℤ_trans (lin_le _ _ (omega arith)) (+ℤ_mono (+ℤ_mono (≤ℤ_refl (pos 160000000000)) first_least) last_least)))

  -- and so does the largest sum of the day
  one_hour_sum : (hour : ℕ) → hour < 24 → pos 1000001 ≤ℤ heating_sum pairs (one_hour hour 400) (reference_hour pairs (one_hour hour 400))
  one_hour_sum hour h =
      let hours = one_hour hour 400 in
      let day = day_heating pairs hours hour 400 3840000 0 160000 (run one_hour_lem hour (omega arith) (omega arith)) in
      ≤ℤ_trans (subst (λ (b : Bounds). pos 1000001 ≤ℤ b.high) (sym day) one_hour_quotient) ((is_latest_largest (heating_sum pairs hours) 24).largest hour h)

-- at order 4 the sum of e^360 has passed 10^8
full_60 : pos 1000000 ≤ℤ (share_pair (alone cable_b) 60).high
full_60 = all_of_b 60 (accepted_b 60 (omega arith) (omega arith)) (by_order (1 per 100000000) _ 4 tt)

-- no hour is above 4,000 A, and the one hour is the highest load
record AcceptedDay (hours : List ℕ) : Type 0 where
  none_above : first_above hours ≡ None
  some : all_zero hours ≡ false
  loaded : 0 < highest_load hours

none_above_lem : (o : Option ℕ) → ◌≡◌ {A = ℕ} (cond (is_some o) 1 0) 0 → o ≡ None
none_above_lem (Some h) e = absurd (omega arith)
none_above_lem None e = refl

accepted_day : (hour : ℕ) → hour < 24 → AcceptedDay (one_hour hour 400)
accepted_day hour h =
    let hours = one_hour hour 400 in
    let day : Day hours hour 400 3840000 0 160000 = run one_hour_lem hour (omega arith) (omega arith) in
    let z : ◌≡◌ {A = ℕ} (cond (all_zero hours) 1 0) 0 = cc in
    let t : highest_load hours ≡ 400 = cc in
    let n : ◌≡◌ {A = ℕ} (cond (is_some (first_above hours)) 1 0) 0 = cc in
    record { none_above = none_above_lem (first_above hours) n; some = some_load (all_zero hours) z; loaded = omega arith }

pub C4 : Meant (any_hour (λ hour. factor (given_cable cable_b) (one_hour hour 400)) (values (999 ∷ [])))
unfolding given_cable checked outside_field
C4 hour from to =
    let pairs = hour_pair (alone cable_b) in
    let hours = one_hour hour 400 in
    let a = accepted_b 360 (omega arith) (omega arith) in
    let low = low_below_all _ 360 a _ (share_promised (alone cable_b) 360 a) in
    let day = accepted_day hour (omega arith) in
    rw (
      day_factor pairs hours day.none_above day.some,
      factor_999 (heating_sum pairs hours (reference_hour pairs hours)) (one_hour_sum pairs full_60 low hour (omega arith)) (largest_sum_to (alone cable_b) (given_sound cable_b (alone cable_b) refl) hours day.loaded),
    )
