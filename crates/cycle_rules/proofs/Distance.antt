-- How far the heating sum of an hour may be from the exact one, and the factor of a sum from the exact factor: document 01, 'What the distances say'. For every
-- width of the shares' pairs, all exact shares that lie between them, every reference hour.
use mathlib.Core.Path.{◌≡◌, refl}
use mathlib.Core.Bool.{true, false}
use mathlib.Core.List.{List}
use Prim.Native.Nat.{ℕ, zero, suc, ◌+◌, ◌*◌, ◌≤◌, ◌<◌}
use native.Mathlib.Nat.{le_refl, mul-le-mul, mul-le-mul_left, mul-le-mul_right}
use native.Mathlib.Omega.{arith}
use borrow.Author.Tests.{leb-false}
use lib.Dec.{T}
use lib.IntN.{ℤ, pos, negsuc, ◌*ℤ◌, *ℤ_comm}
use lib.Signed.{◌≤ℤ◌}
use Rattle.numbers.specs.Fraction.{whole}
use Rattle.numbers.specs.Signed.{of_int, of_frac}
use Rattle.numbers.specs.Largest.{Largest}
use Rattle.numbers.proofs.Integers.{le_z_true, lin_le}
use Rattle.numbers.proofs.Largest.{is_largest}
use Rattle.numbers.proofs.SignedFractions.{refl≼ₛ}
use Rattle.bounds.specs.declared.Bounds.{Bounds}
use Rattle.exact.specs.Value.{Value, AtMost, AtLeast, ◌⊴◌, integer, ◌+ᵥ◌}
use Rattle.exact.proofs.Plain.{both}
use Rattle.exact.proofs.Values.{constant⊴, add⊴, mul⊴, quot⊴}
use Rattle.distance.specs.Around.{Around}
use Rattle.distance.proofs.Around.{around_integer, around_add, around_times, around_divided}
use Rattle.distance.proofs.Spread.{Spread, spread_point, spread_more, spread_add, spread_times, spread_quotient, quotient_bounds, most_below, most_times, least_above, least_times}
use Rattle.distance.proofs.Enclosed.{Enclosed, enclosed_around, enclosed_spread}
use Rattle.cable_rules.specs.Group.{Group}
use Rattle.share_rules.specs.Promises.{width_of}
use Rattle.cycle_rules.specs.Heating.{heating_hours, common_divisor, relative_load, gathered_load, gathered_bounds, heating_bounds, heating_sum}
use Rattle.cycle_rules.specs.Factor.{most_factor, most_heating, allowed, largest_factor}
use Rattle.cycle_rules.specs.Exact.{exact_gathered, exact_heating, sum_width, FactorDistance}
use Rattle.cycle_rules.proofs.Heating.{load_sized}
use Rattle.cycle_rules.proofs.FactorTest.{nothing_allowed, never_below}

-- ---- the sum

-- no lower fraction of the gathered sum exceeds an upper one, where none of a share does
module _ (shares : ℕ → Value) (sound : (i : ℕ) → i < heating_hours → shares (60 * suc i) ⊴ shares (60 * suc i)) (hours : List ℕ) (hour : ℕ) where
  pub gathered_sound : (n : ℕ) → n ≤ heating_hours → exact_gathered shares hours hour n ⊴ exact_gathered shares hours hour n
  unfolding exact_gathered
  gathered_sound zero h = constant⊴ (refl≼ₛ _)
  gathered_sound (suc n) h = add⊴ (gathered_sound n (omega arith)) (mul⊴ (constant⊴ (refl≼ₛ (of_int (gathered_load hours hour n)))) (sound n (omega arith)))

module _ (width : ℕ) (shares : ℕ → Value) (pairs : ℕ → Bounds) (each : (i : ℕ) → i < heating_hours → Enclosed width (shares (60 * suc i)) (pairs (suc i))) (hours : List ℕ) (hour : ℕ) where
  record SumHeld (n : ℕ) : Type 0 where
    around : Around (gathered_bounds hours hour pairs n) (exact_gathered shares hours hour n)
    spread : Spread (n * width * common_divisor hours) (gathered_bounds hours hour pairs n)

  -- what multiplies each share is at most the common divisor in size
  sum_held : (n : ℕ) → n ≤ heating_hours → SumHeld n
  unfolding gathered_bounds exact_gathered
  sum_held zero h =
      let z = pos (relative_load hours hour heating_hours * 1000000) in
      record { around = around_integer z; spread = spread_more (omega arith) (spread_point z) }
  sum_held (suc n) h =
      let z = gathered_load hours hour n in
      let e = each n (omega arith) in
      let before = sum_held n (omega arith) in
      record {
        around = around_add before.around (around_times z e.sound (enclosed_around e));
        spread =
            spread_more (omega (arith, mul-le-mul_right width (load_sized hours hour n).low))
            (spread_add before.spread (spread_times z e.promised.ordered (enclosed_spread e)));
      }

  whole_sound : exact_gathered shares hours hour heating_hours ⊴ exact_gathered shares hours hour heating_hours
  whole_sound = gathered_sound shares (λ i h. (each i h).sound) hours hour heating_hours (le_refl heating_hours)

  module _ (zd : 0 < common_divisor hours) where
    pub heating_sound : exact_heating shares hours hour ⊴ exact_heating shares hours hour
    unfolding exact_heating
    heating_sound = quot⊴ whole_sound (constant⊴ (refl≼ₛ (of_frac (whole (common_divisor hours)))))

    pub heating_around : Around (heating_bounds pairs hours hour) (exact_heating shares hours hour)
    unfolding heating_bounds exact_heating
    heating_around = around_divided (common_divisor hours) zd whole_sound (sum_held heating_hours (le_refl heating_hours)).around

    -- whatever more `sum_width` were to allow: `sum_width_is` and a worked example hold it
    pub heating_spread : Spread (sum_width width) (heating_bounds pairs hours hour)
    unfolding heating_bounds
    heating_spread = spread_more (omega arith) (spread_quotient zd (heating_hours * width) (sum_held heating_hours (le_refl heating_hours)).spread)

    -- the rounded sum is at least the exact one
    pub sum_at_least : AtLeast (of_int (heating_sum pairs hours hour)) (exact_heating shares hours hour)
    sum_at_least = heating_around.high_at_least

-- every order that gives bounds of the six shares gives bounds of the sum
module _ (shares : ℕ → Value) (o : ℕ) (each : (i : ℕ) → i < heating_hours → T ((shares (60 * suc i)).ok o)) (hours : List ℕ) (hour : ℕ) where
  gathered_bounds_lem : (n : ℕ) → n ≤ heating_hours → T ((exact_gathered shares hours hour n).ok o)
  unfolding exact_gathered
  gathered_bounds_lem zero h = tt
  gathered_bounds_lem (suc n) h = both ((exact_gathered shares hours hour n).ok o) ((shares (60 * suc n)).ok o) (gathered_bounds_lem n (omega arith)) (each n (omega arith))

  pub heating_bounds_lem : 0 < common_divisor hours → T ((exact_heating shares hours hour).ok o)
  unfolding exact_heating
  heating_bounds_lem zd = quotient_bounds (common_divisor hours) zd (exact_gathered shares hours hour heating_hours) o (gathered_bounds_lem heating_hours (le_refl heating_hours))

-- ---- the factor

within_heating : (sum : ℤ) (m : ℕ) → allowed sum m ≡ true → (pos (m * m) *ℤ sum) ≤ℤ pos most_heating
unfolding allowed
within_heating sum m e = rw (*ℤ_comm (pos (m * m)) sum) (le_z_true e)

-- from a factor that is not allowed on, the squares times the sum are above 10^12
past_heating : (sum : ℤ) (m k : ℕ) → allowed sum m ≡ false → m ≤ k → pos (most_heating + 1) ≤ℤ (pos (k * k) *ℤ sum)
unfolding allowed
past_heating (pos s) m k e h =
    lin_le (pos (most_heating + 1)) (pos (k * k * s)) (omega (arith, leb-false (s * (m * m)) most_heating e, mul-le-mul_left s (mul-le-mul h h)))
past_heating (negsuc s) m k e h = absurd (never_below s m e)

-- of any sum that is at least T and at most `sum_width` above it
module _ (width : ℕ) (heating : Value) (sound : heating ⊴ heating) (sum : ℤ) where
  pub factor_near : AtLeast (of_int sum) heating → AtMost (of_int sum) (heating +ᵥ integer (pos (sum_width width))) → FactorDistance width heating (largest_factor sum)
  factor_near l u =
      let m = largest_factor sum in
      let is : Largest (allowed sum) most_factor m = is_largest (allowed sum) (nothing_allowed sum) most_factor in
      record {
        not_above = least_above (within_heating sum m is.passes) (least_times (m * m) sum sound l);
        larger_above =
            λ h k p.
            most_below (past_heating sum (suc m) k (is.none_above (suc m) (omega arith) (omega arith)) (omega arith))
            (most_times (k * k) sum (add⊴ sound (constant⊴ (refl≼ₛ (of_int (pos (sum_width width)))))) u);
      }

-- "T + 301"
pub sum_width_is : (g : Group) → sum_width (width_of g) ≡ 301
sum_width_is g = refl
