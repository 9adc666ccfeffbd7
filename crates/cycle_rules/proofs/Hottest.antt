-- Document 02, note 1, 'The hottest hour': the largest rounded sum and the largest exact one, and the factor's distance. For every width of the shares' pairs and all
-- exact shares that lie between them. Which hour is exactly the hottest is not asked: two may be closer than the width.
use mathlib.Core.List.{List}
use Prim.Native.Nat.{ℕ, suc, ◌*◌, ◌<◌}
use native.Mathlib.Omega.{arith}
use lib.IntN.{ℤ, pos}
use Rattle.numbers.specs.Signed.{of_int}
use Rattle.bounds.specs.declared.Bounds.{Bounds}
use Rattle.exact.specs.Value.{Value, AtMost, AtLeast, ◌⊴◌, integer, ◌+ᵥ◌}
use Rattle.exact.proofs.Largest.{largest_sound, largest_least, largest_most}
use Rattle.distance.proofs.Spread.{most_below, most_add, least_above}
use Rattle.distance.proofs.Enclosed.{Enclosed}
use Rattle.cycle_rules.specs.Day.{day_hours}
use Rattle.cycle_rules.specs.Heating.{heating_hours, common_divisor, heating_bounds, heating_sum, reference_hour}
use Rattle.cycle_rules.specs.Factor.{largest_factor}
use Rattle.cycle_rules.specs.Exact.{exact_heating, largest_heating, sum_width, FactorDistance}
use Rattle.cycle_rules.proofs.ReferenceHour.{is_latest_largest, latest_within}
use Rattle.cycle_rules.proofs.Distance.{heating_sound, heating_around, heating_spread, sum_at_least, factor_near}

module _ (width : ℕ) (shares : ℕ → Value) (pairs : ℕ → Bounds) (each : (i : ℕ) → i < heating_hours → Enclosed width (shares (60 * suc i)) (pairs (suc i))) (hours : List ℕ) (zd : 0 < common_divisor hours) where
  abbrev sums : ℕ → ℤ
  sums = heating_sum pairs hours

  abbrev hottest : ℕ
  hottest = reference_hour pairs hours

  -- the largest rounded sum is at most 6 widths and 1 above the largest exact one, since it is the sum of one of the 24 hours ..
  pub largest_at_most : AtMost (of_int (sums hottest)) (largest_heating shares hours +ᵥ integer (pos (sum_width width)))
  largest_at_most =
      most_below (heating_spread width shares pairs each hours hottest zd).narrow
      (most_add (heating_bounds pairs hours hottest).low (pos (sum_width width))
      (largest_most (exact_heating shares hours) day_hours hottest (latest_within _ _ (omega arith) (omega arith)) (heating_around width shares pairs each hours hottest zd).low_at_most))

  -- .. and at least each, and so the largest
  pub largest_at_least : AtLeast (of_int (sums hottest)) (largest_heating shares hours)
  largest_at_least =
      let one : (h : ℕ) → h < day_hours → AtLeast (of_int (sums hottest)) (exact_heating shares hours h) =
      λ h p. least_above ((is_latest_largest sums day_hours).largest h p) (sum_at_least width shares pairs each hours h zd)
      in
      largest_least (exact_heating shares hours) (one 0 (omega arith)) day_hours one

  pub largest_heating_sound : largest_heating shares hours ⊴ largest_heating shares hours
  largest_heating_sound = largest_sound (exact_heating shares hours) (λ h. heating_sound width shares pairs each hours h zd) day_hours

  -- "The factor rule now speaks of the largest exact sum, at the same distance."
  pub factor_distance : FactorDistance width (largest_heating shares hours) (largest_factor (sums hottest))
  factor_distance = factor_near width (largest_heating shares hours) largest_heating_sound (sums hottest) largest_at_least largest_at_most
