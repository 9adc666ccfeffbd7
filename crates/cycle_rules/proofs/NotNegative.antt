-- No heating sum of an accepted group is below 0. Pairs in their range alone do not say so. But no low share exceeds a later high one, so some G never
-- falls and lies in every pair: the sum as it is written is not below 0 for it, and the rounded sum is at least that.
use mathlib.Core.List.{List}
use Prim.Native.Nat.{ℕ, zero, suc, ◌*◌, ◌≤◌, ◌<◌}
use native.Mathlib.Nat.{le_refl}
use native.Mathlib.Omega.{arith}
use lib.IntN.{ℤ, pos}
use lib.Signed.{◌≤ℤ◌, ≤ℤ_refl}
use Rattle.numbers.specs.Integer.{greater}
use Rattle.numbers.proofs.Integers.{≤ℤ_trans, add_term, factor_not_negative, greater_left, greater_right, greater_both}
use Rattle.bounds.specs.Promises.{In}
use Rattle.bounds.specs.declared.Bounds.{Bounds}
use Rattle.bounds.proofs.Enclosure.{over_one}
use Rattle.cable_rules.specs.Group.{Group}
use Rattle.cable_rules.specs.InRange.{Acceptable}
use Rattle.distance.specs.Promised.{Millionths}
use Rattle.share_rules.proofs.Promises.{share_pair_range}
use Rattle.share_rules.proofs.Rising.{low_at_most_later_high}
use Rattle.cycle_rules.specs.Heating.{heating_hours, common_divisor, relative_load, from_start, written_steps, written_sum, heating_sum}
use Rattle.cycle_rules.specs.Answer.{hour_pair}
use Rattle.cycle_rules.proofs.Heating.{heating_in}
use Rattle.cycle_rules.proofs.Said.{hour_accepted}

-- ---- the sum as it is written, of a G that never falls

module _ (hours : List ℕ) (hour : ℕ) (G : ℕ → ℤ) (rises : (i : ℕ) → from_start G i ≤ℤ G (suc i)) where
  steps_not_negative : (n : ℕ) → pos 0 ≤ℤ written_steps hours hour G n
  unfolding written_steps
  steps_not_negative zero = ≤ℤ_refl (pos 0)
  steps_not_negative (suc n) = add_term (written_steps hours hour G n) (from_start G n) (G (suc n)) (relative_load hours hour n) (steps_not_negative n) (rises n)

  pub written_not_negative : (one : ℤ) → G heating_hours ≤ℤ one → pos 0 ≤ℤ written_sum hours hour one G
  written_not_negative one h = add_term (written_steps hours hour G heating_hours) (G heating_hours) one (relative_load hours hour heating_hours) (steps_not_negative heating_hours) h

-- ---- pairs that leave room for it

-- in their range, and no low end exceeds the high end of a later pair
pub record RisingPairs (pairs : ℕ → Bounds) : Type 0 where
  pub range : (i : ℕ) → i < heating_hours → Millionths (pairs (suc i))
  pub low_to_later_high : (j i : ℕ) → j ≤ i → i < heating_hours → (pairs (suc j)).low ≤ℤ (pairs (suc i)).high

module _ (pairs : ℕ → Bounds) where
  -- the greatest of the first n low ends and of G(0), which is 0
  abbrev greatest_low : ℕ → ℤ
  greatest_low zero = pos 0
  greatest_low (suc n) = greater (greatest_low n) (pairs (suc n)).low

  never_falls : (i : ℕ) → from_start greatest_low i ≤ℤ greatest_low (suc i)
  never_falls zero = greater_left (pos 0) (pairs 1).low
  never_falls (suc i) = greater_left (greatest_low (suc i)) (pairs (suc (suc i))).low

  module _ (r : RisingPairs pairs) where
    -- none of those low ends exceeds this high one
    to_high : (n i : ℕ) → n ≤ suc i → i < heating_hours → greatest_low n ≤ℤ (pairs (suc i)).high
    to_high zero i h k = (r.range i k).high_from
    to_high (suc n) i h k =
        greater_both (λ (z : ℤ). z ≤ℤ (pairs (suc i)).high) (to_high n i (omega arith) k) (r.low_to_later_high n i (omega arith) k)

    in_each : (i : ℕ) → i < heating_hours → In (pairs (suc i)) (greatest_low (suc i)) 1
    in_each i h = over_one (pairs (suc i)) (greatest_low (suc i)) (greater_right (greatest_low i) (pairs (suc i)).low) (to_high (suc i) i (le_refl (suc i)) h)

    to_one : greatest_low heating_hours ≤ℤ pos 1000000
    to_one = ≤ℤ_trans (to_high heating_hours 5 (omega arith) (omega arith)) (r.range 5 (omega arith)).high_to

    pub sum_not_negative_of : (hours : List ℕ) (hour : ℕ) → 0 < common_divisor hours → pos 0 ≤ℤ heating_sum pairs hours hour
    sum_not_negative_of hours hour h =
        factor_not_negative (heating_sum pairs hours hour) (common_divisor hours * 1) (omega arith)
        (≤ℤ_trans (written_not_negative hours hour greatest_low never_falls (pos 1000000) to_one) (heating_in hours hour 1 greatest_low pairs in_each h).to)

-- ---- the pairs of an accepted group

pub sum_not_negative : (g : Group) → Acceptable g → (hours : List ℕ) (hour : ℕ) → 0 < common_divisor hours → pos 0 ≤ℤ heating_sum (hour_pair g) hours hour
sum_not_negative g a =
    sum_not_negative_of (hour_pair g)
    (record {
      range = λ i h. share_pair_range g (60 * suc i);
      low_to_later_high =
          λ j i h k. low_at_most_later_high g (60 * suc j) (60 * suc i) (hour_accepted g a j (omega arith)) (hour_accepted g a i k) (omega arith);
    })
