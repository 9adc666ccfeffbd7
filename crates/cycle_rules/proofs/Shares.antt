-- The shares of the six hours in a list, filled one by one; and the sums with them are those with the hours' pairs.
use mathlib.Core.Path.{◌≡◌, refl, ap, ◌∙◌}
use mathlib.Core.Bool.{Bool, true, false}
use mathlib.Core.List.{List}
use Prim.Native.Nat.{ℕ, zero, suc, ◌+◌, ◌≤◌, ◌<◌}
use native.Mathlib.Nat.{le_refl}
use native.Mathlib.Omega.{arith}
use lib.Dec.{ltb}
use borrow.Author.Tests.{ltb-true, ltb-false}
use lib.IntN.{ℤ, pos}
use lib.ListN.{length, set, length-set, get_or-eq_default}
use Rattle.numbers.proofs.Filling.{one_more}
use Rattle.bounds.specs.Operations.{point_b}
use Rattle.bounds.specs.Promises.{Sized}
use Rattle.bounds.specs.declared.Bounds.{Bounds}
use Rattle.cable_rules.specs.Group.{Group}
use Rattle.cycle_rules.specs.Day.{day_hours, highest_load}
use Rattle.cycle_rules.specs.Heating.{heating_hours, gathered_bounds, heating_bounds, heating_sum, latest_largest, reference_hour}
use Rattle.cycle_rules.specs.Answer.{hour_pair}
use Rattle.cycle_rules.specs.Asked.{pairs_of, Shared}
use Rattle.cycle_rules.proofs.Answers.{hour_sized}

-- the first i of six are there
pub record Filled (g : Group) (shares : List Bounds) (i : ℕ) : Type 0 where
  pub six : length shares ≡ heating_hours
  pub filled : (j : ℕ) → j < i → pairs_of shares (suc j) ≡ hour_pair g (suc j)

pub none_filled : {g : Group} {shares : List Bounds} → length shares ≡ heating_hours → Filled g shares 0
none_filled e = record { six = e; filled = λ j h. absurd (omega arith) }

pub next_filled : {g : Group} {shares : List Bounds} {i : ℕ} {p : Bounds} → Filled g shares i → i < heating_hours → p ≡ hour_pair g (suc i) → Filled g (set shares i p) (i + 1)
next_filled {g} {shares} {i} {p} f h e =
    record {
      six = length-set shares i p ∙ f.six;
      filled = one_more (λ j pair. pair ≡ hour_pair g (suc j)) (point_b (pos 0)) shares i p (omega (arith, f.six)) e f.filled;
    }

-- ---- the sums
latest_same : (f g : ℕ → ℤ) → ((h : ℕ) → f h ≡ g h) → (n : ℕ) → latest_largest f n ≡ latest_largest g n
unfolding latest_largest
latest_same f g e zero = refl
latest_same f g e (suc n) = rw (latest_same f g e n, e n, e (latest_largest g n)) refl

module _ {g : Group} {shares : List Bounds} {n : ℕ} (f : Filled g shares n) (all : heating_hours ≤ n) (hours : List ℕ) where
  pub filled_shared : 0 < highest_load hours → Shared shares hours
  filled_shared z = record { sized = λ i. by i (ltb i heating_hours) refl; loaded = z }
    where
      by : (i : ℕ) (t : Bool) → ltb i heating_hours ≡ t → Sized 1000000 (pairs_of shares (suc i))
      by i true e = rw (f.filled i (omega (arith, ltb-true i heating_hours e))) (hour_sized g (suc i))
      by i false e = rw (get_or-eq_default shares (point_b (pos 0)) {n = i} (omega (arith, f.six, ltb-false i heating_hours e))) (record { low = omega arith; high = omega arith })

  same_gathered : (hour i : ℕ) → i ≤ heating_hours → gathered_bounds hours hour (pairs_of shares) i ≡ gathered_bounds hours hour (hour_pair g) i
  unfolding gathered_bounds
  same_gathered hour zero h = refl
  same_gathered hour (suc i) h = rw (same_gathered hour i (omega arith), f.filled i (omega arith)) refl

  same_heating : (hour : ℕ) → heating_bounds (pairs_of shares) hours hour ≡ heating_bounds (hour_pair g) hours hour
  unfolding heating_bounds
  same_heating hour = rw (same_gathered hour heating_hours (le_refl heating_hours)) refl

  -- the largest sum
  pub same_largest : heating_bounds (pairs_of shares) hours (reference_hour (pairs_of shares) hours) ≡ heating_bounds (hour_pair g) hours (reference_hour (hour_pair g) hours)
  same_largest = ap (heating_bounds (pairs_of shares) hours) (latest_same (heating_sum (pairs_of shares) hours) (heating_sum (hour_pair g) hours) (λ h. ap (λ (b : Bounds). b.high) (same_heating h)) day_hours) ∙ same_heating (reference_hour (hour_pair g) hours)
