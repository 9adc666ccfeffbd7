-- The reference hour: the latest of the largest of some numbers.
use mathlib.Core.Path.{◌≡◌, refl}
use mathlib.Core.Bool.{Bool, true, false, cond}
use Prim.Native.Nat.{ℕ, zero, suc, ◌≤◌, ◌<◌}
use native.Mathlib.Omega.{arith}
use borrow.Author.Count.{below_more}
use lib.IntN.{ℤ}
use lib.Signed.{◌≤ℤ◌, ◌<ℤ◌, le_z, ≤ℤ_refl}
use Rattle.numbers.proofs.Integers.{le_z_true, le_z_false, ≤ℤ_trans, <ℤ→≤ℤ}
use Rattle.cycle_rules.specs.Heating.{latest_largest}

-- none of the first n is larger, and no later one of them is as large; `latest_one` says that it is one of them
pub record LatestLargest (sums : ℕ → ℤ) (n r : ℕ) : Type 0 where
  pub largest : (h : ℕ) → h < n → sums h ≤ℤ sums r
  pub latest : (h : ℕ) → h < n → r < h → sums h <ℤ sums r
  pub not_past : r ≤ n

module _ (sums : ℕ → ℤ) where
  next_hour : (k b : ℕ) (t : Bool) → le_z (sums b) (sums k) ≡ t → LatestLargest sums k b → LatestLargest sums (suc k) (cond t k b)
  next_hour k b true e i =
      record {
        largest = λ h q. below_more (λ j. sums j ≤ℤ sums k) k (λ j w. ≤ℤ_trans (i.largest j w) (le_z_true e)) (≤ℤ_refl (sums k)) h (omega arith);
        latest = λ h q r. absurd (omega arith);
        not_past = omega arith;
      }
  next_hour k b false e i =
      record {
        largest = λ h q. below_more (λ j. sums j ≤ℤ sums b) k i.largest (<ℤ→≤ℤ (le_z_false (sums b) (sums k) e)) h (omega arith);
        latest = λ h q r. below_more (λ j. b < j → sums j <ℤ sums b) k i.latest (λ w. le_z_false (sums b) (sums k) e) h (omega arith) r;
        not_past = omega arith;
      }

  pub is_latest_largest : (k : ℕ) → LatestLargest sums k (latest_largest sums k)
  unfolding latest_largest
  is_latest_largest zero = record { largest = λ h q. absurd (omega arith); latest = λ h q r. absurd (omega arith); not_past = omega arith }
  is_latest_largest (suc k) = next_hour k (latest_largest sums k) (le_z (sums (latest_largest sums k)) (sums k)) refl (is_latest_largest k)

  -- it is one of them where there are any
  pub latest_one : (k : ℕ) → 0 < k → latest_largest sums k < k
  unfolding latest_largest
  latest_one zero h = absurd (omega arith)
  latest_one (suc k) h = either (le_z (sums (latest_largest sums k)) (sums k)) (latest_largest sums k) (is_latest_largest k).not_past
    where
      either : (t : Bool) (b : ℕ) → b ≤ k → cond t k b < suc k
      either true b p = omega arith
      either false b p = omega arith

-- so of any n that are at least as many; wider than its use, so that a rule over fewer hours is refused by `largest_at_least`, which it breaks
pub latest_within : (sums : ℕ → ℤ) (k : ℕ) {n : ℕ} → 0 < k → k ≤ n → latest_largest sums k < n
latest_within sums k z h = omega (arith, latest_one sums k z)
