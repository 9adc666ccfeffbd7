-- The largest whole number, from 0 to a top, that passes a test.
use Rattle.std.specs.Prelude.{◌≡◌, Bool, true, false, cond, ℕ, zero, suc, ◌≤◌, ◌<◌}

-- 0 where none passes
unfoldable pub largest : (ℕ → Bool) → ℕ → ℕ
largest test zero = 0
largest test (suc top) = cond (test (suc top)) (suc top) (largest test top)

-- the same by its properties
pub record Largest (test : ℕ → Bool) (top m : ℕ) : Type 0 where
  pub within : m ≤ top
  pub passes : test m ≡ true
  pub none_above : (k : ℕ) → m < k → k ≤ top → test k ≡ false

-- what passes, passes for every smaller number
pub record Falling (test : ℕ → Bool) : Type 0 where
  pub smaller : (i j : ℕ) → i ≤ j → test j ≡ true → test i ≡ true

-- Each number to the top is answered as the test says.
pub record Computes (answer : ℕ → Bool → Type 0) (top : ℕ) (test : ℕ → Bool) : Type 0 where
  pub says : (n : ℕ) (b : Bool) → n ≤ top → answer n b → b ≡ test n

-- m is the largest number that passes the test which the answers compute, where it falls and 0 passes.
pub record LargestPassing (answer : ℕ → Bool → Type 0) (top m : ℕ) : Type 0 where
  pub is : (test : ℕ → Bool) → Computes answer top test → Falling test → test 0 ≡ true → m ≡ largest test top
