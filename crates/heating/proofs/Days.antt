-- The highest load and the sum of the squared loads, taken hour by hour in the definitions, are the fold and the sum over the whole day. And the size of the
-- divisor.
use mathlib.Core.Path.{◌≡◌, refl, sym}
use mathlib.Core.List.{List}
use Prim.Native.Nat.{ℕ, zero, suc, ◌*◌, ◌≤◌, max}
use native.Mathlib.Numerals.{add-one}
use native.Mathlib.Omega.{arith}
use lib.ListN.{length, take}
use lib.Seq.{take-length}
use Rattle.std.specs.List.{fold, sum_by}
use Rattle.std.proofs.lemmas.List.Sums.{fold_more, sum_by_more}
use Rattle.cycle_rules.specs.Day.{highest_of, squared_loads}
use Rattle.cycle_rules.specs.Heating.{common_divisor}
use Rattle.cycle_rules.specs.Asked.{DivisorOf, most_divisor}

abbrev pub square : ℕ → ℕ
square x = x * x

highest_taken : (hours : List ℕ) (n : ℕ) → n ≤ length hours → highest_of hours n ≡ fold max 0 (take n hours)
unfolding highest_of
highest_taken hours zero h = refl
highest_taken hours (suc n) h = rw (highest_taken hours n (omega arith)) (sym (rw (add-one n) at (fold_more max 0 hours n 0 (omega arith))))

squares_taken : (hours : List ℕ) (n : ℕ) → n ≤ length hours → squared_loads hours n ≡ sum_by square (take n hours)
unfolding squared_loads
squares_taken hours zero h = refl
squares_taken hours (suc n) h = rw (squares_taken hours n (omega arith)) (sym (rw (add-one n) at (sum_by_more square hours n 0 (omega arith))))

module _ (hours : List ℕ) {n : ℕ} (day : length hours ≡ n) where
  pub highest_folded : fold max 0 hours ≡ highest_of hours n
  highest_folded = sym (rw day at (rw (take-length hours) at (highest_taken hours (length hours) (omega arith))))

  pub squares_summed : sum_by square hours ≡ squared_loads hours n
  squares_summed = sym (rw day at (rw (take-length hours) at (squares_taken hours (length hours) (omega arith))))

pub divisor_small : {hours : List ℕ} {divisor : ℕ} → DivisorOf hours divisor → common_divisor hours ≤ most_divisor
divisor_small d = rw (← d.is) d.to
