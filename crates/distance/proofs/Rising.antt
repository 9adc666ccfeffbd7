-- Exact shares that never fall as the minutes grow and lie from nothing to all.
use Prim.Native.Nat.{ℕ, ◌≤◌}
use lib.IntN.{pos}
use Rattle.numbers.specs.Signed.{of_int}
use Rattle.exact.specs.Value.{Value, AtMost, AtLeast, ◌⊴◌, Fine}

-- What a law about a day asks of exact shares, in millionths, at the minutes from 1 to `last`.
pub record Rising (shares : ℕ → Value) (last : ℕ) : Type 0 where
  pub rises : (j i : ℕ) → 1 ≤ j → j ≤ i → i ≤ last → shares j ⊴ shares i
  pub fine : (i : ℕ) → 1 ≤ i → i ≤ last → Fine (shares i)
  pub from_zero : (i : ℕ) → 1 ≤ i → i ≤ last → AtMost (of_int (pos 0)) (shares i)
  pub to_one : (i : ℕ) → 1 ≤ i → i ≤ last → AtLeast (of_int (pos 1000000)) (shares i)
