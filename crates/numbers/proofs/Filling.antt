-- An array that is filled one place after the other, as loops do: what is so of each place before k, and of x at k, is so of each place up to k once x is put there.
use mathlib.Core.List.{List}
use Prim.Native.Nat.{ℕ, ◌+◌, ◌<◌}
use native.Mathlib.Omega.{arith}
use borrow.Author.Count.{below_more}
use lib.ListN.{length, get_or, set}
use lib.Seq.{get_or-set_same, get_or-set_other}

-- what each place holds, and what is read past the end
module _ {A : Type 0} (Holds : ℕ → A → Type 0) (none : A) where
  pub one_more : (xs : List A) (k : ℕ) (x : A) → k < length xs → Holds k x → ((j : ℕ) → j < k → Holds j (get_or xs j none)) → (j : ℕ) → j < k + 1 → Holds j (get_or (set xs k x) j none)
  one_more xs k x within e so_far =
      below_more (λ j. Holds j (get_or (set xs k x) j none)) k (λ j h. rw (get_or-set_other xs k j x none (λ q. omega (arith, q, h))) (so_far j h))
      (rw (get_or-set_same xs k x none within) e)
