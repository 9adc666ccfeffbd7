-- The largest number that passes a test: it is what its properties say, and for a test that falls one number that passes and the next one that
-- does not decide it, which is what a bisection ends with.
use mathlib.Core.Path.{◌≡◌, refl, sym}
use mathlib.Core.Bool.{Bool, true, false}
use mathlib.Core.Logic.{⊎_elim}
use Prim.Native.Nat.{ℕ, zero, suc, ◌+◌, ◌-◌, ◌≤◌, ◌<◌}
use native.Mathlib.Nat.{eq-or-lt_of_le}
use native.Mathlib.Omega.{arith}
use Rattle.numbers.specs.Largest.{largest, Largest, Falling, LargestPassing}

not_both : {b : Bool} → b ≡ true → b ≡ false → ⊥
not_both p q = let z : ◌≡◌ {A = ℕ} 0 1 = cc in omega arith

either : (b : Bool) (A : Type 0) → (b ≡ true → A) → (b ≡ false → A) → A
either true A p q = p refl
either false A p q = q refl

module _ (test : ℕ → Bool) where
  -- the recursion's two ways
  here : (top : ℕ) → test (suc top) ≡ true → largest test (suc top) ≡ suc top
  unfolding largest
  here top e = rw (largest, e)

  below : (top : ℕ) → test (suc top) ≡ false → largest test (suc top) ≡ largest test top
  unfolding largest
  below top e = rw (largest, e)

  pub is_largest : test 0 ≡ true → (top : ℕ) → Largest test top (largest test top)
  unfolding largest
  is_largest z zero = record { within = omega arith; passes = z; none_above = λ k p q. absurd (omega arith) }
  is_largest z (suc top) =
      either (test (suc top)) (Largest test (suc top) (largest test (suc top)))
      (λ e. rw (here top e) (record { within = omega arith; passes = e; none_above = λ k p q. absurd (omega arith) }))
      (λ e.
      let l = is_largest z top in
      rw (below top e)
      (record {
        within = omega (arith, l.within);
        passes = l.passes;
        none_above = λ k p q. ⊎_elim (λ w. rw w e) (λ w. l.none_above k p (omega arith)) (eq-or-lt_of_le q);
      }))

  -- its properties decide it
  pub largest_unique : {top m n : ℕ} → Largest test top m → Largest test top n → m ≡ n
  largest_unique {top} {m} {n} a b =
      let no_lower : (x y : ℕ) → Largest test top x → Largest test top y → x < y → ⊥ =
      λ x y p q h. not_both q.passes (p.none_above y h q.within)
      in
      order m n (no_lower m n a b) (no_lower n m b a)
    where
      order : (x y : ℕ) → (x < y → ⊥) → (y < x → ⊥) → x ≡ y
      order x y p q = omega arith

module _ {test : ℕ → Bool} (falls : Falling test) {top m : ℕ} (within : m ≤ top) (passes : test m ≡ true) (next : m < top → test (suc m) ≡ false) where
  found : Largest test top m
  found =
      record {
        within = within;
        passes = passes;
        none_above =
            λ k p q.
            either (test k) (test k ≡ false)
            (λ e. absurd (not_both (falls.smaller (suc m) k (omega arith) e) (next (omega arith))))
            (λ e. e);
      }

  pub found_largest : m ≡ largest test top
  found_largest = largest_unique test found (is_largest test (falls.smaller 0 m (omega arith) passes) top)

-- ---- bisection: low passes, or is 0, and high does not or is past the top

from_zero : (test : ℕ → Bool) (n : ℕ) → test 0 ≡ true → (0 < n → test n ≡ true) → test n ≡ true
from_zero test zero z p = z
from_zero test (suc n) z p = p (omega arith)

module _ {answer : ℕ → Bool → Type 0} {top low high : ℕ} where
  pub bisected : low < high → high ≤ top + 1 → (0 < low → answer low true) → (high ≤ top → answer high false) → high - low ≤ 1 → LargestPassing answer top low
  bisected apart within passes fails close =
      let next : high ≡ suc low = omega arith in
      record {
        is =
            λ test computes falls z.
            found_largest falls (omega arith)
            (from_zero test low z (λ h. sym (computes.says low true (omega arith) (passes h))))
            (λ l. sym (computes.says (suc low) false l (rw next at (fails (omega arith)))));
      }
