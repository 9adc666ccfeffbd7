-- The hours of a day: the first above 4,000 A, the highest load, the sum of the squares, each one hour more at a time, as a loop goes; and no load is
-- above the highest.
use mathlib.Core.Path.{◌≡◌, refl}
use mathlib.Core.Bool.{Bool, true, false, and-false}
use mathlib.Core.List.{List, [], ◌∷◌}
use Prim.Native.Nat.{ℕ, zero, suc, ◌+◌, ◌*◌, ◌≤◌, ◌<◌, max}
use native.Mathlib.Nat.{mul-le-mul, max-eq_left, max-eq_right}
use native.Mathlib.Numerals.{add-one}
use native.Mathlib.Omega.{arith}
use borrow.Author.Count.{below_more}
use borrow.Author.Tests.{leb-true, leb-false, ltb-true, ltb-false, eq-eqb, ne_eqb}
use lib.Dec.{leb, ltb, eqb}
use lib.ListN.{length, get_or}
use mir.Syntax.{w16}
use mir.Val.{Fits}
use Rattle.cycle_rules.specs.Day.{load, highest_of, squared_load, squared_loads}
use Rattle.cycle_rules.specs.Answer.{all_zero}

-- ---- the highest load

pub highest_higher : (hours : List ℕ) (k : ℕ) {h : ℕ} → h ≡ highest_of hours k → h < load hours k → load hours k ≡ highest_of hours (k + 1)
unfolding highest_of
highest_higher hours k e l = rw (add-one k, ← e) (omega arith)

pub highest_kept : (hours : List ℕ) (k : ℕ) {h : ℕ} → h ≡ highest_of hours k → load hours k ≤ h → h ≡ highest_of hours (k + 1)
unfolding highest_of
highest_kept hours k e l = rw (add-one k, ← e) (omega arith)

-- no load of the first n hours is higher
pub is_highest : (hours : List ℕ) (n h : ℕ) → h < n → load hours h ≤ highest_of hours n
unfolding highest_of
is_highest hours zero h p = absurd (omega arith)
is_highest hours (suc n) h p =
    below_more (λ i. load hours i ≤ max (highest_of hours n) (load hours n)) n (λ i q. omega (arith, is_highest hours n i q)) (omega arith) h (omega arith)

-- .. and it is one of them, so that its square is among those summed
pub highest_summed : (hours : List ℕ) (n : ℕ) → highest_of hours n * highest_of hours n ≤ squared_loads hours n
unfolding highest_of squared_loads
highest_summed hours zero = omega arith
highest_summed hours (suc n) = either (leb (highest_of hours n) (load hours n)) (highest_of hours n) (load hours n) refl (highest_summed hours n)
  where
    either : (t : Bool) (a b : ℕ) {s : ℕ} → leb a b ≡ t → a * a ≤ s → max a b * max a b ≤ s + b * b
    either true a b e h = rw (max-eq_right (leb-true a b e)) (omega arith)
    either false a b e h = rw (max-eq_left {n = a} {m = b} (omega (arith, leb-false a b e))) (omega arith)

-- ---- the sum of the squares

-- 65,535² A²
abbrev pub most_square : ℕ
most_square = 65535 * 65535

-- no load of 16 bits has a larger square
pub square_to : {x n : ℕ} → n ≡ x * x → Fits w16 x → n ≤ most_square
square_to {x} e f = let h : x ≤ 65535 = omega arith in omega (arith, mul-le-mul h h)

pub squares_more : (hours : List ℕ) (k s a : ℕ) → s ≡ squared_loads hours k → a ≡ squared_load hours k → s + a ≡ squared_loads hours (k + 1)
unfolding squared_loads
squares_more hours k s a p q = rw (add-one k, ← p, ← q)

-- none of the first n loads above x
pub squares_to : (hours : List ℕ) (x n : ℕ) → ((h : ℕ) → h < n → load hours h ≤ x) → squared_loads hours n ≤ n * (x * x)
unfolding squared_loads
squares_to hours x zero h = omega arith
squares_to hours x (suc n) h =
    omega (arith, squares_to hours x n (λ k p. h k (omega arith)), mul-le-mul (h n (omega arith)) (h n (omega arith)))

-- ---- all hours 0

one_loaded : (xs : List ℕ) (k : ℕ) → 0 < get_or xs k 0 → all_zero xs ≡ false
one_loaded [] k h = absurd (omega arith)
one_loaded (x ∷ xs) zero h = rw (ne_eqb x 0 (λ e. omega arith))
one_loaded (x ∷ xs) (suc k) h = rw (one_loaded xs k h) (and-false (eqb x 0))

pub some_loaded : (hours : List ℕ) (n : ℕ) → 0 < highest_of hours n → all_zero hours ≡ false
unfolding highest_of
some_loaded hours zero h = absurd (omega arith)
some_loaded hours (suc n) h = either (ltb 0 (load hours n)) refl (λ p. some_loaded hours n p)
  where
    either : (t : Bool) → ltb 0 (load hours n) ≡ t → (0 < highest_of hours n → all_zero hours ≡ false) → all_zero hours ≡ false
    either true e k = one_loaded hours n (ltb-true 0 (load hours n) e)
    either false e k = k (omega (arith, ltb-false 0 (load hours n) e))

-- a list is all zero where each of its numbers is
zeros : (xs : List ℕ) → ((k : ℕ) → k < length xs → get_or xs k 0 ≡ 0) → all_zero xs ≡ true
zeros [] h = refl
zeros (x ∷ xs) h = rw (eq-eqb x 0 (h 0 (omega arith)), zeros xs (λ k p. h (suc k) (omega arith)))

module _ (hours : List ℕ) where
  pub highest_zero : highest_of hours (length hours) ≡ 0 → all_zero hours ≡ true
  highest_zero e = zeros hours (λ k p. omega (arith, is_highest hours (length hours) k p))
