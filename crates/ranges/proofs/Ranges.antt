-- What passing a range, and a list of ranges, says.
use Rattle.std.proofs.Common.{Option, Some, None}
use mathlib.Core.Path.{◌≡◌, refl}
use mathlib.Core.Bool.{Bool, true, false, cond, ◌||◌}
use mathlib.Core.List.{List, [], ◌∷◌}
use Prim.Native.Nat.{ℕ, suc, ◌+◌, ◌≤◌, ◌<◌}
use native.Mathlib.Numerals.{add-one}
use native.Mathlib.Omega.{arith}
use borrow.Author.Tests.{ltb-false, le-ltb, eq-eqb, ne_eqb}
use lib.Dec.{ltb}
use lib.ListN.{length, get_or, drop, drop_of_length-le}
use lib.Seq.{drop-cons}
use Rattle.ranges.specs.Ranges.{Range, ◌to◌, or_zero, outside, first_outside, range_of, ranges_of}

-- ---- a range and its test

pub neither : (s t : Bool) → (s || t) ≡ false → (s ≡ false) × (t ≡ false)
neither false t e = (refl, e)
neither true t e = let z : ◌≡◌ {A = ℕ} 0 1 = cc in absurd (omega arith)

module _ (low high x : ℕ) where
  pub passed_within : outside (low to high) x ≡ false → (low ≤ x) × (x ≤ high)
  passed_within e =
      let n = neither (ltb x low) (ltb high x) e in
      (ltb-false x low n.0, ltb-false high x n.1)

  pub within_passes : low ≤ x → x ≤ high → outside (low to high) x ≡ false
  within_passes l h = rw (le-ltb x low l, le-ltb high x h)

-- where 0 is a value besides, the least value is tested for it
module _ (low high x : ℕ) where
  pub or_zero_least : low ≤ high → x ≡ 0 → outside (or_zero (low to high)) x ≡ outside (low to high) low
  or_zero_least h e = rw (eq-eqb x 0 e, within_passes low high low (omega arith) h)

  pub or_zero_other : (x ≡ 0 → ⊥) → outside (or_zero (low to high)) x ≡ outside (low to high) x
  or_zero_other n = rw (ne_eqb x 0 n)

-- ---- a list of ranges

abbrev pub Each : List Range → List ℕ → Type 0
Each (r ∷ rs) (x ∷ xs) = (outside r x ≡ false) × Each rs xs
Each (r ∷ rs) [] = Unit {0}
Each [] xs = Unit {0}

first_passed : (t : Bool) (k : ℕ) {n : Option ℕ} → cond t (Some k) n ≡ None → (t ≡ false) × (n ≡ None)
first_passed true k e = let z : ◌≡◌ {A = ℕ} 0 1 = cc in absurd (omega arith)
first_passed false k e = (refl, e)

pub none_outside : (k : ℕ) (rs : List Range) (xs : List ℕ) → first_outside k rs xs ≡ None → Each rs xs
none_outside k (r ∷ rs) (x ∷ xs) e =
    let p = first_passed (outside r x) k e in
    (p.0, none_outside (suc k) rs xs p.1)
none_outside k (r ∷ rs) [] e = tt
none_outside k [] xs e = tt

pub each_passes : (k : ℕ) (rs : List Range) (xs : List ℕ) → Each rs xs → first_outside k rs xs ≡ None
each_passes k (r ∷ rs) (x ∷ xs) e = rw e.0 (each_passes (suc k) rs xs e.1)
each_passes k (r ∷ rs) [] e = refl
each_passes k [] xs e = refl

-- ---- the values one by one

-- the first outside from the one at i on
unfoldable pub outside_from : List (List ℕ) → List ℕ → ℕ → Option ℕ
outside_from pairs xs i = first_outside (suc i) (ranges_of (drop i pairs)) (drop i xs)

module _ (pairs : List (List ℕ)) (xs : List ℕ) where
  pub from_first : outside_from pairs xs 0 ≡ first_outside 1 (ranges_of pairs) xs
  unfolding outside_from
  from_first = refl

  module _ (i : ℕ) (same : length pairs ≡ length xs) (h : i < length xs) where
    from_here : outside_from pairs xs i ≡ cond (outside (range_of (get_or pairs i [])) (get_or xs i 0)) (Some (suc i)) (outside_from pairs xs (suc i))
    unfolding outside_from
    from_here = rw (drop-cons pairs i [] (omega arith), drop-cons xs i 0 h)

    pub from_outside : outside (range_of (get_or pairs i [])) (get_or xs i 0) ≡ true → outside_from pairs xs i ≡ Some (i + 1)
    from_outside e = rw (from_here, e, add-one)

    pub from_passed : outside (range_of (get_or pairs i [])) (get_or xs i 0) ≡ false → outside_from pairs xs i ≡ outside_from pairs xs (i + 1)
    from_passed e = rw (from_here, e, add-one)

  pub from_last : (i : ℕ) → length pairs ≤ i → outside_from pairs xs i ≡ None
  unfolding outside_from
  from_last i h = rw (drop_of_length-le pairs h)
