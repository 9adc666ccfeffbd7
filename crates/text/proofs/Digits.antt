-- Laws of texts of digits: a text is read byte by byte, with the number held at the most after each.
use mathlib.Core.Path.{◌≡◌, refl, ap, sym, ◌∙◌}
use mathlib.Core.Bool.{Bool, true, false, cond, and-eq-true_iff}
use mathlib.Core.List.{List, [], ◌∷◌}
use Rattle.std.specs.Prelude.{Some, None}
use Prim.Native.Nat.{ℕ, ◌+◌, ◌≤◌, ◌<◌, min}
use native.Mathlib.Numerals.{add-one}
use native.Mathlib.Nat.{min-eq_left}
use native.Mathlib.Omega.{arith}
use borrow.Author.Tests.{leb-true}
use lib.Dec.{leb}
use lib.ListN.{length, drop, get_or, drop_of_length-le}
use lib.Seq.{drop-cons}
use Rattle.text.specs.Reading.{zero_digit, nine_digit, is_digit, with_digit, all_digits, digits_only, followed_by, value, number_of}

-- so that a digit less '0' is not below 0
pub digit_from : (b : ℕ) → is_digit b ≡ true → zero_digit ≤ b
digit_from b e = leb-true zero_digit b ((and-eq-true_iff (leb zero_digit b) (leb b nine_digit)).0 e).0

-- a number that is held at the most is as good as the number itself
held : (most n : ℕ) (s : List ℕ) → min (followed_by (min n most) s) most ≡ min (followed_by n s) most
unfolding followed_by
held most n [] = omega arith
held most n (b ∷ s) =
    let e : min (with_digit (min n most) b) most ≡ min (with_digit n b) most = omega arith in
    sym (held most (with_digit (min n most) b) s)
    ∙ ap (λ k. min (followed_by k s) most) e
    ∙ held most (with_digit n b) s

-- i bytes of s are digits, and n is what they spell, held at the most
pub record Passed (s : List ℕ) (most n i : ℕ) : Type 0 where
  pub within : i ≤ length s
  pub small : n ≤ most
  pub digits : all_digits (drop i s) ≡ all_digits s
  pub number : min (followed_by n (drop i s)) most ≡ min (value s) most

pub none_passed : (s : List ℕ) (most : ℕ) → Passed s most 0 0
none_passed s most = record { within = omega arith; small = omega arith; digits = refl; number = refl }

some_digits : (s : List ℕ) → 0 < length s → digits_only s ≡ all_digits s
some_digits [] h = absurd (omega arith)
some_digits (b ∷ s) h = refl

pub none_spelled : (s : List ℕ) (most : ℕ) → length s ≡ 0 → number_of s most ≡ None
unfolding number_of
none_spelled [] most e = refl
none_spelled (b ∷ s) most e = absurd (omega arith)

module _ {s : List ℕ} {most n i : ℕ} (p : Passed s most n i) where
  pub passes : i < length s → is_digit (get_or s i 0) ≡ true → Passed s most (min (with_digit n (get_or s i 0)) most) (i + 1)
  unfolding all_digits followed_by
  passes h e =
      let m = with_digit n (get_or s i 0) in
      record {
        within = omega arith;
        small = omega arith;
        digits = rw (add-one i) (sym (rw (drop-cons s i 0 h, e)) ∙ p.digits);
        number = held most m (drop (i + 1) s) ∙ rw (add-one i) (sym (rw (drop-cons s i 0 h)) ∙ p.number);
      }

  pub stops : i < length s → is_digit (get_or s i 0) ≡ false → number_of s most ≡ None
  unfolding number_of all_digits
  stops h e =
      let no : digits_only s ≡ false = some_digits s (omega arith) ∙ sym p.digits ∙ rw (drop-cons s i 0 h, e) in
      rw no

  pub ends : length s ≤ i → 0 < length s → number_of s most ≡ Some n
  unfolding number_of all_digits followed_by
  ends h z =
      let none = drop_of_length-le s h in
      let yes : digits_only s ≡ true = some_digits s z ∙ sym p.digits ∙ ap all_digits none in
      let is : min (value s) most ≡ n = sym p.number ∙ ap (λ t. min (followed_by n t) most) none ∙ min-eq_left p.small in
      rw (yes, is)

-- ---- the number that is answered

-- whatever the text
pub at_most : (s : List ℕ) (most : ℕ) {n : ℕ} → number_of s most ≡ Some n → n ≤ most
unfolding number_of
at_most s most {n} e = go (digits_only s) e
  where
    go : (yes : Bool) → cond yes (Some (min (value s) most)) None ≡ Some n → n ≤ most
    go true e = let k : min (value s) most ≡ n = cc in omega arith
    go false e = let z : ◌≡◌ {A = ℕ} 0 1 = cc in absurd (omega arith)
