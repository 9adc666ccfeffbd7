-- A number that is written and read again is the same number.
use mathlib.Core.Path.{◌≡◌, refl, ◌∙◌}
use mathlib.Core.Bool.{true, false, and-eq-true_iff}
use mathlib.Core.List.{List, [], ◌∷◌, ◌++◌}
use Rattle.std.specs.Prelude.{Some}
use Prim.Native.Nat.{ℕ, zero, suc, ◌/◌, ◌≤◌, ◌<◌}
use native.Mathlib.Nat.{min-eq_left}
use native.Mathlib.Omega.{arith}
use borrow.Author.Tests.{le-leb, lt-ltb, ne_eqb}
use lib.IntN.{ℤ, pos, negsuc, nat_abs}
use Rattle.text.specs.Reading.{zero_digit, nine_digit, minus_sign, is_digit, all_digits, digits_only, with_digit, followed_by, value, number_of}
use Rattle.text.specs.Reading.{beyond_signed, has_minus, signed_of}
use Rattle.text.specs.Writing.{last_digit, leading, decimal_text, signed_text}
use Rattle.text.proofs.Digits.{digit_from}

-- the text is of digits, and they spell the number
record Spells (s : List ℕ) (n : ℕ) : Type 0 where
  all : all_digits s ≡ true
  number : value s ≡ n

after : (v : ℕ) (s : List ℕ) (b : ℕ) → followed_by v (s ++ (b ∷ [])) ≡ with_digit (followed_by v s) b
unfolding followed_by
after v [] b = refl
after v (a ∷ s) b = after (with_digit v a) s b

digits_after : (s : List ℕ) (b : ℕ) → all_digits s ≡ true → is_digit b ≡ true → all_digits (s ++ (b ∷ [])) ≡ true
unfolding all_digits
digits_after [] b e d = rw d
digits_after (a ∷ s) b e d =
    let both = (and-eq-true_iff (is_digit a) (all_digits s)).0 e in
    rw both.0 (digits_after s b both.1 d)

spells_more : {s : List ℕ} (n : ℕ) → Spells s (n / 10) → Spells (s ++ (last_digit n ∷ [])) n
spells_more {s} n p =
    let b = last_digit n in
    record {
      all = digits_after s b p.all (rw (le-leb zero_digit b (omega arith), le-leb b nine_digit (omega arith)));
      number = after 0 s b ∙ omega (arith, p.number);
    }

leading_spells : (f n : ℕ) → n ≤ f → Spells (leading f n) n
unfolding leading all_digits followed_by
leading_spells zero zero h = record { all = refl; number = refl }
leading_spells zero (suc n) h = absurd (omega arith)
leading_spells (suc f) zero h = record { all = refl; number = refl }
leading_spells (suc f) (suc n) h = spells_more (suc n) (leading_spells f (suc n / 10) (omega arith))

decimal_spells : (n : ℕ) → Spells (decimal_text n) n
unfolding decimal_text
decimal_spells n = spells_more n (leading_spells n (n / 10) (omega arith))

not_empty : (s : List ℕ) (b : ℕ) → digits_only (s ++ (b ∷ [])) ≡ all_digits (s ++ (b ∷ []))
not_empty [] b = refl
not_empty (a ∷ s) b = refl

pub decimal_digits : (n : ℕ) → digits_only (decimal_text n) ≡ true
unfolding decimal_text
decimal_digits n = not_empty (leading n (n / 10)) (last_digit n) ∙ (decimal_spells n).all

pub decimal_value : (n : ℕ) → value (decimal_text n) ≡ n
decimal_value n = (decimal_spells n).number

pub number_back : (n most : ℕ) → n ≤ most → number_of (decimal_text n) most ≡ Some n
unfolding number_of
number_back n most h = rw (decimal_digits n, decimal_value n, min-eq_left h)

-- ---- with a sign

no_sign : (s : List ℕ) → digits_only s ≡ true → has_minus s ≡ false
unfolding all_digits
no_sign [] e = let z : ◌≡◌ {A = ℕ} 0 1 = cc in absurd (omega arith)
no_sign (b ∷ s) e =
    let from : zero_digit ≤ b = digit_from b ((and-eq-true_iff (is_digit b) (all_digits s)).0 e).0 in
    ne_eqb b minus_sign (λ h. omega arith)

pub signed_back : (z : ℤ) → nat_abs z < beyond_signed → signed_of (signed_text z) ≡ Some z
unfolding signed_of
signed_back (pos n) h =
    rw (no_sign (decimal_text n) (decimal_digits n), decimal_digits n, decimal_value n, lt-ltb n beyond_signed h)
signed_back (negsuc n) h =
    rw (decimal_digits (suc n), decimal_value (suc n), lt-ltb (suc n) beyond_signed h)
