-- Laws of decimal text: the equations that it is known by, and that the library writes it.
use mathlib.Core.Path.{◌≡◌, refl, ap, sym}
use mathlib.Core.List.{[], ◌∷◌, ◌++◌}
use Prim.Native.Nat.{ℕ, zero, suc, ◌+◌, ◌/◌, ◌^◌, ◌≤◌, ◌<◌}
use native.Mathlib.Nat.{div-eq_of_lt, mod-eq_of_lt}
use native.Mathlib.Omega.{arith}
use lib.IntN.{ℤ, pos, negsuc}
use lib.ListN.{length}
use mir.Syntax.{w64}
use mir.Val.{SFits}
use Rattle.std.specs.Fmt.{decimal, signed_decimal}
use Rattle.std.proofs.lemmas.Fmt.{AppendsLastDigit, decimal_from_appends}
use Rattle.text.specs.Reading.{zero_digit, minus_sign}
use Rattle.text.specs.Writing.{last_digit, leading, decimal_text, signed_text}

-- more turns than n change nothing
enough : (f g n : ℕ) → n ≤ f → n ≤ g → leading f n ≡ leading g n
unfolding leading
enough zero zero zero h k = refl
enough zero (suc g) zero h k = refl
enough (suc f) zero zero h k = refl
enough (suc f) (suc g) zero h k = refl
enough zero g (suc n) h k = absurd (omega arith)
enough (suc f) zero (suc n) h k = absurd (omega arith)
enough (suc f) (suc g) (suc n) h k = rw (enough f g (suc n / 10) (omega arith) (omega arith))

leads : (f n : ℕ) → 0 < n → n ≤ f → leading f n ≡ decimal_text n
unfolding leading decimal_text
leads f zero z h = absurd (omega arith)
leads zero (suc n) z h = absurd (omega arith)
leads (suc f) (suc n) z h = rw (enough f (suc n) (suc n / 10) (omega arith) (omega arith))

-- decimal text is known by two equations: that of a number below ten, and that of any other by its tenth
pub one_digit : (n : ℕ) → n < 10 → decimal_text n ≡ (zero_digit + n) ∷ []
unfolding decimal_text leading
one_digit n h = rw (div-eq_of_lt h, enough n 0 0 (omega arith) (omega arith), mod-eq_of_lt h)

pub tenfold : (n : ℕ) → 10 ≤ n → decimal_text n ≡ decimal_text (n / 10) ++ (last_digit n ∷ [])
unfolding decimal_text
tenfold n h = rw (leads n (n / 10) (omega arith) (omega arith))

-- ---- the same as the library writes

pub library_number : (n : ℕ) → n < 2 ^ 64 → decimal n ≡ decimal_text n
library_number n h =
    let steps : AppendsLastDigit (λ _ m. decimal_text m) = record { one = λ k m l. one_digit m l; more = λ k m l. tenfold m l } in
    sym (decimal_from_appends (λ _ m. decimal_text m) steps (length (decimal n)) n h (omega arith))

pub library_signed : (z : ℤ) → SFits w64 z → signed_decimal z ≡ signed_text z
library_signed (pos n) f = library_number n (omega (arith, f.sfits))
library_signed (negsuc n) f = ap (λ t. minus_sign ∷ t) (library_number (suc n) (omega (arith, f.sfits)))
