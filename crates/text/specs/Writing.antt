-- Numbers written as a text, with the fewest digits, and the line that they are written into.
use Rattle.std.specs.Prelude.{◌≡◌, List, [], ◌∷◌, ◌++◌, ℕ, zero, suc, ◌+◌, ◌/◌, ◌%◌, ◌≤◌, ℤ, pos, negsuc, length, take}
use Rattle.text.specs.Reading.{zero_digit, minus_sign}
use Rattle.text.specs.declared.Line.{Line}

-- The last digit of a number.
abbrev pub last_digit : ℕ → ℕ
last_digit n = zero_digit + n % 10

-- The digits of n, none where n is 0. Each turn takes one digit away, so that n turns are more than enough: proofs/Decimal.antt has the equations
-- `one_digit` and `tenfold`, in which no turns are left.
unfoldable pub leading : ℕ → ℕ → List ℕ
leading zero n = []
leading (suc turns) zero = []
leading (suc turns) (suc n) = leading turns (suc n / 10) ++ (last_digit (suc n) ∷ [])

-- The digits of n, the most significant first, and '0' for 0.
unfoldable pub decimal_text : ℕ → List ℕ
decimal_text n = leading n (n / 10) ++ (last_digit n ∷ [])

-- A minus sign before the digits of a number below 0.
abbrev pub signed_text : ℤ → List ℕ
signed_text (pos n) = decimal_text n
signed_text (negsuc n) = minus_sign ∷ decimal_text (suc n)

-- ---- lines

-- The bytes of the longest line.
abbrev pub line_room : ℕ
line_room = 80

abbrev pub written : Line → List ℕ
written line = take line.length line.bytes

abbrev pub line_length : Line → ℕ
line_length line = line.length

pub record Appended (before : Line) (added : List ℕ) (after : Line) : Type 0 where
  pub text : written after ≡ written before ++ added
  pub longer : line_length after ≡ line_length before + length added

-- A number of 64 bits takes 20 bytes at most: 20 digits, or a sign and 19.
abbrev pub number_room : ℕ
number_room = 20

pub record AppendedNumber (before : Line) (added : List ℕ) (after : Line) : Type 0 where
  pub appended : Appended before added after
  pub within : line_length after ≤ line_length before + number_room
