-- Numbers read from a text, a list of ASCII codes. A whole number is one digit or more and nothing else; leading zeros change nothing, and digits that
-- spell more than the most that is asked for are read as the most.
use Rattle.std.specs.Prelude.{Bool, true, false, cond, ◌&&◌, List, [], ◌∷◌, ℕ, ◌+◌, ◌-◌, ◌*◌, min, eqb, leb, ltb, ℤ, pos, neg_ℤ, get_or, drop, Option, Some, None}

-- '0', '9' and '-'
abbrev pub zero_digit : ℕ
zero_digit = 48

abbrev pub nine_digit : ℕ
nine_digit = 57

abbrev pub minus_sign : ℕ
minus_sign = 45

-- ---- digits

abbrev pub is_digit : ℕ → Bool
is_digit b = leb zero_digit b && leb b nine_digit

unfoldable pub all_digits : List ℕ → Bool
all_digits [] = true
all_digits (b ∷ s) = is_digit b && all_digits s

-- One digit at least, and nothing else.
abbrev pub digits_only : List ℕ → Bool
digits_only [] = false
digits_only (b ∷ s) = all_digits (b ∷ s)

-- A number with one digit more, and with all digits of a text after it.
abbrev pub with_digit : ℕ → ℕ → ℕ
with_digit n b = 10 * n + (b - zero_digit)

unfoldable pub followed_by : ℕ → List ℕ → ℕ
followed_by n [] = n
followed_by n (b ∷ s) = followed_by (with_digit n b) s

-- What digits spell, the most significant first.
abbrev pub value : List ℕ → ℕ
value s = followed_by 0 s

-- ---- whole numbers

-- What the digits spell, or the most where they spell more.
unfoldable pub number_of : List ℕ → ℕ → Option ℕ
number_of s most = cond (digits_only s) (Some (min (value s) most)) None

-- ---- signed numbers

-- Signed numbers are below it in size: they have 18 digits at most beside leading zeros, and any other is refused.
abbrev pub beyond_signed : ℕ
beyond_signed = 1000000000000000000

abbrev pub with_sign : Bool → ℕ → ℤ
with_sign true n = neg_ℤ (pos n)
with_sign false n = pos n

abbrev pub signed_by : Bool → List ℕ → Option ℤ
signed_by minus s = cond (digits_only s && ltb (value s) beyond_signed) (Some (with_sign minus (value s))) None

abbrev pub has_minus : List ℕ → Bool
has_minus s = eqb (get_or s 0 0) minus_sign

-- The digits of a text, or those after its minus sign.
unfoldable pub signed_of : List ℕ → Option ℤ
signed_of s = signed_by (has_minus s) (cond (has_minus s) (drop 1 s) s)

-- The same of a number that is spelled already.
abbrev pub as_integer : Bool → Option ℕ → Option ℤ
as_integer minus (Some n) = cond (ltb n beyond_signed) (Some (with_sign minus n)) None
as_integer minus None = None

-- ---- two texts

-- The same bytes, and as many of them: what `==` says of two slices (`same_test` in proofs/Equality.antt).
unfoldable pub same_bytes : List ℕ → List ℕ → Bool
same_bytes [] [] = true
same_bytes [] (b ∷ t) = false
same_bytes (a ∷ s) [] = false
same_bytes (a ∷ s) (b ∷ t) = eqb a b && same_bytes s t
