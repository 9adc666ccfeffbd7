-- Bytes in hexadecimal, and a sheet of them; the hours of a day.
use Rattle.std.specs.Prelude.{◌≡◌, cond, List, [], ◌∷◌, ℕ, ◌+◌, ◌-◌, ◌*◌, ◌<◌, ◌≤◌, leb, ltb, length, get_or, Option, Some, None, IfSome}
use Rattle.arrayvec.specs.ArrayVec.{ArrayVec}
use Rattle.cycle_rules.specs.Day.{day_hours}
use Rattle.reference_rows.specs.Cells.{part_at, number_from}

-- 0 to 9, a to f; nothing for a byte that is no digit.
abbrev pub base : ℕ
base = 16

abbrev pub digit_of : ℕ → Option ℕ
digit_of b = cond (ltb b 48) None (cond (leb b 57) (Some (b - 48)) (cond (ltb b 97) None (cond (leb b 102) (Some (b - 97 + 10)) None)))

-- The byte of two digits; nothing where one is none.
abbrev pub byte_of : Option ℕ → Option ℕ → Option ℕ
byte_of (Some high) (Some low) = Some (base * high + low)
byte_of (Some high) None = None
byte_of None low = None

unfoldable pub byte_at : List ℕ → ℕ → Option ℕ
byte_at hex k = byte_of (digit_of (get_or hex (2 * k) 0)) (digit_of (get_or hex (2 * k + 1) 0))

abbrev pub sheet_room : ℕ
sheet_room = 1024

-- The bytes of digits, so many as they are.
pub record BytesOf (hex bytes : List ℕ) : Type 0 where
  pub room : length bytes ≤ sheet_room
  pub each : (k : ℕ) → k < length bytes → Some (get_or bytes k 0) ≡ byte_at hex k

-- A sheet has all its digits, and some.
pub record SheetFrom (hex bytes : List ℕ) : Type 0 where
  pub some : 0 < length bytes
  pub all : length hex ≡ 2 * length bytes
  pub digits : BytesOf hex bytes

abbrev pub SheetOf : List ℕ → Option (ArrayVec ℕ) → Type 0
SheetOf hex sheet = IfSome sheet (λ v. SheetFrom hex v.items)

-- "sheet_hex"
abbrev pub sheet_name : List ℕ
sheet_name = 115 ∷ 104 ∷ 101 ∷ 101 ∷ 116 ∷ 95 ∷ 104 ∷ 101 ∷ 120 ∷ []

-- ',' and "hours"
abbrev pub comma : ℕ
comma = 44

abbrev pub hours_name : List ℕ
hours_name = 104 ∷ 111 ∷ 117 ∷ 114 ∷ 115 ∷ []

-- The first `done` numbers of a list.
pub record HoursTo (done : ℕ) (list hours : List ℕ) : Type 0 where
  pub many : length hours ≡ day_hours
  pub each : (k : ℕ) → k < done → Some (get_or hours k 0) ≡ number_from (part_at comma k list)

-- Where there is a day, all its hours are those of the list.
abbrev pub DayOf : List ℕ → Option (List ℕ) → Type 0
DayOf list day = IfSome day (HoursTo day_hours list)
