-- The parts of a text, a list of bytes, between bytes that stand as marks; and the values of a cell `name=value;name=value`.
use Rattle.std.specs.Prelude.{List, [], ℕ, ltb, ◌==◌, bytes_eq, find, slice_get, Option, Some, None, unwrap_or, option_map}
use Rattle.std.specs.Bool.{then_some}
use Rattle.std.specs.List.{slice_split}
use Rattle.text.specs.Reading.{number_of}

-- All parts of a text with such bytes between them, and the one with a number, counted from 0: nothing where there are fewer.
abbrev pub parts : ℕ → List ℕ → List (List ℕ)
parts b s = slice_split (λ x. x == b) s

unfoldable pub part_at : ℕ → ℕ → List ℕ → List ℕ
part_at b k s = unwrap_or (slice_get (parts b s) k) []

-- ';' and '='
abbrev pub semicolon : ℕ
semicolon = 59

abbrev pub equals : ℕ
equals = 61

-- The value of the first part that has the name.
unfoldable pub value_in : List ℕ → List ℕ → List ℕ
value_in name cell = unwrap_or (option_map (part_at equals 1) (find (λ pair. bytes_eq (part_at equals 0 pair) name) (parts semicolon cell))) []

-- A number that reached the most may have been larger, and is none.
abbrev pub beyond : ℕ
beyond = 4294967295

abbrev pub below : Option ℕ → Option ℕ
below (Some n) = then_some (ltb n beyond) n
below None = None

unfoldable pub number_from : List ℕ → Option ℕ
number_from s = below (number_of s beyond)
