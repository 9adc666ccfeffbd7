-- Document 01, 'The load sheet' and 'When the desk is told no': the header, and refusals 1 to 4 in their order.
use Rattle.std.specs.Prelude.{cond, List, ℕ, ◌-◌, ◌*◌, ltb, length, Result, Ok, Err}
use Rattle.cable_rules.specs.Checks.{checked}
use Rattle.cable_rules.specs.declared.Cable.{Cable}
use Rattle.refusals.specs.declared.Place.TheVariants.{None}
use Rattle.sheet_rules.specs.BigEndian.{big_endian}
use Rattle.sheet_rules.specs.Layout.{short_header, is_long, wrong_length}
use Rattle.sheet_rules.specs.declared.Header.{Header}
use Rattle.refusals.specs.declared.Refusal.{Refusal}

-- "Eight fields of four bytes in table order, then two bytes for the starting current in A (0 to 4,000) and two for the first link"
abbrev pub field_of : List ℕ → ℕ → ℕ
field_of s number = big_endian s (4 * (number - 1)) 4

unfoldable pub cable_of : List ℕ → Cable
cable_of s =
    record {
      diameter = field_of s 1;
      depth = field_of s 2;
      diffusivity = field_of s 3;
      surface_ratio = field_of s 4;
      fast_weight = field_of s 5;
      fast_rate = field_of s 6;
      slow_rate = field_of s 7;
      rated = field_of s 8;
    }

abbrev pub starting_current : List ℕ → ℕ
starting_current s = big_endian s 32 2

abbrev pub first_link : List ℕ → ℕ
first_link s = big_endian s 34 2

-- Document 02, note 2: "The header gains a second link in bytes 37 and 38, for a chain of neighbours"; a short header has none
abbrev pub second_link : List ℕ → ℕ
second_link s = cond (is_long (length s)) (big_endian s short_header 2) 0

abbrev pub header_of : List ℕ → Header
header_of s = record { cable = cable_of s; start = starting_current s; link = first_link s; neighbours = second_link s }

-- "starting current above 4,000"
abbrev pub most_start : ℕ
most_start = 4000

-- "record's amperes above 4,000"
abbrev pub most_amperes : ℕ
most_amperes = 4000

-- what follows where checks 2 and 3 pass; their refusal passes out unchanged
abbrev pub after_cable : Result Cable Refusal → Result Header Refusal → Result Header Refusal
after_cable (Ok c) check = check
after_cable (Err f) check = Err f

unfoldable pub checked_header : List ℕ → Result Header Refusal
checked_header s =
    cond (wrong_length (length s)) (Err (record { number = 1; place = None }))
    (after_cable (checked (cable_of s))
    (cond (ltb most_start (starting_current s)) (Err (record { number = 4; place = None }))
    (Ok (header_of s))))
