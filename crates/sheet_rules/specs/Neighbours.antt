-- Document 02, note 2: the chain of neighbours of a sheet, or its first refusal, in the order 14, 15, 16 "for each neighbour in turn".
use Rattle.std.specs.Prelude.{Bool, cond, ◌||◌, List, map, ℕ, suc, ◌*◌, ◌-◌, leb, ltb, ℤ, pos, negsuc, nat_abs, Option, Some, None, Result, Ok}
use Rattle.exact.specs.Share.{Neighbour, source_of}
use Rattle.ranges.specs.Ranges.{outside, ◌to◌}
use Rattle.sheet_rules.specs.Layout.{most_records}
use Rattle.sheet_rules.specs.Header.{cable_of, second_link}
use Rattle.sheet_rules.specs.Records.{refused_at}
use Rattle.sheet_rules.specs.Walk.{Walk, walk_from, records_in}
use Rattle.sheet_rules.specs.declared.LoadRecord.{LoadRecord}
use Rattle.refusals.specs.declared.Refusal.{Refusal}

-- "(two's complement)", of two bytes
abbrev pub signed_of : ℕ → ℤ
signed_of n = cond (ltb n 32768) (pos n) (negsuc (65535 - n))

-- "A neighbour record holds an offset to the side in mm (two's complement), a depth in mm and a next link, two bytes each". "One record may serve both
-- chains": minutes and offset are the same two bytes, amperes and depth too.
abbrev pub neighbour_of : LoadRecord → Neighbour
neighbour_of r = record { offset = signed_of r.minutes; depth = r.amperes }

-- 15: "an offset beyond 3,000 mm either way or a depth outside 300 to 5,000"
abbrev pub most_offset : ℕ
most_offset = 3000

abbrev pub least_depth : ℕ
least_depth = 300

abbrev pub most_depth : ℕ
most_depth = 5000

abbrev pub out_of_trench : Neighbour → Bool
out_of_trench n = ltb most_offset (nat_abs n.offset) || outside (least_depth to most_depth) n.depth

-- 16: "c below d", c in mm and d in 0.1 mm, of a cable of diameter d and depth l
abbrev pub too_near : ℕ → ℕ → Neighbour → Bool
too_near d l n = ltb (100 * (source_of l n).near) (d * d)

-- 14: "a link above n or, unless 0, not above the record holding it (place that record, 0 for the header)", then "with the neighbour's record as place" 15 and
-- 16; `before` is the record that holds the link
unfoldable pub checked_neighbour : ℕ → ℕ → LoadRecord → Option LoadRecord → Result LoadRecord Refusal
checked_neighbour d l before None = refused_at 14 before.number
checked_neighbour d l before (Some r) =
    cond (leb r.number before.number) (refused_at 14 before.number)
    (cond (out_of_trench (neighbour_of r)) (refused_at 15 r.number)
    (cond (too_near d l (neighbour_of r)) (refused_at 16 r.number)
    (Ok r)))

-- the header as the record that holds the second link: "0 for the header"
abbrev pub beside_first : ℕ → LoadRecord
beside_first link = record { number = 0; minutes = 0; amperes = 0; next = link }

-- how many records stand above one
abbrev pub above : LoadRecord → ℕ
above r = most_records - r.number

-- from a record on; "links in this chain rise strictly" and none is above 48, so that a count of those above is never used up
abbrev pub neighbour_walk : List ℕ → ℕ → ℕ → LoadRecord → Walk
neighbour_walk s d l r = walk_from (checked_neighbour d l) (suc (above r)) s r

abbrev pub neighbours_in : Walk → List Neighbour
neighbours_in w = map neighbour_of (records_in w)

abbrev pub trench_of : List ℕ → Walk
trench_of s = neighbour_walk s (cable_of s).diameter (cable_of s).depth (beside_first (second_link s))
