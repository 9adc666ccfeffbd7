-- Worked examples of the chain of neighbours and of a whole sheet: document 02, note 2, numbers 14 to 16.
use Rattle.std.specs.Prelude.{◌≡◌, refl, List, [], ◌∷◌, ◌++◌, ℕ, ℤ, pos, negsuc, Ok, Err}
use Rattle.exact.specs.Share.{Neighbour}
use Rattle.cable_rules.specs.Checks.{outside_field, checked, in_use}
use Rattle.cable_rules.specs.Group as G
use Rattle.sheet_rules.specs.BigEndian.{big_endian}
use Rattle.sheet_rules.specs.Layout.{header_length, wrong_length}
use Rattle.sheet_rules.specs.Header.{cable_of, checked_header}
use Rattle.sheet_rules.specs.Records.{record_of, record_at, checked_record}
use Rattle.sheet_rules.specs.Walk.{reached, refused, walk_from}
use Rattle.sheet_rules.specs.Chain.{steps, chain_of}
use Rattle.sheet_rules.specs.Neighbours.{checked_neighbour, neighbours_in, trench_of}
use Rattle.sheet_rules.specs.Sheet.{checked_sheet, group_of, given_sheet}
use Rattle.sheet_rules.specs.ExampleSheets.{two, fields_with, record_bytes, sheet_a, long_sheet_a, cable_a, header_a, step, at_record, refused_none}
use Rattle.sheet_rules.specs.declared.LoadRecord.{LoadRecord}

-- a diameter and a depth of the cable, no load chain, a second link to record 1, and the records
abbrev beside_with : ℕ → ℕ → List ℕ → List ℕ
beside_with d l records = fields_with d l 500 100 ++ (two 300 ++ (two 0 ++ (two 1 ++ records)))

-- cable A: d 500, l 1,000
abbrev beside_a : List ℕ → List ℕ
beside_a = beside_with 500 1000

-- a record as it is reached; its offset is as it is written
abbrev record_with : ℕ → ℕ → ℕ → ℕ → LoadRecord
record_with number offset depth next = record { number = number; minutes = offset; amperes = depth; next = next }

abbrev neighbour : ℤ → ℕ → Neighbour
neighbour offset depth = record { offset = offset; depth = depth }

-- ---- the chain of neighbours

-- 200 mm to either side: 65,336 is -200
abbrev trench_a : List ℕ
trench_a = beside_a (record_bytes 200 1000 2 ++ record_bytes 65336 1000 0)

two_neighbours : trench_of trench_a ≡ reached (record_with 1 200 1000 2 ∷ record_with 2 65336 1000 0 ∷ [])
unfolding header_length walk_from checked_neighbour record_at record_of wrong_length cable_of big_endian
two_neighbours = refl

-- what they are read as
either_side : neighbours_in (trench_of trench_a) ≡ neighbour (pos 200) 1000 ∷ neighbour (negsuc 199) 1000 ∷ []
unfolding header_length walk_from checked_neighbour record_at record_of wrong_length cable_of big_endian
either_side = refl

-- record 1, then 3; record 2 is off the chain, whatever it holds
links_rise_by_two : trench_of (beside_a (record_bytes 200 1000 3 ++ (record_bytes 32768 0 9999 ++ record_bytes 400 1000 0))) ≡ reached (record_with 1 200 1000 3 ∷ record_with 3 400 1000 0 ∷ [])
unfolding header_length walk_from checked_neighbour record_at record_of wrong_length cable_of big_endian
links_rise_by_two = refl

-- a short header: bytes 37 and 38 are those of record 1, and hold a 1
short_without_neighbours : trench_of (sheet_a 300 0 (record_bytes 1 1000 0)) ≡ reached []
unfolding header_length walk_from big_endian
short_without_neighbours = refl

-- second link 1, no records: the header holds the link
second_link_above : trench_of (beside_a []) ≡ refused (at_record 14 0)
unfolding header_length walk_from checked_neighbour record_at wrong_length cable_of big_endian
second_link_above = refl

-- record 1 links to 3 of two records
link_above : trench_of (beside_a (record_bytes 200 1000 3 ++ record_bytes 400 1000 0)) ≡ refused (at_record 14 1)
unfolding header_length walk_from checked_neighbour record_at record_of wrong_length cable_of big_endian
link_above = refl

-- record 1 links to 1
link_to_itself : trench_of (beside_a (record_bytes 200 1000 1)) ≡ refused (at_record 14 1)
unfolding header_length walk_from checked_neighbour record_at record_of wrong_length cable_of big_endian
link_to_itself = refl

-- record 2 links to 1, which has an offset of 3,001 besides
link_backward : trench_of (long_sheet_a 300 0 2 (record_bytes 3001 1000 0 ++ record_bytes 200 1000 1)) ≡ refused (at_record 14 2)
unfolding header_length walk_from checked_neighbour record_at record_of wrong_length cable_of big_endian
link_backward = refl

-- ---- 15

-- 3,000 mm to either side: 62,536 is -3,000
offsets_of_3000 : neighbours_in (trench_of (beside_a (record_bytes 3000 1000 2 ++ record_bytes 62536 1000 0))) ≡ neighbour (pos 3000) 1000 ∷ neighbour (negsuc 2999) 1000 ∷ []
unfolding header_length walk_from checked_neighbour record_at record_of wrong_length cable_of big_endian
offsets_of_3000 = refl

-- 1 mm more
offset_3001 : trench_of (beside_a (record_bytes 3001 1000 0)) ≡ refused (at_record 15 1)
unfolding header_length walk_from checked_neighbour record_at record_of wrong_length cable_of big_endian
offset_3001 = refl

-- 62,535 is -3,001
offset_less_3001 : trench_of (beside_a (record_bytes 62535 1000 0)) ≡ refused (at_record 15 1)
unfolding header_length walk_from checked_neighbour record_at record_of wrong_length cable_of big_endian
offset_less_3001 = refl

-- bytes 80 00 (hexadecimal) are -32,768
offset_less_32768 : trench_of (beside_a (record_bytes 32768 1000 0)) ≡ refused (at_record 15 1)
unfolding header_length walk_from checked_neighbour record_at record_of wrong_length cable_of big_endian
offset_less_32768 = refl

-- 65,535 is -1; 50 mm below cable A
offset_less_1 : neighbours_in (trench_of (beside_a (record_bytes 65535 1050 0))) ≡ neighbour (negsuc 0) 1050 ∷ []
unfolding header_length walk_from checked_neighbour record_at record_of wrong_length cable_of big_endian
offset_less_1 = refl

-- above cable A and below it
depths_300_and_5000 : trench_of (beside_a (record_bytes 0 300 2 ++ record_bytes 0 5000 0)) ≡ reached (record_with 1 0 300 2 ∷ record_with 2 0 5000 0 ∷ [])
unfolding header_length walk_from checked_neighbour record_at record_of wrong_length cable_of big_endian
depths_300_and_5000 = refl

-- 1 mm higher than 300
depth_299 : trench_of (beside_a (record_bytes 200 299 0)) ≡ refused (at_record 15 1)
unfolding header_length walk_from checked_neighbour record_at record_of wrong_length cable_of big_endian
depth_299 = refl

-- 1 mm deeper than 5,000
depth_5001 : trench_of (beside_a (record_bytes 200 5001 0)) ≡ refused (at_record 15 1)
unfolding header_length walk_from checked_neighbour record_at record_of wrong_length cable_of big_endian
depth_5001 = refl

-- depth 299, and 1 mm from a cable that is 300 deep: 15 and 16
fifteen_before_sixteen : trench_of (beside_with 500 300 (record_bytes 0 299 0)) ≡ refused (at_record 15 1)
unfolding header_length walk_from checked_neighbour record_at record_of wrong_length cable_of big_endian
fifteen_before_sixteen = refl

-- ---- 16

-- d 500 is 50 mm, and so is c; at 30 aside and 40 above too
touching : trench_of (beside_a (record_bytes 50 1000 2 ++ record_bytes 30 960 0)) ≡ reached (record_with 1 50 1000 2 ∷ record_with 2 30 960 0 ∷ [])
unfolding header_length walk_from checked_neighbour record_at record_of wrong_length cable_of big_endian
touching = refl

-- c 49 mm
too_near_lem : trench_of (beside_a (record_bytes 49 1000 0)) ≡ refused (at_record 16 1)
unfolding header_length walk_from checked_neighbour record_at record_of wrong_length cable_of big_endian
too_near_lem = refl

-- d 505 is 50.5 mm: c 50 is below it
half_millimetre_too_near : trench_of (beside_with 505 1000 (record_bytes 50 1000 0)) ≡ refused (at_record 16 1)
unfolding header_length walk_from checked_neighbour record_at record_of wrong_length cable_of big_endian
half_millimetre_too_near = refl

-- c 51 is not below it
half_millimetre_apart : trench_of (beside_with 505 1000 (record_bytes 51 1000 0)) ≡ reached (record_with 1 51 1000 0 ∷ [])
unfolding header_length walk_from checked_neighbour record_at record_of wrong_length cable_of big_endian
half_millimetre_apart = refl

-- where the cable itself lies: c 0
same_place : trench_of (beside_a (record_bytes 0 1000 0)) ≡ refused (at_record 16 1)
unfolding header_length walk_from checked_neighbour record_at record_of wrong_length cable_of big_endian
same_place = refl

-- "for each neighbour in turn": c 49 in record 1, offset 3,001 in record 2, which links to itself
in_turn : trench_of (beside_a (record_bytes 49 1000 2 ++ record_bytes 3001 1000 2)) ≡ refused (at_record 16 1)
unfolding header_length walk_from checked_neighbour record_at record_of wrong_length cable_of big_endian
in_turn = refl

-- ---- the whole

-- a second link of 0, and no records
long_and_empty : checked_sheet (long_sheet_a 300 0 0 []) ≡ Ok (header_a 300 0 0)
unfolding checked_sheet header_length checked_header wrong_length checked outside_field cable_of big_endian walk_from
long_and_empty = refl

-- a second link of 0, and a record that no link leads to
nothing_linked : checked_sheet (long_sheet_a 300 0 0 (record_bytes 0 0 2)) ≡ Ok (header_a 300 0 0)
unfolding checked_sheet header_length checked_header wrong_length checked outside_field cable_of big_endian walk_from
nothing_linked = refl

-- the cable of the header in use, with the two of `either_side`
group_a : group_of trench_a ≡ record { cable = cable_a; neighbours = neighbour (pos 200) 1000 ∷ neighbour (negsuc 199) 1000 ∷ [] }
unfolding header_length walk_from checked_neighbour record_at record_of wrong_length cable_of big_endian in_use
group_a = refl

-- a diffusivity of 0 stands for 500 here too
group_of_default : group_of (fields_with 500 1000 0 100 ++ (two 300 ++ (two 0 ++ two 0))) ≡ record { cable = cable_a; neighbours = [] }
unfolding header_length walk_from cable_of big_endian in_use
group_of_default = refl

-- all of it passes
given_group : given_sheet trench_a ≡ G.accepted (group_of trench_a)
unfolding given_sheet checked_sheet header_length checked_header wrong_length checked outside_field cable_of big_endian walk_from checked_neighbour record_at record_of
given_group = refl

-- c 49 mm: the refusal passes out
given_refusal : given_sheet (beside_a (record_bytes 49 1000 0)) ≡ G.refused (at_record 16 1)
unfolding given_sheet checked_sheet header_length checked_header wrong_length checked outside_field cable_of big_endian walk_from checked_neighbour record_at record_of
given_refusal = refl

-- "One record may serve both chains": 1,000 minutes or mm, 400 A or mm
abbrev shared_a : ℕ → List ℕ
shared_a next = long_sheet_a 300 1 1 (record_bytes 1000 400 next)

-- all of it passes
shared_record : checked_sheet (shared_a 0) ≡ Ok (header_a 300 1 1)
unfolding checked_sheet header_length checked_header wrong_length checked outside_field cable_of big_endian walk_from checked_record checked_neighbour record_at record_of
shared_record = refl

-- on the load chain
shared_step : chain_of (shared_a 0) ≡ steps (step 1 1000 400 ∷ [])
unfolding header_length walk_from checked_record record_at record_of wrong_length big_endian
shared_step = refl

-- on the chain of neighbours
shared_neighbour : neighbours_in (trench_of (shared_a 0)) ≡ neighbour (pos 1000) 400 ∷ []
unfolding header_length walk_from checked_neighbour record_at record_of wrong_length cable_of big_endian
shared_neighbour = refl

-- it links to 2 of one record: 5 on the load chain, and 14 on that of neighbours besides
shared_link_above : checked_sheet (shared_a 2) ≡ Err (at_record 5 1)
unfolding checked_sheet header_length checked_header wrong_length checked outside_field cable_of big_endian walk_from checked_record checked_neighbour record_at record_of
shared_link_above = refl

-- it links to itself: 8 on the load chain, since its minutes do not fall, and 14 besides
shared_link_to_itself : checked_sheet (shared_a 1) ≡ Err (at_record 8 1)
unfolding checked_sheet header_length checked_header wrong_length checked outside_field cable_of big_endian walk_from checked_record checked_neighbour record_at record_of
shared_link_to_itself = refl

-- "After all checks of the load chain": 4,001 A in record 2, its last; and a second link to record 3, which has an offset of 3,001
load_chain_first : checked_sheet (long_sheet_a 300 1 3 (record_bytes 60 300 2 ++ (record_bytes 30 4001 0 ++ record_bytes 3001 1000 0))) ≡ Err (at_record 7 2)
unfolding checked_sheet header_length checked_header wrong_length checked outside_field cable_of big_endian walk_from checked_record checked_neighbour record_at record_of
load_chain_first = refl

-- the same with 4,000 A
neighbours_after_it : checked_sheet (long_sheet_a 300 1 3 (record_bytes 60 300 2 ++ (record_bytes 30 4000 0 ++ record_bytes 3001 1000 0))) ≡ Err (at_record 15 3)
unfolding checked_sheet header_length checked_header wrong_length checked outside_field cable_of big_endian walk_from checked_record checked_neighbour record_at record_of
neighbours_after_it = refl

-- a starting current of 4,001, and a second link above n besides
start_before_neighbours : checked_sheet (long_sheet_a 4001 0 1 []) ≡ refused_none 4
unfolding checked_sheet header_length checked_header wrong_length checked outside_field cable_of big_endian walk_from
start_before_neighbours = refl
