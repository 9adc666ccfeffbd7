-- Worked examples of both headers and of the load chain: document 01, 'The load sheet' and 'When the desk is told no', numbers 1 and 4 to 8; document 02, note 2.
use Rattle.std.specs.Prelude.{◌≡◌, refl, [], ◌∷◌, ◌++◌, replicate, take, Ok, Err}
use Rattle.cable_rules.specs.Checks.{outside_field, checked}
use Rattle.refusals.specs.declared.Place.TheVariants as P
use Rattle.sheet_rules.specs.BigEndian.{big_endian}
use Rattle.sheet_rules.specs.Layout.{header_length, wrong_length}
use Rattle.sheet_rules.specs.Header.{cable_of, checked_header}
use Rattle.sheet_rules.specs.Records.{record_of, record_at, checked_record}
use Rattle.sheet_rules.specs.Chain.{steps, refused, chain_of}
use Rattle.sheet_rules.specs.Walk.{walk_from}
use Rattle.sheet_rules.specs.ExampleSheets.{two, fields_with, fields_a, record_bytes, sheet_a, long_sheet_a, header_a, step, at_record, refused_none}

-- ---- the header

-- every field, the starting current and the first link
header_read : checked_header (sheet_a 300 2 (replicate 12 0)) ≡ Ok (header_a 300 2 0)
unfolding header_length checked_header wrong_length checked outside_field cable_of big_endian
header_read = refl

-- 35 bytes
length_35 : checked_header (take 35 (sheet_a 300 0 [])) ≡ refused_none 1
unfolding header_length checked_header wrong_length
length_35 = refl

-- 37 bytes
length_37 : checked_header (sheet_a 300 0 (0 ∷ [])) ≡ refused_none 1
unfolding header_length checked_header wrong_length
length_37 = refl

-- 36 + 6 · 49 bytes
length_330 : checked_header (sheet_a 300 0 (replicate 294 0)) ≡ refused_none 1
unfolding header_length checked_header wrong_length
length_330 = refl

-- d = 99, and a starting current of 4,001 besides
field_before_start : checked_header (fields_with 99 1000 500 100 ++ (two 4001 ++ two 0)) ≡ Err (record { number = 2; place = P.Field 1 })
unfolding header_length checked_header wrong_length checked outside_field cable_of big_endian
field_before_start = refl

-- the slow rate is above the fast one, and the starting current is 4,001
rates_before_start : checked_header (fields_with 500 1000 500 1001 ++ (two 4001 ++ two 0)) ≡ refused_none 3
unfolding header_length checked_header wrong_length checked outside_field cable_of big_endian
rates_before_start = refl

-- 4,001, and a first link above n besides
start_before_link : checked_header (sheet_a 4001 1 []) ≡ refused_none 4
unfolding header_length checked_header wrong_length checked outside_field cable_of big_endian
start_before_link = refl

-- 4,000 A is not above 4,000
start_4000 : checked_header (sheet_a 4000 0 []) ≡ Ok (header_a 4000 0 0)
unfolding header_length checked_header wrong_length checked outside_field cable_of big_endian
start_4000 = refl

-- ---- the long header: document 02, note 2

-- 38 bytes: a first link of 2, a second one of 258 in bytes 37 and 38, and no records
length_38 : checked_header (long_sheet_a 300 2 258 []) ≡ Ok (header_a 300 2 258)
unfolding header_length checked_header wrong_length checked outside_field cable_of big_endian
length_38 = refl

-- 44 bytes: a second link and one record
length_44 : checked_header (long_sheet_a 300 0 1 (replicate 6 0)) ≡ Ok (header_a 300 0 1)
unfolding header_length checked_header wrong_length checked outside_field cable_of big_endian
length_44 = refl

-- 40 bytes: remainder 4
length_40 : checked_header (long_sheet_a 300 0 0 (0 ∷ 0 ∷ [])) ≡ refused_none 1
unfolding header_length checked_header wrong_length
length_40 = refl

-- 36 + 6 · 48 bytes
length_324 : checked_header (sheet_a 300 0 (replicate 288 0)) ≡ Ok (header_a 300 0 0)
unfolding header_length checked_header wrong_length checked outside_field cable_of big_endian
length_324 = refl

-- 38 + 6 · 48 bytes
length_326 : checked_header (long_sheet_a 300 0 48 (replicate 288 0)) ≡ Ok (header_a 300 0 48)
unfolding header_length checked_header wrong_length checked outside_field cable_of big_endian
length_326 = refl

-- 38 + 6 · 49 bytes
length_332 : checked_header (long_sheet_a 300 0 0 (replicate 294 0)) ≡ refused_none 1
unfolding header_length checked_header wrong_length
length_332 = refl

-- 2 bytes: remainder 2, as 38 has, and too short
length_2 : checked_header (take 2 fields_a) ≡ refused_none 1
unfolding header_length checked_header wrong_length
length_2 = refl

-- 32 bytes: remainder 2 again, and too short
length_32 : checked_header fields_a ≡ refused_none 1
unfolding header_length checked_header wrong_length
length_32 = refl

-- 42 bytes: bytes 37 and 38 are those of record 1, and hold a 1
short_without_second_link : checked_header (sheet_a 300 0 (record_bytes 1 1000 0)) ≡ Ok (header_a 300 0 0)
unfolding header_length checked_header wrong_length checked outside_field cable_of big_endian
short_without_second_link = refl

-- ---- the load chain

-- 60 minutes before now, then 30
two_steps : chain_of (sheet_a 300 1 (record_bytes 60 200 2 ++ record_bytes 30 100 0)) ≡ steps (step 1 60 200 ∷ step 2 30 100 ∷ [])
unfolding header_length walk_from checked_record record_at record_of wrong_length big_endian
two_steps = refl

-- record 3, then 1; record 2 is off the chain, whatever it holds
chain_out_of_order : chain_of (sheet_a 0 3 (record_bytes 30 4000 0 ++ (record_bytes 0 65535 9999 ++ record_bytes 2880 0 1))) ≡ steps (step 3 2880 0 ∷ step 1 30 4000 ∷ [])
unfolding header_length walk_from checked_record record_at record_of wrong_length big_endian
chain_out_of_order = refl

-- first link 1, no records: the header holds the link
link_of_the_header : chain_of (sheet_a 300 1 []) ≡ refused (at_record 5 0)
unfolding header_length walk_from checked_record record_at wrong_length big_endian
link_of_the_header = refl

-- record 1 links to 3 of two records
link_of_a_record : chain_of (sheet_a 300 1 (record_bytes 60 300 3 ++ record_bytes 30 300 0)) ≡ refused (at_record 5 1)
unfolding header_length walk_from checked_record record_at record_of wrong_length big_endian
link_of_a_record = refl

-- record 1 with 0 minutes, and 4,001 A besides
no_minutes : chain_of (sheet_a 300 1 (record_bytes 0 4001 0)) ≡ refused (at_record 6 1)
unfolding header_length walk_from checked_record record_at record_of wrong_length big_endian
no_minutes = refl

-- 1 minute is in range
one_minute : chain_of (sheet_a 300 1 (record_bytes 1 200 0)) ≡ steps (step 1 1 200 ∷ [])
unfolding header_length walk_from checked_record record_at record_of wrong_length big_endian
one_minute = refl

-- 2,881 minutes
many_minutes : chain_of (sheet_a 300 1 (record_bytes 2881 300 0)) ≡ refused (at_record 6 1)
unfolding header_length walk_from checked_record record_at record_of wrong_length big_endian
many_minutes = refl

-- record 2 with 4,001 A, and the minutes of record 1 besides
many_amperes : chain_of (sheet_a 300 1 (record_bytes 30 300 2 ++ record_bytes 30 4001 0)) ≡ refused (at_record 7 2)
unfolding header_length walk_from checked_record record_at record_of wrong_length big_endian
many_amperes = refl

-- 30, then 30 in record 2, which links above n besides
equal_minutes : chain_of (sheet_a 300 1 (record_bytes 30 300 2 ++ record_bytes 30 300 3)) ≡ refused (at_record 8 2)
unfolding header_length walk_from checked_record record_at record_of wrong_length big_endian
equal_minutes = refl

-- a long header's records begin at byte 39
long_steps : chain_of (long_sheet_a 300 1 0 (record_bytes 60 200 2 ++ record_bytes 30 100 0)) ≡ steps (step 1 60 200 ∷ step 2 30 100 ∷ [])
unfolding header_length walk_from checked_record record_at record_of wrong_length big_endian
long_steps = refl
