-- Document 01, 'Cases' and 'When the desk is told no', in one table: the marked cases, the small example of each refusal and one of 12 at its other input,
-- and for each two conditions next to each other in an order, where some input can have both, an input with both faults; with those of document 02, note 2. `proofs/Claim` has the sole claim: every row holds.
use Rattle.std.specs.Prelude.{◌≡◌, Bool, true, false, List, [], ◌∷◌, ◌++◌, map, ℕ, ◌/◌, ◌%◌, ◌≤◌, ℤ, pos, replicate, set, take, ◌≤ℤ◌}
use Rattle.cable_rules.specs.Checks.{fields}
use Rattle.refusals.specs.Stated.{Stated, stated_values, stated_refusal}
use Rattle.cable_rules.specs.Group.{Given, given_cable}
use Rattle.cable_rules.specs.declared.Cable.{Cable}
use Rattle.refusals.specs.declared.Place.{Place}
use Rattle.refusals.specs.declared.Place.TheVariants.{None, Field, Record, Hour, Input}
use Rattle.share_rules.specs.Answer.{share_answer, stated_share}
use Rattle.sheet_rules.specs.Layout.{wrong_length}
use Rattle.sheet_rules.specs.Sheet.{given_sheet}
use Rattle.history_rules.specs.Answer.{history_of, rise_answer, stated_rise}
use Rattle.cycle_rules.specs.Answer.{factor_answer, stated_factor}
use Rattle.emergency_rules.specs.Answer.{current_answer, stated_current}

-- ---- what a row says

pub data Question : Type 0 where
  -- what is given, after some minutes
  share : Given → ℕ → Question
  -- the bytes of a sheet
  rise : List ℕ → Question
  -- what is given, and its hours
  factor : Given → List ℕ → Question
  -- what is given, preload h, limit r and minutes
  current : Given → ℕ → ℕ → ℕ → Question

-- in the paper's numbers
abbrev pub answer : Question → Stated
answer (share given minutes) = stated_share (share_answer given minutes)
answer (rise sheet) = stated_rise (rise_answer (history_of sheet))
answer (factor given hours) = stated_factor (factor_answer given hours)
answer (current given h r minutes) = stated_current (current_answer given h r minutes)

pub data Says : Type 0 where
  gives : Question → Stated → Says
  -- the same for each number from the first to the second
  each_gives : ℕ → ℕ → (ℕ → Question) → Stated → Says
  -- a pair is answered, with a low of at most the one number and a high of at least the other
  around : Question → ℕ → ℕ → Says
  -- whether so many bytes are refused by the length check
  length_refused : ℕ → Bool → Says

-- what an answer states, and where its two values are
pub record PairAround (stated : Stated) (low_most high_least : ℕ) : Type 0 where
  pub low : ℤ
  pub high : ℤ
  pub given : stated ≡ stated_values (low ∷ high ∷ [])
  pub low_to : low ≤ℤ pos low_most
  pub high_from : pos high_least ≤ℤ high

abbrev pub Meant : Says → Type 0
Meant (gives question stated) = answer question ≡ stated
Meant (each_gives first last question stated) = (n : ℕ) → first ≤ n → n ≤ last → answer (question n) ≡ stated
Meant (around question low_most high_least) = PairAround (answer question) low_most high_least
Meant (length_refused bytes refused) = wrong_length bytes ≡ refused

pub data Name : Type 0 where
  -- C1 to C12
  C : ℕ → Name
  -- an example of a refusal
  example : ℕ → Name
  -- both faults in one input, answered by the first
  before : ℕ → ℕ → Name
  -- a sentence of a note of document 02
  note : ℕ → Name

pub record Row : Type 0 where
  pub name : Name
  pub says : Says

-- every row of a list holds
infixr 5 ◌⨾◌
pub data Hold : List Row → Type 0 where
  all : Hold []
  ◌⨾◌ : {r : Row} {rs : List Row} → Meant r.says → Hold rs → Hold (r ∷ rs)

-- ---- cables

-- the eight fields in table order
abbrev pub cable : ℕ → ℕ → ℕ → ℕ → ℕ → ℕ → ℕ → ℕ → Cable
cable d l s k w fast slow rated = record {
  diameter = d;
  depth = l;
  diffusivity = s;
  surface_ratio = k;
  fast_weight = w;
  fast_rate = fast;
  slow_rate = slow;
  rated = rated;
}

-- cable A, rated as is said
abbrev pub rated_a : ℕ → Cable
rated_a rated = cable 500 1000 500 600000 500000 1000 100 rated

abbrev pub cable_a : Cable
cable_a = rated_a 400

-- "Cable B: A with k 0 and both rates 100,000."
abbrev pub cable_b : Cable
cable_b = cable 500 1000 500 0 500000 100000 100000 400

-- "B with both rates 1"
abbrev pub slow_b : Cable
slow_b = cable 500 1000 500 0 500000 1 1 400

-- "d = 99"
abbrev pub thin_a : Cable
thin_a = cable 99 1000 500 600000 500000 1000 100 400

-- "fast 100, slow 101"
abbrev pub slower_a : Cable
slower_a = cable 500 1000 500 600000 500000 100 101 400

-- 300 mm deep
abbrev pub shallow_a : Cable
shallow_a = cable 500 300 500 600000 500000 1000 100 400

-- both
abbrev pub thin_slower_a : Cable
thin_slower_a = cable 99 1000 500 600000 500000 100 101 400

-- ---- sheets

abbrev pub two : ℕ → List ℕ
two n = n / 256 ∷ n % 256 ∷ []

abbrev pub fours : List ℕ → List ℕ
fours [] = []
fours (n ∷ ns) = two (n / 65536) ++ (two (n % 65536) ++ fours ns)

abbrev pub twos : List ℕ → List ℕ
twos [] = []
twos (n ∷ ns) = two n ++ twos ns

-- a cable; starting current, first link, in a long header the second link, and for each record minutes, amperes and next link, or offset, depth and next link
abbrev pub sheet : Cable → List ℕ → List ℕ
sheet c rest = fours (fields c) ++ twos rest

-- what a sheet gives
abbrev pub in_sheet : Cable → List ℕ → Given
in_sheet c rest = given_sheet (sheet c rest)

-- C1's 36 bytes as they are printed
abbrev pub printed : List ℕ
printed = 0 ∷ 0 ∷ 1 ∷ 244 ∷ 0 ∷ 0 ∷ 3 ∷ 232 ∷ 0 ∷ 0 ∷ 1 ∷ 244 ∷ 0 ∷ 9 ∷ 39 ∷ 192 ∷ 0 ∷ 7 ∷ 161 ∷ 32 ∷ 0 ∷ 0 ∷ 3 ∷ 232 ∷ 0 ∷ 0 ∷ 0 ∷ 100 ∷ 0 ∷ 0 ∷ 1 ∷ 144 ∷ 1 ∷ 44 ∷ 0 ∷ 0 ∷ []

-- ---- the table

-- one hour of the day, the rest 0
abbrev pub one_hour : ℕ → ℕ → List ℕ
one_hour hour amperes = set (replicate 24 0) hour amperes

abbrev pub values : List ℕ → Stated
values ns = stated_values (map pos ns)

abbrev pub refusal : ℕ → Place → Stated
refusal number place = stated_refusal (record { number = number; place = place })

abbrev pub row : Name → Says → Row
row name says = record { name = name; says = says }

abbrev pub any_minutes : (ℕ → Question) → Stated → Says
any_minutes = each_gives 1 2880

abbrev pub any_hour : (ℕ → Question) → Stated → Says
any_hour = each_gives 0 23

abbrev pub table : List Row
table =
    row (C 1) (gives (rise printed) (values (562500 ∷ 562500 ∷ [])))
    ∷ row (C 1) (gives (rise (sheet cable_a (300 ∷ 0 ∷ []))) (values (562500 ∷ 562500 ∷ [])))
    ∷ row (C 2) (gives (rise (sheet cable_a (300 ∷ 1 ∷ 60 ∷ 300 ∷ 2 ∷ 30 ∷ 300 ∷ 0 ∷ []))) (values (562500 ∷ 562500 ∷ [])))
    ∷ row (C 3) (gives (factor (given_cable cable_a) (replicate 24 200)) (values (1000 ∷ [])))
    ∷ row (C 4) (any_hour (λ hour. factor (given_cable cable_b) (one_hour hour 400)) (values (999 ∷ [])))
    ∷ row (C 5) (any_minutes (current (given_cable cable_a) 100 100) (values (400 ∷ [])))
    ∷ row (C 6) (any_minutes (current (given_cable cable_a) 50 25) (values (200 ∷ [])))
    ∷ row (C 7) (any_minutes (current (given_cable cable_a) 51 25) (refusal 13 None))
    ∷ row (C 8) (any_minutes (current (given_cable (rated_a 401)) 50 25) (values (200 ∷ [])))
    ∷ row (C 9) (around (share (given_cable cable_b) 1) 997521 997522)
    ∷ row (C 10) (around (share (given_cable slow_b) 1) 59 60)
    ∷ row (C 11) (gives (rise (sheet cable_a (300 ∷ 1 ∷ 30 ∷ 300 ∷ 1 ∷ []))) (refusal 8 (Record 1)))
    ∷ row (C 12) (length_refused 324 false)
    ∷ row (C 12) (length_refused 330 true)
    -- "small example"
    ∷ row (example 1) (gives (rise (take 35 printed)) (refusal 1 None))
    ∷ row (example 2) (gives (share (given_cable thin_a) 60) (refusal 2 (Field 1)))
    ∷ row (example 3) (gives (share (given_cable slower_a) 60) (refusal 3 None))
    ∷ row (example 4) (gives (rise (sheet cable_a (4001 ∷ 0 ∷ []))) (refusal 4 None))
    ∷ row (example 5) (gives (rise (sheet cable_a (300 ∷ 1 ∷ []))) (refusal 5 (Record 0)))
    ∷ row (example 6) (gives (rise (sheet cable_a (300 ∷ 1 ∷ 0 ∷ 300 ∷ 0 ∷ []))) (refusal 6 (Record 1)))
    ∷ row (example 7) (gives (rise (sheet cable_a (300 ∷ 1 ∷ 30 ∷ 4001 ∷ 0 ∷ []))) (refusal 7 (Record 1)))
    ∷ row (example 8) (gives (rise (sheet cable_a (300 ∷ 1 ∷ 30 ∷ 300 ∷ 2 ∷ 30 ∷ 300 ∷ 0 ∷ []))) (refusal 8 (Record 2)))
    ∷ row (example 9) (gives (share (given_cable cable_a) 2881) (refusal 9 None))
    ∷ row (example 10) (gives (factor (given_cable cable_a) (one_hour 5 4001)) (refusal 10 (Hour 5)))
    ∷ row (example 11) (gives (factor (given_cable cable_a) (replicate 24 0)) (refusal 11 None))
    ∷ row (example 12) (gives (current (given_cable cable_a) 201 100 60) (refusal 12 (Input 1)))
    ∷ row (example 12) (gives (current (given_cable cable_a) 100 0 60) (refusal 12 (Input 2)))
    ∷ row (example 13) (gives (current (given_cable cable_a) 51 25 60) (refusal 13 None))
    -- document 02, note 2: 14 "for a link above n or, unless 0, not above the record holding it", of the header and of a record
    ∷ row (example 14) (gives (rise (sheet cable_a (300 ∷ 0 ∷ 1 ∷ []))) (refusal 14 (Record 0)))
    ∷ row (example 14) (gives (rise (sheet cable_a (300 ∷ 0 ∷ 1 ∷ 200 ∷ 1000 ∷ 1 ∷ []))) (refusal 14 (Record 1)))
    -- 15 "for an offset beyond 3,000 mm either way or a depth outside 300 to 5,000": 3,001, -3,001 and the bytes 8000, and the depths
    ∷ row (example 15) (gives (rise (sheet cable_a (300 ∷ 0 ∷ 1 ∷ 3001 ∷ 1000 ∷ 0 ∷ []))) (refusal 15 (Record 1)))
    ∷ row (example 15) (gives (rise (sheet cable_a (300 ∷ 0 ∷ 1 ∷ 62535 ∷ 1000 ∷ 0 ∷ []))) (refusal 15 (Record 1)))
    ∷ row (example 15) (gives (rise (sheet cable_a (300 ∷ 0 ∷ 1 ∷ 32768 ∷ 1000 ∷ 0 ∷ []))) (refusal 15 (Record 1)))
    ∷ row (example 15) (gives (rise (sheet cable_a (300 ∷ 0 ∷ 1 ∷ 200 ∷ 299 ∷ 0 ∷ []))) (refusal 15 (Record 1)))
    ∷ row (example 15) (gives (rise (sheet cable_a (300 ∷ 0 ∷ 1 ∷ 200 ∷ 5001 ∷ 0 ∷ []))) (refusal 15 (Record 1)))
    -- 16 "for c below d": 49 mm, and the cable's own place
    ∷ row (example 16) (gives (rise (sheet cable_a (300 ∷ 0 ∷ 1 ∷ 49 ∷ 1000 ∷ 0 ∷ []))) (refusal 16 (Record 1)))
    ∷ row (example 16) (gives (rise (sheet cable_a (300 ∷ 0 ∷ 1 ∷ 0 ∷ 1000 ∷ 0 ∷ []))) (refusal 16 (Record 1)))
    -- a long header without neighbours is C1's sheet
    ∷ row (note 2) (gives (rise (sheet cable_a (300 ∷ 0 ∷ 0 ∷ []))) (values (562500 ∷ 562500 ∷ [])))
    -- with a neighbour, and no step that would ask for a share
    ∷ row (note 2) (gives (rise (sheet cable_a (300 ∷ 0 ∷ 1 ∷ 200 ∷ 1000 ∷ 0 ∷ []))) (values (562500 ∷ 562500 ∷ [])))
    -- "One record may serve both chains": 1,000 minutes or mm, 300 A or mm, which changes no load
    ∷ row (note 2) (gives (rise (sheet cable_a (300 ∷ 1 ∷ 1 ∷ 1000 ∷ 300 ∷ 0 ∷ []))) (values (562500 ∷ 562500 ∷ [])))
    -- "lengths 36 + 6n and 38 + 6n are told apart by their remainder by 6"
    ∷ row (note 2) (length_refused 38 false)
    ∷ row (note 2) (length_refused 326 false)
    ∷ row (note 2) (length_refused 332 true)
    ∷ row (note 2) (length_refused 40 true)
    ∷ row (note 2) (length_refused 32 true)
    ∷ row (note 2) (length_refused 2 true)
    -- Order. Sheet: 1, 2, 3, 4, then for each record in turn 5, 6, 7, 8. A link above n leads to no record, so 5 and 6 are never both to be said of one.
    ∷ row (before 1 2) (gives (rise (take 35 (sheet thin_a (300 ∷ 0 ∷ [])))) (refusal 1 None))
    ∷ row (before 2 3) (gives (rise (sheet thin_slower_a (300 ∷ 0 ∷ []))) (refusal 2 (Field 1)))
    ∷ row (before 3 4) (gives (rise (sheet slower_a (4001 ∷ 0 ∷ []))) (refusal 3 None))
    ∷ row (before 4 5) (gives (rise (sheet cable_a (4001 ∷ 1 ∷ []))) (refusal 4 None))
    ∷ row (before 6 7) (gives (rise (sheet cable_a (300 ∷ 1 ∷ 0 ∷ 4001 ∷ 0 ∷ []))) (refusal 6 (Record 1)))
    ∷ row (before 7 8) (gives (rise (sheet cable_a (300 ∷ 1 ∷ 30 ∷ 300 ∷ 2 ∷ 30 ∷ 4001 ∷ 0 ∷ []))) (refusal 7 (Record 2)))
    -- one record in turn before the link to the next
    ∷ row (before 6 5) (gives (rise (sheet cable_a (300 ∷ 1 ∷ 0 ∷ 300 ∷ 2 ∷ []))) (refusal 6 (Record 1)))
    ∷ row (before 8 5) (gives (rise (sheet cable_a (300 ∷ 1 ∷ 30 ∷ 300 ∷ 2 ∷ 30 ∷ 300 ∷ 3 ∷ []))) (refusal 8 (Record 2)))
    -- "After all checks of the load chain come, for each neighbour in turn, 14 [..], 15 [..] and 16"
    ∷ row (before 4 14) (gives (rise (sheet cable_a (4001 ∷ 0 ∷ 1 ∷ []))) (refusal 4 None))
    -- one record on both chains, with a link above n
    ∷ row (before 5 14) (gives (rise (sheet cable_a (300 ∷ 1 ∷ 1 ∷ 1000 ∷ 400 ∷ 2 ∷ []))) (refusal 5 (Record 1)))
    ∷ row (before 8 14) (gives (rise (sheet cable_a (300 ∷ 1 ∷ 2 ∷ 30 ∷ 300 ∷ 1 ∷ []))) (refusal 8 (Record 1)))
    -- record 2 links back to record 1, whose offset is beyond 3,000
    ∷ row (before 14 15) (gives (rise (sheet cable_a (300 ∷ 0 ∷ 2 ∷ 3001 ∷ 1000 ∷ 0 ∷ 200 ∷ 1000 ∷ 1 ∷ []))) (refusal 14 (Record 2)))
    -- 1 mm above a cable at 300 mm
    ∷ row (before 15 16) (gives (rise (sheet shallow_a (300 ∷ 0 ∷ 1 ∷ 0 ∷ 299 ∷ 0 ∷ []))) (refusal 15 (Record 1)))
    -- one neighbour in turn before the link to the next
    ∷ row (before 15 14) (gives (rise (sheet cable_a (300 ∷ 0 ∷ 1 ∷ 3001 ∷ 1000 ∷ 1 ∷ []))) (refusal 15 (Record 1)))
    ∷ row (before 16 14) (gives (rise (sheet cable_a (300 ∷ 0 ∷ 1 ∷ 49 ∷ 1000 ∷ 1 ∷ []))) (refusal 16 (Record 1)))
    -- Share: 2, 3, 9; of a sheet, "whose refusals then precede their own", 9 after all of them
    ∷ row (before 5 9) (gives (share (in_sheet cable_a (300 ∷ 1 ∷ [])) 2881) (refusal 5 (Record 0)))
    ∷ row (before 14 9) (gives (share (in_sheet cable_a (300 ∷ 0 ∷ 1 ∷ [])) 2881) (refusal 14 (Record 0)))
    ∷ row (before 16 9) (gives (share (in_sheet cable_a (300 ∷ 0 ∷ 1 ∷ 49 ∷ 1000 ∷ 0 ∷ [])) 2881) (refusal 16 (Record 1)))
    ∷ row (example 9) (gives (share (in_sheet cable_a (300 ∷ 0 ∷ [])) 2881) (refusal 9 None))
    ∷ row (before 2 3) (gives (share (given_cable thin_slower_a) 60) (refusal 2 (Field 1)))
    ∷ row (before 3 9) (gives (share (given_cable slower_a) 2881) (refusal 3 None))
    -- Cycle: 2, 3, 10, 11. Hours with one above 4,000 A are not all 0, so 10 and 11 never meet, and 11 comes next to 3 as well.
    ∷ row (before 2 3) (gives (factor (given_cable thin_slower_a) (replicate 24 200)) (refusal 2 (Field 1)))
    ∷ row (before 3 10) (gives (factor (given_cable slower_a) (one_hour 5 4001)) (refusal 3 None))
    ∷ row (before 3 11) (gives (factor (given_cable slower_a) (replicate 24 0)) (refusal 3 None))
    ∷ row (before 16 10) (gives (factor (in_sheet cable_a (300 ∷ 0 ∷ 1 ∷ 49 ∷ 1000 ∷ 0 ∷ [])) (one_hour 5 4001)) (refusal 16 (Record 1)))
    ∷ row (before 16 11) (gives (factor (in_sheet cable_a (300 ∷ 0 ∷ 1 ∷ 49 ∷ 1000 ∷ 0 ∷ [])) (replicate 24 0)) (refusal 16 (Record 1)))
    ∷ row (example 10) (gives (factor (in_sheet cable_a (300 ∷ 0 ∷ [])) (one_hour 5 4001)) (refusal 10 (Hour 5)))
    -- Emergency: 2, 3, 9, 12, 13
    ∷ row (before 2 3) (gives (current (given_cable thin_slower_a) 100 100 60) (refusal 2 (Field 1)))
    ∷ row (before 3 9) (gives (current (given_cable slower_a) 100 100 2881) (refusal 3 None))
    ∷ row (before 15 9) (gives (current (in_sheet cable_a (300 ∷ 0 ∷ 1 ∷ 3001 ∷ 1000 ∷ 0 ∷ [])) 100 100 2881) (refusal 15 (Record 1)))
    ∷ row (before 16 9) (gives (current (in_sheet cable_a (300 ∷ 0 ∷ 1 ∷ 49 ∷ 1000 ∷ 0 ∷ [])) 100 100 2881) (refusal 16 (Record 1)))
    ∷ row (example 9) (gives (current (in_sheet cable_a (300 ∷ 0 ∷ [])) 100 100 2881) (refusal 9 None))
    ∷ row (before 9 12) (gives (current (given_cable cable_a) 201 100 2881) (refusal 9 None))
    ∷ row (before 12 13) (gives (current (given_cable cable_a) 201 25 60) (refusal 12 (Input 1)))
    ∷ []
