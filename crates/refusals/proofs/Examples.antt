-- Worked examples, document 01, 'When the desk is told no': what an answer states, taken apart and put together.
use Rattle.std.specs.Prelude.{◌≡◌, refl, [], ◌∷◌, ℕ, ℤ, pos}
use Rattle.refusals.specs.Stated.{stated_values, stated_refusal}
use Rattle.refusals.specs.Apart.{parts_of, place_of, refusal_in}
use Rattle.refusals.specs.declared.Place.{Place}
use Rattle.refusals.specs.declared.Place.TheVariants.{None, Field, Record, Hour, Input}
use Rattle.refusals.specs.declared.Refusal.{Refusal}
use Rattle.refusals.specs.declared.Parts.{Parts}

-- ---- what an answer states, taken apart

-- the refusal, the kind and the number of its place, the count of the values, the values
abbrev parts : ℕ → ℕ → ℕ → ℕ → ℤ → ℤ → Parts
parts number kind place count first second = record { number = number; kind = kind; place = place; count = count; first = first; second = second }

abbrev refusal : ℕ → Place → Refusal
refusal number place = record { number = number; place = place }

-- "35 bytes"
wrong_length_lem : parts_of (stated_refusal (refusal 1 None)) ≡ parts 1 0 0 0 (pos 0) (pos 0)
wrong_length_lem = refl

-- "d = 99: field 1"
diameter_99 : parts_of (stated_refusal (refusal 2 (Field 1))) ≡ parts 2 1 1 0 (pos 0) (pos 0)
diameter_99 = refl

-- "30, then 30 in record 2: record 2"
equal_minutes : parts_of (stated_refusal (refusal 8 (Record 2))) ≡ parts 8 2 2 0 (pos 0) (pos 0)
equal_minutes = refl

-- "hour 5 with 4,001"
hour_5 : parts_of (stated_refusal (refusal 10 (Hour 5))) ≡ parts 10 3 5 0 (pos 0) (pos 0)
hour_5 = refl

-- "h = 201: input 1"
preload_201 : parts_of (stated_refusal (refusal 12 (Input 1))) ≡ parts 12 4 1 0 (pos 0) (pos 0)
preload_201 = refl

-- a pair: low, then high
pair : parts_of (stated_values (pos 59 ∷ pos 60 ∷ [])) ≡ parts 0 0 0 2 (pos 59) (pos 60)
pair = refl

-- C6, one value: "200 A"
one_value : parts_of (stated_values (pos 200 ∷ [])) ≡ parts 0 0 0 1 (pos 200) (pos 0)
one_value = refl

-- ---- and put together

hour_5_back : refusal_in (parts 10 3 5 0 (pos 0) (pos 0)) ≡ refusal 10 (Hour 5)
hour_5_back = refl

wrong_length_back : refusal_in (parts 1 0 0 0 (pos 0) (pos 0)) ≡ refusal 1 None
wrong_length_back = refl

-- no kind has the number 5
no_such_kind : place_of 5 1 ≡ None
no_such_kind = refl
