-- Document 01, 'When the desk is told no': "A refusal is its number and a place, and nothing else." What an answer states, in the paper's own
-- numbers, case by case.
use Rattle.std.specs.Prelude.{List, [], ℤ, ℕ}
use Rattle.refusals.specs.declared.Place.{Place}
use Rattle.refusals.specs.declared.Place.TheVariants.{None, Field, Record, Hour, Input}
use Rattle.refusals.specs.declared.Refusal.{Refusal}

-- "A refusal's place is a field, a record, an hour, an input or none."
pub data Kind : Type 0 where
  no_place : Kind
  a_field : Kind
  a_record : Kind
  an_hour : Kind
  an_input : Kind

-- The kinds by number, in the order of that sentence, 0 for none.
abbrev pub kind_number : Kind → ℕ
kind_number no_place = 0
kind_number a_field = 1
kind_number a_record = 2
kind_number an_hour = 3
kind_number an_input = 4

abbrev pub place_kind : Place → Kind
place_kind None = no_place
place_kind (Field n) = a_field
place_kind (Record n) = a_record
place_kind (Hour n) = an_hour
place_kind (Input n) = an_input

-- The number of the place, 0 for none.
abbrev pub place_number : Place → ℕ
place_number None = 0
place_number (Field n) = n
place_number (Record n) = n
place_number (Hour n) = n
place_number (Input n) = n

-- The number of the refusal with the kind and the number of its place, each 0 or none where nothing is refused; and the values of the answer.
pub record Stated : Type 0 where
  pub number : ℕ
  pub kind : Kind
  pub place : ℕ
  pub values : List ℤ

abbrev pub stated_values : List ℤ → Stated
stated_values xs = record { number = 0; kind = no_place; place = 0; values = xs }

abbrev pub stated_refusal : Refusal → Stated
stated_refusal f = record { number = f.number; kind = place_kind f.place; place = place_number f.place; values = [] }
