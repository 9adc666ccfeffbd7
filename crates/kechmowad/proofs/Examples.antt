-- Worked examples of what crosses: document 01, 'When the desk is told no', its small examples, and values.
use Rattle.std.specs.Prelude.{◌≡◌, refl, [], ◌∷◌, pos}
use Rattle.refusals.specs.Stated.{stated_values, stated_refusal}
use Rattle.refusals.specs.declared.Place.TheVariants.{None, Field, Record, Hour, Input}
use Rattle.kechmowad.specs.Crossing.{crossing}

-- "35 bytes"
wrong_length_lem : crossing (stated_refusal (record { number = 1; place = None })) ≡ pos 1 ∷ pos 0 ∷ pos 0 ∷ pos 0 ∷ pos 0 ∷ []
wrong_length_lem = refl

-- "d = 99: field 1"
diameter_99 : crossing (stated_refusal (record { number = 2; place = Field 1 })) ≡ pos 2 ∷ pos 1 ∷ pos 1 ∷ pos 0 ∷ pos 0 ∷ []
diameter_99 = refl

-- "30, then 30 in record 2: record 2"
equal_minutes : crossing (stated_refusal (record { number = 8; place = Record 2 })) ≡ pos 8 ∷ pos 2 ∷ pos 2 ∷ pos 0 ∷ pos 0 ∷ []
equal_minutes = refl

-- "hour 5 with 4,001"
hour_5 : crossing (stated_refusal (record { number = 10; place = Hour 5 })) ≡ pos 10 ∷ pos 3 ∷ pos 5 ∷ pos 0 ∷ pos 0 ∷ []
hour_5 = refl

-- "h = 201: input 1"
preload_201 : crossing (stated_refusal (record { number = 12; place = Input 1 })) ≡ pos 12 ∷ pos 4 ∷ pos 1 ∷ pos 0 ∷ pos 0 ∷ []
preload_201 = refl

-- a pair: low, then high
pair : crossing (stated_values (pos 59 ∷ pos 60 ∷ [])) ≡ pos 0 ∷ pos 0 ∷ pos 0 ∷ pos 59 ∷ pos 60 ∷ []
pair = refl

-- C6, one value: "200 A"
one_value : crossing (stated_values (pos 200 ∷ [])) ≡ pos 0 ∷ pos 0 ∷ pos 0 ∷ pos 200 ∷ pos 0 ∷ []
one_value = refl
