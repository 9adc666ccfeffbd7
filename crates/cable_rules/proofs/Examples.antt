-- Worked examples of the checks: document 01, 'When the desk is told no', numbers 2 and 3, and 'The cable': "No other zero means missing".
use Rattle.std.specs.Prelude.{◌≡◌, refl, [], ◌∷◌, ℕ, Result, Ok, Err}
use Rattle.cable_rules.specs.Checks.{fields, cable_from, checked, outside_field, in_use}
use Rattle.cable_rules.specs.Group.{accepted, refused, only, alone, given_cable}
use Rattle.cable_rules.specs.declared.Cable.{Cable}
use Rattle.refusals.specs.declared.Place.TheVariants.{None, Field}
use Rattle.refusals.specs.declared.Refusal.{Refusal}

-- The eight fields in table order.
abbrev cable : ℕ → ℕ → ℕ → ℕ → ℕ → ℕ → ℕ → ℕ → Cable
cable d l s k w fast slow rated =
    record {
      diameter = d;
      depth = l;
      diffusivity = s;
      surface_ratio = k;
      fast_weight = w;
      fast_rate = fast;
      slow_rate = slow;
      rated = rated;
    }

-- eight numbers, handed over in table order: k is the fourth, w the fifth
in_table_order :
    (d l s k w fast slow rated : ℕ) →
    cable_from (d ∷ l ∷ s ∷ k ∷ w ∷ fast ∷ slow ∷ rated ∷ []) ≡ cable d l s k w fast slow rated
in_table_order d l s k w fast slow rated = refl

-- and back
fields_in_table_order :
    (d l s k w fast slow rated : ℕ) →
    fields (cable d l s k w fast slow rated) ≡ d ∷ l ∷ s ∷ k ∷ w ∷ fast ∷ slow ∷ rated ∷ []
fields_in_table_order d l s k w fast slow rated = refl

abbrev refused_2 : ℕ → Result Cable Refusal
refused_2 field = Err (record { number = 2; place = Field field })

abbrev refused_3 : Result Cable Refusal
refused_3 = Err (record { number = 3; place = None })

-- cable A of 'Cases'
cable_a_lem : checked (cable 500 1000 500 600000 500000 1000 100 400) ≡ Ok (cable 500 1000 500 600000 500000 1000 100 400)
unfolding checked outside_field
cable_a_lem = refl

-- 0 for k and for w is a value
zero_ratio : checked (cable 500 1000 500 0 500000 1000 100 400) ≡ Ok (cable 500 1000 500 0 500000 1000 100 400)
unfolding checked outside_field
zero_ratio = refl

zero_weight : checked (cable 500 1000 500 600000 0 1000 100 400) ≡ Ok (cable 500 1000 500 600000 0 1000 100 400)
unfolding checked outside_field
zero_weight = refl

-- 0 in another field is refused there
zero_diameter : checked (cable 0 1000 500 600000 500000 1000 100 400) ≡ refused_2 1
unfolding checked outside_field
zero_diameter = refl

zero_depth : checked (cable 500 0 500 600000 500000 1000 100 400) ≡ refused_2 2
unfolding checked outside_field
zero_depth = refl

zero_fast_rate : checked (cable 500 1000 500 600000 500000 0 100 400) ≡ refused_2 6
unfolding checked outside_field
zero_fast_rate = refl

zero_slow_rate : checked (cable 500 1000 500 600000 500000 1000 0 400) ≡ refused_2 7
unfolding checked outside_field
zero_slow_rate = refl

zero_rated : checked (cable 500 1000 500 600000 500000 1000 100 0) ≡ refused_2 8
unfolding checked outside_field
zero_rated = refl

-- more than one: k is refused at field 4, w at field 5
large_ratio : checked (cable 500 1000 500 1000001 500000 1000 100 400) ≡ refused_2 4
unfolding checked outside_field
large_ratio = refl

large_weight : checked (cable 500 1000 500 600000 1000001 1000 100 400) ≡ refused_2 5
unfolding checked outside_field
large_weight = refl

-- the table's small examples
small_diameter : checked (cable 99 1000 500 600000 500000 1000 100 400) ≡ refused_2 1
unfolding checked outside_field
small_diameter = refl

slow_above_fast : checked (cable 500 1000 500 600000 500000 100 101 400) ≡ refused_3
unfolding checked outside_field
slow_above_fast = refl

-- both faults: 2 comes first
both_faults : checked (cable 500 1000 500 600000 500000 100 101 2001) ≡ refused_2 8
unfolding checked outside_field
both_faults = refl

-- two fields outside: the first is named
two_fields : checked (cable 500 5001 99 600000 500000 1000 100 400) ≡ refused_2 2
unfolding checked outside_field
two_fields = refl

-- 0 in field 3 is accepted as it is, and 500 is used for it
zero_diffusivity : checked (cable 500 1000 0 600000 500000 1000 100 400) ≡ Ok (cable 500 1000 0 600000 500000 1000 100 400)
unfolding checked outside_field
zero_diffusivity = refl

zero_in_use : alone (cable 500 1000 0 600000 500000 1000 100 400) ≡ only (cable 500 1000 500 600000 500000 1000 100 400)
unfolding in_use
zero_in_use = refl

given_in_use : alone (cable 500 1000 499 600000 500000 1000 100 400) ≡ only (cable 500 1000 499 600000 500000 1000 100 400)
unfolding in_use
given_in_use = refl

-- what is given: the cable in use alone, or the refusal
zero_given : given_cable (cable 500 1000 0 600000 500000 1000 100 400) ≡ accepted (only (cable 500 1000 500 600000 500000 1000 100 400))
unfolding given_cable checked outside_field in_use
zero_given = refl

refusal_given : given_cable (cable 500 1000 500 600000 500000 100 101 2001) ≡ refused (record { number = 2; place = Field 8 })
unfolding given_cable checked outside_field
refusal_given = refl
