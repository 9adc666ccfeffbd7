-- Document 01, 'The cable' and 'When the desk is told no', numbers 2 and 3: the range of each field, the first refusal, and the diffusivity in use.
use Rattle.std.specs.Prelude.{cond, List, [], ◌∷◌, ℕ, eqb, ltb, get_or, Option, Some, None, Result, Ok, Err}
use Rattle.ranges.specs.Ranges.{Range, ◌to◌, or_zero, first_outside}
use Rattle.cable_rules.specs.declared.Cable.{Cable}
use Rattle.refusals.specs.declared.Place.TheVariants as P
use Rattle.refusals.specs.declared.Refusal.{Refusal}

-- The table's last column.
abbrev pub ranges : List Range
ranges =
    100 to 1500  -- d
    ∷ 300 to 5000  -- l
    ∷ or_zero (100 to 2000)  -- s
    ∷ 0 to 1000000  -- k
    ∷ 0 to 1000000  -- w
    ∷ 1 to 100000  -- fast rate
    ∷ 1 to 100000  -- slow rate
    ∷ 50 to 2000  -- rated current
    ∷ []

-- The fields in table order.
abbrev pub fields : Cable → List ℕ
fields c =
    c.diameter
    ∷ c.depth
    ∷ c.diffusivity
    ∷ c.surface_ratio
    ∷ c.fast_weight
    ∷ c.fast_rate
    ∷ c.slow_rate
    ∷ c.rated
    ∷ []

-- The cable of eight fields in table order.
abbrev pub cable_from : List ℕ → Cable
cable_from xs =
    record {
      diameter = get_or xs 0 0;
      depth = get_or xs 1 0;
      diffusivity = get_or xs 2 0;
      surface_ratio = get_or xs 3 0;
      fast_weight = get_or xs 4 0;
      fast_rate = get_or xs 5 0;
      slow_rate = get_or xs 6 0;
      rated = get_or xs 7 0;
    }

unfoldable pub outside_field : Cable → Option ℕ
outside_field c = first_outside 1 ranges (fields c)

-- what follows where no field is outside its range
abbrev pub after_fields : Option ℕ → Result Cable Refusal → Result Cable Refusal
after_fields (Some field) check = Err (record { number = 2; place = P.Field field })
after_fields None check = check

-- The first refusal in the order of the numbers, or the cable as it is.
unfoldable pub checked : Cable → Result Cable Refusal
checked c =
    after_fields (outside_field c)
    (cond (ltb c.fast_rate c.slow_rate) (Err (record { number = 3; place = P.None }))
    (Ok c))

-- The cable with which everything is computed: the default for a diffusivity of 0.
unfoldable pub in_use : ℕ → Cable → Cable
in_use default c =
    record {
      diameter = c.diameter;
      depth = c.depth;
      diffusivity = cond (eqb c.diffusivity 0) default c.diffusivity;
      surface_ratio = c.surface_ratio;
      fast_weight = c.fast_weight;
      fast_rate = c.fast_rate;
      slow_rate = c.slow_rate;
      rated = c.rated;
    }
