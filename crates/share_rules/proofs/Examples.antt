-- Worked examples of the answer: document 01, 'When the desk is told no', the order of the share, and that an accepted cable is answered.
use Rattle.std.specs.Prelude.{◌≡◌, refl, [], ◌∷◌, ℕ, ℤ, pos}
use Rattle.exact.specs.Value.{Value}
use Rattle.cable_rules.specs.Checks.{checked, outside_field}
use Rattle.cable_rules.specs.Group.{alone, given_cable}
use Rattle.distance.specs.Promised.{Promised}
use Rattle.refusals.specs.Stated.{no_place}
use Rattle.cable_rules.specs.declared.Cable.{Cable}
use Rattle.refusals.specs.declared.Place.TheVariants.{None, Field}
use Rattle.share_rules.specs.Pair.{share_pair}
use Rattle.share_rules.specs.Promises.{share_width}
use Rattle.share_rules.specs.Answer.{share_from, share_answer, stated_share}
use Rattle.share_rules.specs.declared.ShareAnswer.TheVariants.{Pair, Refused}

-- cable A of 'Cases', with another diameter and another slow rate
abbrev cable_a : ℕ → ℕ → Cable
cable_a diameter slow =
    record {
      diameter = diameter;
      depth = 1000;
      diffusivity = 500;
      surface_ratio = 600000;
      fast_weight = 500000;
      fast_rate = 1000;
      slow_rate = slow;
      rated = 400;
    }

-- the ends of the minutes' range are answered with the pair
one_minute : share_answer (given_cable (cable_a 500 100)) 1 ≡ Pair (share_pair (alone (cable_a 500 100)) 1)
unfolding given_cable share_from checked outside_field
one_minute = refl

two_days : share_answer (given_cable (cable_a 500 100)) 2880 ≡ Pair (share_pair (alone (cable_a 500 100)) 2880)
unfolding given_cable share_from checked outside_field
two_days = refl

no_minutes : share_answer (given_cable (cable_a 500 100)) 0 ≡ Refused (record { number = 9; place = None })
unfolding given_cable share_from checked outside_field
no_minutes = refl

-- with two faults the first in the order is given
diameter_before_rates : share_answer (given_cable (cable_a 99 1001)) 60 ≡ Refused (record { number = 2; place = Field 1 })
unfolding given_cable share_from checked outside_field
diameter_before_rates = refl

rates_before_minutes : share_answer (given_cable (cable_a 500 1001)) 2881 ≡ Refused (record { number = 3; place = None })
unfolding given_cable share_from checked outside_field
rates_before_minutes = refl

-- ---- the width

-- "high − low at most 50", whatever the exact value is
fifty_one_apart : (exact : Value) → Promised share_width exact (record { low = pos 340150; high = pos 340201 }) → ⊥
fifty_one_apart exact p = p.narrow.le

-- ---- the paper's numbers

-- "low and high"
stated_low_first : (low high : ℤ) → stated_share (Pair (record { low = low; high = high })) ≡ record { number = 0; kind = no_place; place = 0; values = low ∷ high ∷ [] }
stated_low_first low high = refl

stated_9 : stated_share (share_answer (given_cable (cable_a 500 100)) 2881) ≡ record { number = 9; kind = no_place; place = 0; values = [] }
unfolding given_cable share_from checked outside_field
stated_9 = refl
