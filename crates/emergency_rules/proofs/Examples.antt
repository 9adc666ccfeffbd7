-- Worked examples of the certifying rule and of the refusals: document 01, 'The emergency current', 'When the desk is told no', numbers 9, 12 and 13.
-- Where a share is given it is a pair by hand.
use Rattle.std.specs.Prelude.{◌≡◌, refl, true, false, [], ◌∷◌, ℕ, pos}
use Rattle.std.proofs.Common.{arith, le→leb}
use Rattle.numbers.specs.Fraction.{whole}
use Rattle.numbers.specs.Signed.{max_s, min_s}
use Rattle.numbers.specs.Largest.{largest}
use Rattle.bounds.specs.declared.Bounds.{Bounds}
use Rattle.exact.specs.Value.{number}
use Rattle.refusals.specs.Stated.{no_place, an_input}
use Rattle.refusals.specs.declared.Place.TheVariants.{None, Field}
use Rattle.cable_rules.specs.Checks.{checked, outside_field}
use Rattle.cable_rules.specs.Group.{given_cable}
use Rattle.cable_rules.specs.declared.Cable.{Cable}
use Rattle.share_rules.specs.Answer.{refused9, share_from}
use Rattle.share_rules.specs.declared.ShareAnswer.TheVariants as S
use Rattle.emergency_rules.specs.Certifying.{certified}
use Rattle.emergency_rules.specs.Exact.{CurrentDistance}
use Rattle.emergency_rules.specs.Answer.{refused12, refused13, current_from, after_share, current_of, current_answer, stated_current}
use Rattle.emergency_rules.specs.declared.CurrentAnswer.TheVariants.{Current, Refused}

abbrev pair : ℕ → ℕ → Bounds
pair low high = record { low = pos low; high = pos high }

-- ---- the rule

-- a preload of the rated current up to the rated rise: the rated current keeps it, and one ampere more does not
rated_keeps : certified 400 100 100 (pos 340186) 400 ≡ true
unfolding certified
rated_keeps = refl

above_rated_breaks : certified 400 100 100 (pos 340186) 401 ≡ false
unfolding certified
above_rated_breaks = refl

-- Where the largest is asked for, the rated current is such that it lies near the cap, from which it is sought: few amperes are tried.
rated_itself : current_from 9990 100 100 (pair 340185 340186) ≡ Current 9990
unfolding current_from largest certified
rated_itself = refl

-- 5,626 · √(0.5625 + 0.6375 / 0.245732) is between 9,995 and 9,996; the low share would give more
from_the_high_share : current_from 5626 75 120 (pair 0 245732) ≡ Current 9995
unfolding current_from largest certified
from_the_high_share = refl

-- a share of nothing certifies every current
nothing_attained : current_from 400 75 120 (pair 0 0) ≡ Current 10000
unfolding current_from largest certified
nothing_attained = refl

-- ---- the distance

-- the rated current and an exact share of 340,186 millionths: nothing is left up to the limit, so 400 A is the exact answer
abbrev Near : ℕ → Type 0
Near i = CurrentDistance 50 400 100 100 (number (whole 340186)) i

cap_not_near : Near 10000 → ⊥
unfolding max_s min_s
cap_not_near d = le→leb _ _ (d.keeps.least 1 tt).le.cross

above_not_near : Near 401 → ⊥
unfolding max_s min_s
above_not_near d = le→leb _ _ (d.keeps.least 1 tt).le.cross

-- 400 A, larger, does not break it
below_not_near : Near 399 → ⊥
unfolding max_s min_s
below_not_near d = le→leb _ _ ((d.larger_breaks (omega arith) 400 (omega arith)).most 1 tt).le.cross

-- a share of 350 millionths and 50 more: with 10,000 A both sides are 4·10^14, so 10,000 A is asked of a current of 9,999 A
under_the_cap : CurrentDistance 50 2000 0 1 (number (whole 350)) 9999 → ⊥
unfolding max_s min_s
under_the_cap d = le→leb _ _ ((d.larger_breaks (omega arith) 10000 (omega arith)).most 1 tt).le.cross

-- ---- 13: h² against 100·r

equality_accepted : current_from 19960 50 25 (pair 340185 340186) ≡ Current 9980
unfolding current_from largest certified
equality_accepted = refl

-- half of it is no whole number of amperes
odd_rated : current_from 19961 50 25 (pair 340185 340186) ≡ Current 9980
unfolding current_from largest certified
odd_rated = refl

too_hot_lem : current_from 400 51 25 (pair 340185 340186) ≡ Refused refused13
unfolding current_from
too_hot_lem = refl

-- ---- 12: the ends of the ranges, and h before r

most_preload : current_from 50 200 200 (pair 0 1000000) ≡ Refused refused13
unfolding current_from
most_preload = refl

preload_201 : current_from 400 201 100 (pair 0 1000000) ≡ Refused (refused12 1)
unfolding current_from
preload_201 = refl

limit_0 : current_from 400 0 0 (pair 0 1000000) ≡ Refused (refused12 2)
unfolding current_from
limit_0 = refl

limit_201 : current_from 400 0 201 (pair 0 1000000) ≡ Refused (refused12 2)
unfolding current_from
limit_201 = refl

-- a tenth of the rated current
least_limit : current_from 99700 0 1 (pair 999999 1000000) ≡ Current 9970
unfolding current_from largest certified
least_limit = refl

-- 7,050 · √2 is between 9,970 and 9,971
most_limit : current_from 7050 0 200 (pair 999999 1000000) ≡ Current 9970
unfolding current_from largest certified
most_limit = refl

preload_before_limit : current_from 400 201 0 (pair 0 1000000) ≡ Refused (refused12 1)
unfolding current_from
preload_before_limit = refl

-- ---- the order: 2 and 3 before 9, 9 before 12, 12 before 13

-- cable A of 'Cases', with another diameter and another slow rate
abbrev cable_a : ℕ → ℕ → Cable
cable_a diameter slow =
    record {
      diameter = diameter;
      depth = 1000;
      diffusivity = 500;
      surface_ratio = 600000;
      fast_weight = 500000;
      fast_rate = 1000;
      slow_rate = slow;
      rated = 400;
    }

field_first : current_answer (given_cable (cable_a 99 1001)) 201 0 2881 ≡ Refused (record { number = 2; place = Field 1 })
unfolding given_cable checked outside_field
field_first = refl

rates_before_minutes : current_answer (given_cable (cable_a 500 1001)) 201 0 2881 ≡ Refused (record { number = 3; place = None })
unfolding given_cable checked outside_field
rates_before_minutes = refl

minutes_before_preload : current_answer (given_cable (cable_a 500 100)) 201 0 2881 ≡ Refused refused9
unfolding given_cable checked outside_field current_of share_from
minutes_before_preload = refl

share_first : after_share 400 201 100 (S.Refused refused9) ≡ Refused refused9
share_first = refl

limit_before_heat : current_from 400 1 0 (pair 0 1000000) ≡ Refused (refused12 2)
unfolding current_from
limit_before_heat = refl

-- ---- the paper's numbers

stated_current_lem : (i : ℕ) → stated_current (Current i) ≡ record { number = 0; kind = no_place; place = 0; values = pos i ∷ [] }
stated_current_lem i = refl

stated_12 : stated_current (Refused (refused12 2)) ≡ record { number = 12; kind = an_input; place = 2; values = [] }
stated_12 = refl

stated_13 : stated_current (Refused refused13) ≡ record { number = 13; kind = no_place; place = 0; values = [] }
stated_13 = refl
