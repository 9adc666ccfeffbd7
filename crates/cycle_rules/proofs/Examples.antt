-- Worked examples of the daily cycle: document 01, 'The daily cycle', 'When the desk is told no', numbers 10 and 11, and 'Wrong turns that look
-- sensible'; document 02, note 1. The shares are pairs given by hand.
use Rattle.std.specs.Prelude.{◌≡◌, refl, List, [], ◌∷◌, ℕ, zero, suc, pos}
use Rattle.std.proofs.Common.{arith, le→leb}
use Rattle.numbers.specs.Fraction.{whole}
use Rattle.numbers.specs.Signed.{max_s, min_s}
use Rattle.numbers.specs.Integer.{lesser, greater}
use Rattle.numbers.specs.Rounding.{floor_z, ceil_z}
use Rattle.numbers.specs.Largest.{largest}
use Rattle.bounds.specs.Operations.{add_b, mul_b, divided_b}
use Rattle.bounds.specs.declared.Bounds.{Bounds}
use Rattle.exact.specs.Value.{number}
use Rattle.refusals.specs.Stated.{no_place, an_hour}
use Rattle.refusals.specs.declared.Place.TheVariants.{None}
use Rattle.cable_rules.specs.Checks.{checked, outside_field}
use Rattle.cable_rules.specs.Group.{Group, given_cable}
use Rattle.cable_rules.specs.declared.Cable.{Cable}
use Rattle.share_rules.specs.Pair.{share_pair}
use Rattle.cycle_rules.specs.Day.{highest_load, highest_of, earlier, squared_loads}
use Rattle.cycle_rules.specs.Heating.{relative_load, gathered_bounds, heating_bounds, heating_sum, latest_largest, reference_hour}
use Rattle.cycle_rules.specs.Factor.{allowed, largest_factor}
use Rattle.cycle_rules.specs.Exact.{FactorDistance}
use Rattle.cycle_rules.specs.Answer.{hour_pair, refused10, refused11, factor_from, factor_answer, stated_factor}
use Rattle.cycle_rules.specs.declared.FactorAnswer.TheVariants.{Factor, Refused}

-- n hours of x amperes, then the rest
abbrev of : ℕ → ℕ → List ℕ → List ℕ
of zero x rest = rest
of (suc n) x rest = x ∷ of n x rest

abbrev pair : ℕ → ℕ → Bounds
pair low high = record { low = pos low; high = pos high }

-- G rises by 100,000 millionths an hour, with 40 of doubt
abbrev rising : ℕ → Bounds
rising zero = pair 0 0
rising (suc zero) = pair 100000 100040
rising (suc (suc zero)) = pair 200000 200040
rising (suc (suc (suc zero))) = pair 300000 300040
rising (suc (suc (suc (suc zero)))) = pair 400000 400040
rising (suc (suc (suc (suc (suc zero))))) = pair 500000 500040
rising (suc (suc (suc (suc (suc (suc n)))))) = pair 600000 600040

-- ---- the highest load and the hours before an hour

highest_at_23 : highest_load (of 3 100 (of 2 300 (of 18 100 (of 1 301 [])))) ≡ 301
unfolding highest_of
highest_at_23 = refl

before_midnight : earlier 0 1 ≡ 23
before_midnight = refl

five_before_two : earlier 2 5 ≡ 21
five_before_two = refl

hour_itself : earlier 7 0 ≡ 7
hour_itself = refl

-- hour 0 is the reference hour; the hour before it is 23, with half the load
across_midnight : relative_load (of 1 2 (of 22 0 (of 1 1 []))) 0 1 ≡ 24
unfolding relative_load squared_loads
across_midnight = refl

-- at 6 it is the mean
mean_at_six : relative_load (of 1 2 (of 22 0 (of 1 1 []))) 0 6 ≡ 5
unfolding relative_load squared_loads
mean_at_six = refl

-- ---- the sum

-- an even load: nothing multiplies any share, and the sum is 1 whatever the pairs are
even_load : heating_sum rising (of 24 200 []) 23 ≡ pos 1000000
unfolding heating_bounds gathered_bounds relative_load squared_loads highest_of add_b mul_b divided_b floor_z ceil_z lesser greater
even_load = refl

-- one hour loaded: (24·G(1) − G(6) + 1,000,000) / 24 with the high G(1) and the low G(6), 116,706.67 rounded up
one_hour_lem : heating_sum rising (of 7 0 (of 1 400 (of 16 0 []))) 7 ≡ pos 116707
unfolding heating_bounds gathered_bounds relative_load squared_loads highest_of add_b mul_b divided_b floor_z ceil_z lesser greater
one_hour_lem = refl

-- (72·G(1) + 24·G(2) − 5·G(6) + 5,000,000) / 96 is 145,873.33
sum_across_midnight : heating_sum rising (of 1 2 (of 22 0 (of 1 1 []))) 0 ≡ pos 145874
unfolding heating_bounds gathered_bounds relative_load squared_loads highest_of add_b mul_b divided_b floor_z ceil_z lesser greater
sum_across_midnight = refl

-- another reference hour, where Y0 is below 1: (−192·G(1) + 216·G(2) − 10·G(6) + 10,000,000) / 216 is 129,669.63
another_hour : heating_sum rising (of 1 3 (of 1 1 (of 22 0 []))) 1 ≡ pos 129670
unfolding heating_bounds gathered_bounds relative_load squared_loads highest_of add_b mul_b divided_b floor_z ceil_z lesser greater
another_hour = refl

-- ---- the hottest hour

-- "A farm with a long evening plateau and a short, slightly higher morning peak was rated at the peak": 380 A in hours 16 to 21, 400 A in hour 7
abbrev plateau : List ℕ
plateau = of 7 0 (of 1 400 (of 8 0 (of 6 380 (of 2 0 []))))

-- "The conductor is hottest at the end of the plateau."
end_of_plateau : reference_hour rising plateau ≡ 21
unfolding latest_largest heating_bounds gathered_bounds relative_load squared_loads highest_of add_b mul_b divided_b floor_z ceil_z lesser greater
end_of_plateau = refl

-- six equal hours from 21 to 2: the last of the run is the hottest, and not hour 23, the latest of the highest load
across_the_night : reference_hour rising (of 3 400 (of 18 0 (of 3 400 []))) ≡ 2
unfolding latest_largest heating_bounds gathered_bounds relative_load squared_loads highest_of add_b mul_b divided_b floor_z ceil_z lesser greater
across_the_night = refl

-- all hours are equally hot: the latest
latest_of_equally_hot : reference_hour rising (of 24 200 []) ≡ 23
unfolding latest_largest heating_bounds gathered_bounds relative_load squared_loads highest_of add_b mul_b divided_b floor_z ceil_z lesser greater
latest_of_equally_hot = refl

-- ---- the factor

factor_of_one : largest_factor (pos 1000000) ≡ 1000
unfolding largest allowed
factor_of_one = refl

-- a millionth more: 999, and not raised to 1,000
factor_of_more : largest_factor (pos 1000001) ≡ 999
unfolding largest allowed
factor_of_more = refl

most_factor_lem : largest_factor (pos 40000) ≡ 5000
unfolding largest allowed
most_factor_lem = refl

below_most_factor : largest_factor (pos 40001) ≡ 4999
unfolding largest allowed
below_most_factor = refl

factor_of_nothing : largest_factor (pos 0) ≡ 5000
unfolding largest allowed
factor_of_nothing = refl

even_factor : factor_from rising (of 24 200 []) ≡ Factor 1000
unfolding factor_from latest_largest heating_bounds gathered_bounds relative_load squared_loads highest_of add_b mul_b divided_b floor_z ceil_z lesser greater largest allowed
even_factor = refl

-- (2,439,200·G(6) + 1,026,400·1,000,000) / 3,840,000 with the high G(6) is 648,442.075; at hour 7 the sum is 206,957, and the factor would be 2,198
plateau_factor : factor_from rising plateau ≡ Factor 1241
unfolding factor_from latest_largest heating_bounds gathered_bounds relative_load squared_loads highest_of add_b mul_b divided_b floor_z ceil_z lesser greater largest allowed
plateau_factor = refl

-- shares that are all but 1: (24·G(1) − G(6) + 1,000,000) / 24 passes 1,000,000
abbrev nearly : ℕ → Bounds
nearly hour = pair 999999 1000000

nearly_even : factor_from nearly (of 1 400 (of 23 0 [])) ≡ Factor 999
unfolding factor_from latest_largest heating_bounds gathered_bounds relative_load squared_loads highest_of add_b mul_b divided_b floor_z ceil_z lesser greater largest allowed
nearly_even = refl

-- ---- the distance

-- an exact sum of 1: the exact factor is 1,000 thousandths
abbrev Near : ℕ → Type 0
Near m = FactorDistance 50 (number (whole 1000000)) m

-- 5,000²·10^6 and 1,001²·10^6 are above 10^12
cap_not_near : Near 5000 → ⊥
unfolding max_s min_s
cap_not_near d = le→leb _ _ (d.not_above.least 1 tt).le.cross

above_not_near : Near 1001 → ⊥
unfolding max_s min_s
above_not_near d = le→leb _ _ (d.not_above.least 1 tt).le.cross

-- 999²·(10^6 + 301) is below 10^12
below_not_near : Near 998 → ⊥
unfolding max_s min_s
below_not_near d = le→leb _ _ ((d.larger_above (omega arith) 999 (omega arith)).most 1 tt).le.cross

-- 5,000²·(39,699 + 301) is 10^12 and no more: 5,000 is asked of a factor of 4,999
under_the_cap : FactorDistance 50 (number (whole 39699)) 4999 → ⊥
unfolding max_s min_s
under_the_cap d = le→leb _ _ ((d.larger_above (omega arith) 5000 (omega arith)).most 1 tt).le.cross

-- ---- "G at whole hours"

two_hours : (g : Group) → hour_pair g 2 ≡ share_pair g 120
two_hours g = refl

-- ---- refusals

-- "hour 5 with 4,001"
hour_five : factor_from rising (of 5 0 (of 1 4001 (of 18 0 []))) ≡ Refused (refused10 5)
unfolding factor_from
hour_five = refl

first_of_two : factor_from rising (of 5 4000 (of 1 4001 (of 17 100 (of 1 5000 [])))) ≡ Refused (refused10 5)
unfolding factor_from
first_of_two = refl

last_hour : factor_from rising (of 23 0 (of 1 4001 [])) ≡ Refused (refused10 23)
unfolding factor_from
last_hour = refl

most_amperes_lem : factor_from rising (of 24 4000 []) ≡ Factor 1000
unfolding factor_from latest_largest heating_bounds gathered_bounds relative_load squared_loads highest_of add_b mul_b divided_b floor_z ceil_z lesser greater largest allowed
most_amperes_lem = refl

-- "24 zeros"
no_load : factor_from rising (of 24 0 []) ≡ Refused refused11
unfolding factor_from
no_load = refl

-- cable A of 'Cases', with another slow rate
abbrev cable_a : ℕ → Cable
cable_a slow =
    record {
      diameter = 500;
      depth = 1000;
      diffusivity = 500;
      surface_ratio = 600000;
      fast_weight = 500000;
      fast_rate = 1000;
      slow_rate = slow;
      rated = 400;
    }

-- 3 before 10
check_first : factor_answer (given_cable (cable_a 1001)) (of 24 4001 []) ≡ Refused (record { number = 3; place = None })
unfolding given_cable checked outside_field
check_first = refl

-- 10 where the checks pass
check_passed : factor_answer (given_cable (cable_a 1000)) (of 24 4001 []) ≡ Refused (refused10 0)
unfolding given_cable checked outside_field factor_from
check_passed = refl

-- ---- the paper's numbers

stated_factor_lem : (m : ℕ) → stated_factor (Factor m) ≡ record { number = 0; kind = no_place; place = 0; values = pos m ∷ [] }
stated_factor_lem m = refl

stated_10 : stated_factor (Refused (refused10 0)) ≡ record { number = 10; kind = an_hour; place = 0; values = [] }
stated_10 = refl

stated_11 : stated_factor (Refused refused11) ≡ record { number = 11; kind = no_place; place = 0; values = [] }
stated_11 = refl
