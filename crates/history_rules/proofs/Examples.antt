-- Worked examples of the rise: document 01, 'The load sheet'. The pairs here are no shares: after m minutes m to m + 2
-- millionths, so that each step's pair is told from another's, and low from high.
use Rattle.std.specs.Prelude.{◌≡◌, refl, List, [], ◌∷◌, ℕ, ◌+◌, ℤ, pos, negsuc}
use Rattle.std.proofs.Common.{le→leb}
use Rattle.numbers.specs.Fraction.{◌∸◌}
use Rattle.numbers.specs.Signed.{max_s, min_s}
use Rattle.numbers.specs.Integer.{lesser, greater}
use Rattle.numbers.specs.Rounding.{floor_z, ceil_z}
use Rattle.bounds.specs.Operations.{add_b, mul_b, divided_b}
use Rattle.bounds.specs.declared.Bounds.{Bounds}
use Rattle.exact.specs.Value.{integer}
use Rattle.cable_rules.specs.Checks.{outside_field, checked, in_use}
use Rattle.refusals.specs.Stated.{no_place, a_record}
use Rattle.refusals.specs.declared.Place.TheVariants as P
use Rattle.sheet_rules.specs.BigEndian.{big_endian}
use Rattle.sheet_rules.specs.Layout.{header_length, wrong_length}
use Rattle.sheet_rules.specs.Header.{cable_of, checked_header}
use Rattle.sheet_rules.specs.Records.{record_at, checked_record}
use Rattle.sheet_rules.specs.Walk.{walk_from}
use Rattle.sheet_rules.specs.Chain.{Step}
use Rattle.sheet_rules.specs.Sheet.{checked_sheet, given_sheet}
use Rattle.history_rules.specs.Rise.{sum_of, rise_of}
use Rattle.history_rules.specs.Exact.{exact_sum, exact_rise, changes, RiseDistance}
use Rattle.history_rules.specs.Answer.{history_of, rise_answer, stated_rise}
use Rattle.history_rules.specs.declared.RiseAnswer.TheVariants.{Rise, Refused}

abbrev pairs : ℕ → Bounds
pairs m = record { low = pos m; high = pos (m + 2) }

abbrev step : ℕ → ℕ → Step
step minutes amperes = record { number = 1; minutes = minutes; amperes = amperes }

abbrev rise : ℤ → ℤ → Bounds
rise low high = record { low = low; high = high }

-- ---- steps, from a starting current and at a rated current

-- no steps: the starting current alone
no_steps : rise_of pairs 300 400 [] ≡ rise (pos 562500) (pos 562500)
unfolding rise_of sum_of add_b divided_b floor_z ceil_z
no_steps = refl

-- steps of 300 A, the starting current, change nothing
same_load : rise_of pairs 300 400 (step 60 300 ∷ step 30 300 ∷ []) ≡ rise (pos 562500) (pos 562500)
unfolding rise_of sum_of add_b mul_b lesser greater divided_b floor_z ceil_z
same_load = refl

-- 100 · 60 to 100 · 62
one_step_up : rise_of pairs 0 2 (step 60 20 ∷ []) ≡ rise (pos 6000) (pos 6200)
unfolding rise_of sum_of add_b mul_b lesser greater divided_b floor_z ceil_z
one_step_up = refl

-- 100 · (1,000,000 - 62) to 100 · (1,000,000 - 60): a falling step takes the high share for low
one_step_down : rise_of pairs 20 2 (step 60 0 ∷ []) ≡ rise (pos 99993800) (pos 99994000)
unfolding rise_of sum_of add_b mul_b lesser greater divided_b floor_z ceil_z
one_step_down = refl

-- (400 · 60 - 300 · 32 + 800 · 10) / 4 and (400 · 62 - 300 · 30 + 800 · 12) / 4
three_steps : rise_of pairs 0 2 (step 60 20 ∷ step 30 10 ∷ step 10 30 ∷ []) ≡ rise (pos 5600) (pos 6350)
unfolding rise_of sum_of add_b mul_b lesser greater divided_b floor_z ceil_z
three_steps = refl

-- (10 - 11) / 49 and (12 - 9) / 49: low is rounded down from a number below 0, and high up
negative_low : rise_of pairs 0 7 (step 10 1 ∷ step 9 0 ∷ []) ≡ rise (negsuc 0) (pos 1)
unfolding rise_of sum_of add_b mul_b lesser greater divided_b floor_z ceil_z
negative_low = refl

-- ---- the distance

-- 400, 300 and 800
three_changes : changes 0 (step 60 20 ∷ step 30 10 ∷ step 10 30 ∷ []) ≡ 1500
unfolding changes
three_changes = refl

no_change : changes 300 [] ≡ 0
unfolding changes
no_change = refl

-- one step of 20 A, where the exact share after m minutes is m millionths: the exact rise is 6,000, and 4·(high − low) at most 2·4 + 50·400 = 20,008
abbrev Near : ℤ → ℤ → Type 0
Near low high = RiseDistance 50 (λ (m : ℕ). integer (pos m)) 0 2 (step 60 20 ∷ []) (rise low high)

-- 4·5,003 is 20,012
too_wide : Near (pos 4000) (pos 9003) → ⊥
unfolding changes
too_wide d = d.width.le

-- one step of 1 A at a rated current of 1 A: 53 is one above 2 + 50
one_too_wide : RiseDistance 50 (λ (m : ℕ). integer (pos m)) 0 1 (step 60 1 ∷ []) (rise (pos 30) (pos 83)) → ⊥
unfolding changes
one_too_wide d = d.width.le

low_above : Near (pos 6001) (pos 6001) → ⊥
unfolding exact_rise exact_sum max_s min_s ◌∸◌
low_above d = le→leb _ _ (d.around.low_at_most.most 1 tt).le.cross

high_below : Near (pos 5999) (pos 5999) → ⊥
unfolding exact_rise exact_sum max_s min_s ◌∸◌
high_below d = le→leb _ _ (d.around.high_at_least.least 1 tt).le.cross

-- ---- the paper's numbers

-- low before high
stated_low_first : (low high : ℤ) → stated_rise (Rise (rise low high)) ≡ record { number = 0; kind = no_place; place = 0; values = low ∷ high ∷ [] }
stated_low_first low high = refl

stated_5 : stated_rise (Refused (record { number = 5; place = P.Record 0 })) ≡ record { number = 5; kind = a_record; place = 0; values = [] }
stated_5 = refl

-- ---- whole sheets

-- cable A, then the starting current and what follows it
abbrev sheet_with : List ℕ → List ℕ
sheet_with rest = 0 ∷ 0 ∷ 1 ∷ 244 ∷ 0 ∷ 0 ∷ 3 ∷ 232 ∷ 0 ∷ 0 ∷ 1 ∷ 244 ∷ 0 ∷ 9 ∷ 39 ∷ 192 ∷ 0 ∷ 7 ∷ 161 ∷ 32 ∷ 0 ∷ 0 ∷ 3 ∷ 232 ∷ 0 ∷ 0 ∷ 0 ∷ 100 ∷ 0 ∷ 0 ∷ 1 ∷ 144 ∷ rest

-- 200 A of the rated 400 A, for ever
steady : rise_answer (history_of (sheet_with (0 ∷ 200 ∷ 0 ∷ 0 ∷ []))) ≡ Rise (rise (pos 250000) (pos 250000))
unfolding header_length rise_answer given_sheet checked_sheet checked_header wrong_length checked outside_field cable_of big_endian walk_from rise_of sum_of add_b divided_b floor_z ceil_z in_use
steady = refl

-- the header passes, and the first link leads to no record
no_such_record : rise_answer (history_of (sheet_with (0 ∷ 200 ∷ 0 ∷ 1 ∷ []))) ≡ Refused (record { number = 5; place = P.Record 0 })
unfolding header_length rise_answer given_sheet checked_sheet checked_header wrong_length checked outside_field cable_of big_endian walk_from checked_record record_at
no_such_record = refl

-- nothing at all
empty : rise_answer (history_of []) ≡ Refused (record { number = 1; place = P.None })
unfolding header_length rise_answer given_sheet checked_sheet checked_header wrong_length
empty = refl
