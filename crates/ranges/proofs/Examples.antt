-- Worked examples, document 01, 'When the desk is told no': the first value outside its range.
use Rattle.std.specs.Prelude.{◌≡◌, refl, List, [], ◌∷◌, Some, None}
use Rattle.ranges.specs.Ranges.{Range, ◌to◌, or_zero, ranges_of, first_outside}

abbrev three : List Range
three = 5 to 9 ∷ 1 to 3 ∷ or_zero (100 to 2000) ∷ []

-- a range has its least and its greatest value
least_values : first_outside 1 three (5 ∷ 1 ∷ 100 ∷ []) ≡ None
least_values = refl

greatest_values : first_outside 1 three (9 ∷ 3 ∷ 2000 ∷ []) ≡ None
greatest_values = refl

first_below : first_outside 1 three (4 ∷ 1 ∷ 100 ∷ []) ≡ Some 1
first_below = refl

last_above : first_outside 1 three (9 ∷ 3 ∷ 2001 ∷ []) ≡ Some 3
last_above = refl

-- "first such"
first_of_two : first_outside 1 three (5 ∷ 4 ∷ 99 ∷ []) ≡ Some 2
first_of_two = refl

-- "or 0"
zero_besides : first_outside 1 three (5 ∷ 1 ∷ 0 ∷ []) ≡ None
zero_besides = refl

-- "No other zero means missing"
another_zero : first_outside 1 three (5 ∷ 0 ∷ 0 ∷ []) ≡ Some 2
another_zero = refl

-- a pair is least, then greatest
pairs : ranges_of ((5 ∷ 9 ∷ []) ∷ (1 ∷ 3 ∷ []) ∷ []) ≡ 5 to 9 ∷ 1 to 3 ∷ []
pairs = refl
