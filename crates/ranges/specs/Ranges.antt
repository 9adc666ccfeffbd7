-- Document 01, 'When the desk is told no': the range of an input, and the first input outside its range.
use Rattle.std.specs.Prelude.{Bool, true, false, cond, ◌&&◌, ◌||◌, List, [], ◌∷◌, map, ℕ, suc, eqb, ltb, get_or, Option, Some, None}

-- The least and the greatest value of an input, and whether 0 is a value besides.
pub record Range : Type 0 where
  pub low : ℕ
  pub high : ℕ
  pub zero_too : Bool

infix 70 ◌to◌
abbrev pub ◌to◌ : ℕ → ℕ → Range
low to high = record { low = low; high = high; zero_too = false }

-- "or 0"
abbrev pub or_zero : Range → Range
or_zero r = record { low = r.low; high = r.high; zero_too = true }

abbrev pub outside : Range → ℕ → Bool
outside r x = cond (r.zero_too && eqb x 0) false (ltb x r.low || ltb r.high x)

-- The range of a pair: its least value, then its greatest.
abbrev pub range_of : List ℕ → Range
range_of pair = get_or pair 0 0 to get_or pair 1 0

abbrev pub ranges_of : List (List ℕ) → List Range
ranges_of pairs = map range_of pairs

-- "field outside its range, first such": the number of the first value outside its range, counted from k, if there is one.
abbrev pub first_outside : ℕ → List Range → List ℕ → Option ℕ
first_outside k (r ∷ rs) (x ∷ xs) = cond (outside r x) (Some k) (first_outside (suc k) rs xs)
first_outside k (r ∷ rs) [] = None
first_outside k [] xs = None
