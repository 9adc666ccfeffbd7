-- Document 01, 'When the desk is told no': "A refusal is its number and a place, and nothing else." What an answer states, as the five numbers that C
-- and Rust are handed.
use Rattle.std.specs.Prelude.{◌≡◌, List, [], ◌∷◌, ℤ, pos, get_or}
use Rattle.refusals.specs.Stated.{Stated, kind_number}
use Rattle.refusals.specs.declared.Parts.{Parts}

-- The number of the refusal, the kind and the number of its place, then the values, with 0 where there is none.
abbrev pub crossing : Stated → List ℤ
crossing s =
    pos s.number ∷ pos (kind_number s.kind) ∷ pos s.place ∷ get_or s.values 0 (pos 0) ∷ get_or s.values 1 (pos 0) ∷ []

-- The same five, from the parts of an answer; `crossing` stays as the header of the library reads.
abbrev pub five_of : Parts → List ℤ
five_of p = pos p.number ∷ pos p.kind ∷ pos p.place ∷ p.first ∷ p.second ∷ []

-- Some numbers are those of an answer, of which all is said that the calculation promises.
pub record Crosses {Answer : Type 0} (Said : Answer → Type 0) (stated : Answer → Stated) (numbers : List ℤ) : Type 0 where
  pub answer : Answer
  pub said : Said answer
  pub crossed : numbers ≡ crossing (stated answer)
