-- Document 01, 'Cases': "the word, low, high, in decimal, a negative number with a leading minus sign. For a refusal it prints `refused`, number, place
-- (0 for none)".
use Rattle.std.specs.Prelude.{◌≡◌, cond, List, [], ◌∷◌, ◌++◌, ℕ, ◌≤◌, eqb, ℤ}
use Rattle.refusals.specs.Stated.{Stated}
use Rattle.refusals.specs.Apart.{parts_of}
use Rattle.refusals.specs.declared.Parts.{Parts}
use Rattle.text.specs.Writing.{decimal_text, signed_text, line_room, line_length, written}
use Rattle.text.specs.declared.Line.{Line}

abbrev space : List ℕ
space = 32 ∷ []

abbrev line_end : List ℕ
line_end = 10 ∷ []

-- "refused "
abbrev refused_word : List ℕ
refused_word = 114 ∷ 101 ∷ 102 ∷ 117 ∷ 115 ∷ 101 ∷ 100 ∷ 32 ∷ []

unfoldable pub refusal_line : ℕ → ℕ → List ℕ
refusal_line number place = (((refused_word ++ decimal_text number) ++ space) ++ decimal_text place) ++ line_end

-- The word and the first value, where an answer of one value ends.
abbrev pub up_to_first : List ℕ → ℤ → List ℕ
up_to_first word first = (word ++ space) ++ signed_text first

abbrev value_line : List ℕ → ℤ → List ℕ
value_line word value = up_to_first word value ++ line_end

abbrev pair_line : List ℕ → ℤ → ℤ → List ℕ
pair_line word low high = ((up_to_first word low ++ space) ++ signed_text high) ++ line_end

-- Which line it is follows from the count of values: a refusal states none.
unfoldable pub answer_line : List ℕ → Parts → List ℕ
answer_line word p =
    cond (eqb p.count 0) (refusal_line p.number p.place)
    (cond (eqb p.count 1) (value_line word p.first)
    (pair_line word p.first p.second))

-- The line of an answer: of what it states, taken apart.
abbrev pub line_of : {Answer : Type 0} → List ℕ → (Answer → Stated) → Answer → List ℕ
line_of word stated answer = answer_line word (parts_of (stated answer))

-- "rise", the word of `rise` and of `rating rise`
abbrev pub rise_word : List ℕ
rise_word = 114 ∷ 105 ∷ 115 ∷ 101 ∷ []

-- What is written in a line, which has room for it.
pub record Says (line : Line) (text : List ℕ) : Type 0 where
  pub says : written line ≡ text
  pub room : line_length line ≤ line_room
