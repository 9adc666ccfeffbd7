-- What is known of the numbers among the words. Which words were typed no contract can say.
use Rattle.std.specs.Prelude.{◌≡◌, Bool, true, false, cond, not, List, ℕ, ◌+◌, ◌≤◌, eqb, get_or, Result, Ok, Err, IfOk}
use Rattle.cycle_rules.specs.Day.{day_hours}
use Rattle.words.specs.declared.Fault.{Fault}
use Rattle.words.specs.declared.Fault.TheVariants.{Count, NotWhole}

abbrev pub cable_fields : ℕ
cable_fields = 8

-- a cable and its hours, the most that a calculation takes
abbrev pub numbers_room : ℕ
numbers_room = cable_fields + day_hours

abbrev pub miscounted : Result (List ℕ) Fault → Bool
miscounted (Ok values) = false
miscounted (Err Count) = true
miscounted (Err (NotWhole k)) = false

-- A word that is no whole number is one of the wanted, counted from 1.
abbrev pub Among : ℕ → Result (List ℕ) Fault → Type 0
Among wanted (Ok values) = Unit {0}
Among wanted (Err Count) = Unit {0}
Among wanted (Err (NotWhole k)) = (1 ≤ k) × (k ≤ wanted)

abbrev pub ZeroFrom : ℕ → List ℕ → Type 0
ZeroFrom start values = (k : ℕ) → start ≤ k → get_or values k 0 ≡ 0

-- the program's own name and the command stand before the numbers, and where a file is named its name
abbrev pub after_command : ℕ
after_command = 2

abbrev pub after_file : ℕ
after_file = 3

abbrev pub first_number : Bool → ℕ
first_number named = cond named after_file after_command

pub record ReadSaid (words : ℕ) (named : Bool) (wanted : ℕ) (r : Result (List ℕ) Fault) : Type 0 where
  pub count : miscounted r ≡ not (eqb words (first_number named + wanted))
  pub faulty : Among wanted r
  pub rest : IfOk r (ZeroFrom wanted)
