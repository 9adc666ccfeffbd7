-- The line of each answer: a word and its values, or its refusal; and the line of numbers, by an answer of which all is said that its calculation promises.
use Rattle.std.specs.Prelude.{List, ℕ, ◌+◌, get_or}
use Rattle.lines.specs.Lines.{Says, line_of}
use Rattle.text.specs.declared.Line.{Line}
use Rattle.share_rules.specs.declared.ShareAnswer.{ShareAnswer}
use Rattle.cycle_rules.specs.declared.FactorAnswer.{FactorAnswer}
use Rattle.emergency_rules.specs.declared.CurrentAnswer.{CurrentAnswer}
use Rattle.cable_rules.specs.Checks.{cable_from}
use Rattle.cable_rules.specs.Group.{Given, given_cable}
use Rattle.sheet_rules.specs.Sheet.{given_sheet}
use Rattle.share_rules.specs.Answer.{stated_share, ShareSaid}
use Rattle.cycle_rules.specs.Answer.{stated_factor, FactorSaid}
use Rattle.emergency_rules.specs.Answer.{stated_current, CurrentSaid}
use Rattle.commands.specs.Names.{share_word, factor_word, current_word}
use Rattle.words.specs.Words.{cable_fields}
use Rattle.asked.specs.Hours.{HoursFrom}
use Rattle.commands.specs.declared.Asked.{Asked}
use Rattle.commands.specs.declared.Asked.TheVariants.{Share, Factor, Current}

abbrev pub share_line : ShareAnswer → List ℕ
share_line answer = line_of share_word stated_share answer

abbrev pub factor_line : FactorAnswer → List ℕ
factor_line answer = line_of factor_word stated_factor answer

abbrev pub current_line : CurrentAnswer → List ℕ
current_line answer = line_of current_word stated_current answer

-- the factor of the hours that stand from a place on
pub record FactorOf (given : Given) (from : ℕ) (values : List ℕ) (answer : FactorAnswer) : Type 0 where
  pub hours : List ℕ
  pub are : HoursFrom from values hours
  pub said : FactorSaid given hours answer

pub record Answers {Answer : Type 0} (Said : Answer → Type 0) (text : Answer → List ℕ) (line : Line) : Type 0 where
  pub answer : Answer
  pub said : Said answer
  pub printed : Says line (text answer)

-- what is asked of a cable, with the numbers after its eight fields
abbrev pub OfCable : Asked → List ℕ → Line → Type 0
OfCable Share values line = Answers (ShareSaid (given_cable (cable_from values)) (get_or values cable_fields 0)) share_line line
OfCable Factor values line = Answers (FactorOf (given_cable (cable_from values)) cable_fields values) factor_line line
OfCable Current values line = Answers (CurrentSaid (given_cable (cable_from values)) (get_or values cable_fields 0) (get_or values (cable_fields + 1) 0) (get_or values (cable_fields + 2) 0)) current_line line

-- what is asked of the bytes of a sheet, with the numbers after its name
abbrev pub InSheet : Asked → List ℕ → List ℕ → Line → Type 0
InSheet Share s values line = Answers (ShareSaid (given_sheet s) (get_or values 0 0)) share_line line
InSheet Factor s values line = Answers (FactorOf (given_sheet s) 0 values) factor_line line
InSheet Current s values line = Answers (CurrentSaid (given_sheet s) (get_or values 0 0) (get_or values 1 0) (get_or values 2 0)) current_line line
