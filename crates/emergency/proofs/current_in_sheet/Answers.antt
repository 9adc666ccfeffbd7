-- `emergency::current_in_sheet` answers for what a sheet gives. Assumes nothing.
use mathlib.Core.Path.{sym}
use Rattle.sheet_rules.proofs.SheetChecks.{sheet_sound}
use Rattle.emergency_rules.proofs.Answers.{answer_given}
use Rattle.emergency_rules.proofs.Said.{said}
use Rattle.emergency.proofs.current_in_sheet.Goals as goal

pub returns : goal.returns
returns c = said (sheet_sound _) (answer_given _ _ _ (sym c.given.ensures.answer) c.current_given.ensures)
