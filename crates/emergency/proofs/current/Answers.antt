-- `emergency::current` answers for what a cable gives. Assumes nothing.
use mathlib.Core.Path.{sym}
use Rattle.cable_rules.proofs.Acceptance.{given_sound}
use Rattle.emergency_rules.proofs.Answers.{answer_given}
use Rattle.emergency_rules.proofs.Said.{said}
use Rattle.emergency.proofs.current.Goals as goal

pub returns : goal.returns
returns c = said (given_sound _) (answer_given _ _ _ (sym c.given_alone.ensures.answer) c.current_given.ensures)
