-- `share::share` answers for what a cable gives. Assumes nothing.
use mathlib.Core.Path.{sym}
use Rattle.cable_rules.proofs.Acceptance.{given_sound}
use Rattle.share_rules.proofs.Answers.{answer_given}
use Rattle.share_rules.proofs.Promises.{said}
use Rattle.share.proofs.share.Goals as goal

pub returns : goal.returns
returns c = said (given_sound _) (answer_given _ (sym c.given_alone.ensures.answer) c.share_given.ensures)
