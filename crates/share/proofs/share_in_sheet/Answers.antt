-- `share::share_in_sheet` answers for what a sheet gives. Assumes nothing.
use mathlib.Core.Path.{sym}
use Rattle.sheet_rules.proofs.SheetChecks.{sheet_sound}
use Rattle.share_rules.proofs.Answers.{answer_given}
use Rattle.share_rules.proofs.Promises.{said}
use Rattle.share.proofs.share_in_sheet.Goals as goal

pub returns : goal.returns
returns c = said (sheet_sound _) (answer_given _ (sym c.given.ensures.answer) c.share_given.ensures)
