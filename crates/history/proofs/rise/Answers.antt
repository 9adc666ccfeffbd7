-- The sheet's refusal passes out; an accepted sheet goes to the walk.
use Rattle.std.proofs.Common.{sym, ◌∙◌}
use Rattle.history_rules.proofs.Walk.{sheet_refused}
use Rattle.history_rules.proofs.Said.{said}
use Rattle.history.proofs.rise.Goals as goal

pub returns-in-Err : goal.returns-in-Err
returns-in-Err c =
    said _ (sheet_refused _ (sym c.check_sheet-checked.ensures.answer ∙ c.in-Err.is))
