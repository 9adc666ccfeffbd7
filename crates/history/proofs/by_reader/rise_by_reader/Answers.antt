-- As in `rise`, and the header's own record is read by the reader.
use Rattle.std.proofs.Common.{◌≡◌, Ok, sym, ◌∙◌}
use Rattle.sheet_rules.specs.Sheet.{checked_sheet}
use Rattle.history_rules.proofs.Walk.{sheet_refused, begins_read, header_not_missing}
use Rattle.history_rules.proofs.Said.{said}
use Rattle.history.proofs.by_reader.rise_by_reader.Goals as goal

pub returns-in_default : goal.returns-in_default
returns-in_default c =
    let accepted : checked_sheet c.args.sheet.now ≡ Ok c.in-Ok.header = sym c.check_sheet-checked.ensures.answer ∙ c.in-Ok.is in
    absurd (header_not_missing _ accepted (sym c.record_read-read.ensures.answer ∙ c.in_default.is))

pub walked-requires-clause-begins : goal.walked-requires-clause-begins
walked-requires-clause-begins c =
    let accepted : checked_sheet c.args.sheet.now ≡ Ok c.in-Ok.header = sym c.check_sheet-checked.ensures.answer ∙ c.in-Ok.is in
    begins_read _ accepted c.ground_of-ground.ensures (sym c.record_read-read.ensures.answer ∙ c.in-Some.is)

pub returns-in-Err : goal.returns-in-Err
returns-in-Err c =
    said _ (sheet_refused _ (sym c.check_sheet-checked.ensures.answer ∙ c.in-Err.is))
