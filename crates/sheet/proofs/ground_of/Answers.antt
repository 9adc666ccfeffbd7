-- All of an accepted sheet is accepted. Assumes nothing.
use Rattle.std.proofs.Common.{rules}
use Rattle.sheet_rules.proofs.SheetChecks.{accepted_sheet, trench_laid}
use Rattle.sheet.proofs.ground_of.Goals as goal

pub invariant_of-result : goal.invariant_of-result
invariant_of-result c = record { laid = search (rules, trench_laid, accepted_sheet) }
