-- Case by case, what the check gives. Assumes nothing.
use Rattle.std.proofs.Common.{◌≡◌, Ok, Err, subst, rules}
use Rattle.sheet_rules.specs.Promises.{GivenBySheet}
use Rattle.sheet_rules.specs.Sheet.{checked_sheet}
use Rattle.sheet_rules.proofs.SheetChecks.{given_by_header, refused_by_sheet}
use Rattle.sheet.proofs.given.Goals as goal

pub returns-in_err-header : goal.returns-in_err-header
returns-in_err-header c =
    let f : checked_sheet c.args.sheet.now ≡ Err c.in_err-header.field-0.0 = search rules in
    let r : Err c.in_err-header.field-0.0 ≡ c.from_residual.result = search rules in
    subst (GivenBySheet c.args.sheet.now) r (refused_by_sheet _ f)

pub returns : goal.returns
returns c =
    let a : checked_sheet c.args.sheet.now ≡ Ok c.in_ok-header.header = search rules in
    given_by_header _ a c.ground_of.ensures
