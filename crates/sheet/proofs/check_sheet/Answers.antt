-- Each return is one of the definition's ways out. Assumes nothing.
use Rattle.std.proofs.Common.{◌≡◌, Ok, Err, sym, ap, ◌∙◌, rules}
use Rattle.sheet_rules.specs.Header.{checked_header}
use Rattle.sheet_rules.specs.Chain.{load_walk}
use Rattle.sheet_rules.specs.Records.{origin}
use Rattle.sheet_rules.specs.Neighbours.{trench_of}
use Rattle.sheet_rules.specs.Promises.{outcome_of}
use Rattle.sheet_rules.proofs.SheetChecks.{header_refused, load_walk_lem, neighbour_walk_lem, load_refused, neighbours_refused, sheet_accepted, in_ground}
use Rattle.sheet.proofs.check_sheet.Goals as goal

pub returns-in_err-header : goal.returns-in_err-header
returns-in_err-header c =
    let r : c.from_residual.result ≡ Err c.in_err-header.field-0.0 = search rules in
    record { answer = r ∙ header_refused _ (sym c.check_header.ensures.answer ∙ c.in_err-header.was) }

pub check_chain-requires : goal.check_chain-requires
check_chain-requires c =
    let passed : checked_header c.args.sheet.now ≡ Ok c.in_ok-header.header = sym c.check_header.ensures.answer ∙ c.in_ok-header.was in
    in_ground _ passed

pub returns-in_err-check_chain : goal.returns-in_err-check_chain
returns-in_err-check_chain c =
    let passed : checked_header c.args.sheet.now ≡ Ok c.in_ok-header.header = sym c.check_header.ensures.answer ∙ c.in_ok-header.was in
    let load_is : c.check_chain.result ≡ outcome_of (load_walk c.args.sheet.now (origin c.args.sheet.now)) = c.check_chain.ensures ∙ ap outcome_of (load_walk_lem _ passed c.before_first-load.ensures) in
    let r : c.from_residual-in_err-check_chain.result ≡ Err c.in_err-check_chain.field-0.0 = search rules in
    record { answer = r ∙ load_refused _ passed (sym load_is ∙ c.in_err-check_chain.was) }

pub check_chain-requires-2 : goal.check_chain-requires-2
check_chain-requires-2 c =
    let passed : checked_header c.args.sheet.now ≡ Ok c.in_ok-header.header = sym c.check_header.ensures.answer ∙ c.in_ok-header.was in
    in_ground _ passed

pub returns-in_err-check_chain-2 : goal.returns-in_err-check_chain-2
returns-in_err-check_chain-2 c =
    let passed : checked_header c.args.sheet.now ≡ Ok c.in_ok-header.header = sym c.check_header.ensures.answer ∙ c.in_ok-header.was in
    let load_is : c.check_chain.result ≡ outcome_of (load_walk c.args.sheet.now (origin c.args.sheet.now)) = c.check_chain.ensures ∙ ap outcome_of (load_walk_lem _ passed c.before_first-load.ensures) in
    let load_passed : outcome_of (load_walk c.args.sheet.now (origin c.args.sheet.now)) ≡ Ok tt = sym load_is ∙ c.in_ok-check_chain.was in
    let beside_is : c.check_chain-2.result ≡ outcome_of (trench_of c.args.sheet.now) = c.check_chain-2.ensures ∙ ap outcome_of (neighbour_walk_lem _ passed c.beside_first-beside.ensures) in
    let r : c.from_residual-in_err-check_chain-2.result ≡ Err c.in_err-check_chain-2.field-0.0 = search rules in
    record { answer = r ∙ neighbours_refused _ passed load_passed (sym beside_is ∙ c.in_err-check_chain-2.was) }

pub returns : goal.returns
returns c =
    let passed : checked_header c.args.sheet.now ≡ Ok c.in_ok-header.header = sym c.check_header.ensures.answer ∙ c.in_ok-header.was in
    let load_is : c.check_chain.result ≡ outcome_of (load_walk c.args.sheet.now (origin c.args.sheet.now)) = c.check_chain.ensures ∙ ap outcome_of (load_walk_lem _ passed c.before_first-load.ensures) in
    let load_passed : outcome_of (load_walk c.args.sheet.now (origin c.args.sheet.now)) ≡ Ok tt = sym load_is ∙ c.in_ok-check_chain.was in
    let beside_is : c.check_chain-2.result ≡ outcome_of (trench_of c.args.sheet.now) = c.check_chain-2.ensures ∙ ap outcome_of (neighbour_walk_lem _ passed c.beside_first-beside.ensures) in
    record { answer = sheet_accepted _ passed load_passed (sym beside_is ∙ c.in_ok-check_chain-2.was) }
