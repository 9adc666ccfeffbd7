-- Each return is one of the definition's ways out.
use Rattle.std.proofs.Common.{Ok, Err, rules}
use mathlib.Core.Path.{◌≡◌, sym, ap, ◌∙◌}
use mathlib.Core.Bool.{false}
use Prim.Native.Nat.{◌≤◌}
use native.Mathlib.Omega.{arith}
use lib.ListN.{length}
use Rattle.cable_rules.specs.Checks.{checked}
use Rattle.sheet_rules.specs.Layout.{wrong_length}
use Rattle.sheet_rules.specs.Header.{cable_of}
use Rattle.sheet_rules.proofs.RightLength.{right_length}
use Rattle.sheet_rules.proofs.HeaderChecks.{length_refused, cable_refused, start_refused, header_accepted}
use Rattle.header.proofs.check_header.Goals as goal

pub returns-then-wrong_length : goal.returns-then-wrong_length
returns-then-wrong_length c = record { answer = length_refused _ (sym c.wrong_length.ensures ∙ c.if-wrong_length.true) }

pub cable_of-requires : goal.cable_of-requires
cable_of-requires c =
    let passed : wrong_length (length c.args.sheet.now) ≡ false = sym c.wrong_length.ensures ∙ c.if-wrong_length.false in
    let whole : 36 ≤ length c.args.sheet.now = let l = right_length _ passed in omega (arith, l.is, l.header_least) in
    whole

pub returns-in_err-cable : goal.returns-in_err-cable
returns-in_err-cable c =
    let passed : wrong_length (length c.args.sheet.now) ≡ false = sym c.wrong_length.ensures ∙ c.if-wrong_length.false in
    let cable_checked : checked (cable_of c.args.sheet.now) ≡ c.check_cable.result = rw (← c.cable_of.ensures) (sym c.check_cable.ensures.answer) in
    let r : c.from_residual.result ≡ Err c.in_err-cable.field-0.0 = search rules in
    record { answer = r ∙ cable_refused _ passed (cable_checked ∙ c.in_err-cable.was) }

pub starting_current-start-requires : goal.starting_current-start-requires
starting_current-start-requires c =
    let passed : wrong_length (length c.args.sheet.now) ≡ false = sym c.wrong_length.ensures ∙ c.if-wrong_length.false in
    let whole : 36 ≤ length c.args.sheet.now = let l = right_length _ passed in omega (arith, l.is, l.header_least) in
    whole

pub returns-then-start-gt-MOST_START : goal.returns-then-start-gt-MOST_START
returns-then-start-gt-MOST_START c =
    let passed : wrong_length (length c.args.sheet.now) ≡ false = sym c.wrong_length.ensures ∙ c.if-wrong_length.false in
    let cable_checked : checked (cable_of c.args.sheet.now) ≡ c.check_cable.result = rw (← c.cable_of.ensures) (sym c.check_cable.ensures.answer) in
    let accepted : checked (cable_of c.args.sheet.now) ≡ Ok c.in_ok-cable.cable = cable_checked ∙ c.in_ok-cable.was in
    record {
      answer =
          start_refused _ passed accepted
          (rw c.starting_current-start.ensures at c.if-start-gt-MOST_START.true);
    }

pub first_link-link-requires : goal.first_link-link-requires
first_link-link-requires c =
    let passed : wrong_length (length c.args.sheet.now) ≡ false = sym c.wrong_length.ensures ∙ c.if-wrong_length.false in
    let whole : 36 ≤ length c.args.sheet.now = let l = right_length _ passed in omega (arith, l.is, l.header_least) in
    whole

pub second_link-neighbours-requires : goal.second_link-neighbours-requires
second_link-neighbours-requires c =
    let passed : wrong_length (length c.args.sheet.now) ≡ false = sym c.wrong_length.ensures ∙ c.if-wrong_length.false in
    omega (arith, (right_length _ passed).is)

pub returns : goal.returns
returns c =
    let passed : wrong_length (length c.args.sheet.now) ≡ false = sym c.wrong_length.ensures ∙ c.if-wrong_length.false in
    let cable_checked : checked (cable_of c.args.sheet.now) ≡ c.check_cable.result = rw (← c.cable_of.ensures) (sym c.check_cable.ensures.answer) in
    let accepted : checked (cable_of c.args.sheet.now) ≡ Ok c.in_ok-cable.cable = cable_checked ∙ c.in_ok-cable.was in
    record {
      answer =
          ap Ok (cc (c.starting_current-start.ensures, c.first_link-link.ensures, c.second_link-neighbours.ensures))
          ∙ header_accepted _ passed accepted
          (rw c.starting_current-start.ensures at c.if-start-gt-MOST_START.false);
    }
