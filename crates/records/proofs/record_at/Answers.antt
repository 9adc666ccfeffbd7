-- Each return is one of the definition's ways out.
use Rattle.std.proofs.Common.{Some}
use mathlib.Core.Path.{◌≡◌, sym, ap, ◌∙◌}
use mathlib.Core.Bool.{false}
use Prim.Native.Nat.{◌≤◌}
use native.Mathlib.Omega.{arith}
use lib.ListN.{length}
use Rattle.sheet_rules.specs.Layout.{wrong_length, record_count}
use Rattle.sheet_rules.proofs.RightLength.{right_length}
use Rattle.sheet_rules.proofs.RecordChecks.{no_records, above_count, header_held, record_held}
use Rattle.records.proofs.record_at.Goals as goal

pub returns-then-wrong_length : goal.returns-then-wrong_length
returns-then-wrong_length c = record { answer = no_records _ _ (sym c.wrong_length.ensures ∙ c.if-wrong_length.true) }

pub returns-then-record_count-number : goal.returns-then-record_count-number
returns-then-record_count-number c =
    let passed : wrong_length (length c.args.sheet.now) ≡ false = sym c.wrong_length.ensures ∙ c.if-wrong_length.false in
    record { answer = above_count _ _ passed (omega (arith, c.record_count.ensures, c.if-record_count-number.true)) }

pub starting_current-requires : goal.starting_current-requires
starting_current-requires c =
    let passed : wrong_length (length c.args.sheet.now) ≡ false = sym c.wrong_length.ensures ∙ c.if-wrong_length.false in
    let l = right_length _ passed in omega (arith, l.is, l.header_least)

pub first_link-requires : goal.first_link-requires
first_link-requires c =
    let passed : wrong_length (length c.args.sheet.now) ≡ false = sym c.wrong_length.ensures ∙ c.if-wrong_length.false in
    let l = right_length _ passed in omega (arith, l.is, l.header_least)

pub returns-then-number-eq0 : goal.returns-then-number-eq0
returns-then-number-eq0 c =
    let passed : wrong_length (length c.args.sheet.now) ≡ false = sym c.wrong_length.ensures ∙ c.if-wrong_length.false in
    let within : c.args.number ≤ record_count (length c.args.sheet.now) = omega (arith, c.record_count.ensures, c.if-record_count-number.false) in
    record { answer = ap Some (cc) ∙ header_held _ _ passed within c.if-number-eq0.true }

pub held_record-requires : goal.held_record-requires
held_record-requires c =
    let passed : wrong_length (length c.args.sheet.now) ≡ false = sym c.wrong_length.ensures ∙ c.if-wrong_length.false in
    let within : c.args.number ≤ record_count (length c.args.sheet.now) = omega (arith, c.record_count.ensures, c.if-record_count-number.false) in
    let l = right_length _ passed in
    omega (arith, l.is, l.few, within, c.if-number-eq0.false)

pub returns : goal.returns
returns c =
    let passed : wrong_length (length c.args.sheet.now) ≡ false = sym c.wrong_length.ensures ∙ c.if-wrong_length.false in
    let within : c.args.number ≤ record_count (length c.args.sheet.now) = omega (arith, c.record_count.ensures, c.if-record_count-number.false) in
    record { answer = ap Some c.held_record.ensures ∙ record_held _ _ passed within c.if-number-eq0.false }
