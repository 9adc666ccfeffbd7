-- Each return is one of the definition's ways out.
use mathlib.Core.Path.{◌≡◌, sym, ◌∙◌}
use mathlib.Core.Bool.{false}
use Rattle.ranges.specs.Ranges.{outside, ◌to◌}
use Rattle.sheet_rules.specs.Records.{least_minutes, most_minutes}
use Rattle.sheet_rules.proofs.RecordChecks.{link_refused, minutes_refused, amperes_refused, order_refused, record_accepted}
use Rattle.records.proofs.check_record.Goals as goal

pub returns-in_default : goal.returns-in_default
returns-in_default c = record { answer = c.refused_at.ensures ∙ link_refused _ c.in_default.is }

pub returns-then-outside : goal.returns-then-outside
returns-then-outside c =
    record { answer = c.refused_at-then-outside.ensures ∙ minutes_refused _ c.in-Some.is (sym c.outside.ensures ∙ c.if-outside.true) }

pub returns-then-record-gt-MOST_AMPERES : goal.returns-then-record-gt-MOST_AMPERES
returns-then-record-gt-MOST_AMPERES c =
    let within : outside (least_minutes to most_minutes) c.in-Some.record.minutes ≡ false = sym c.outside.ensures ∙ c.if-outside.false in
    record { answer = c.refused_at-then-record-gt-MOST_AMPERES.ensures ∙ amperes_refused _ c.in-Some.is within c.if-record-gt-MOST_AMPERES.true }

pub returns-then-before-record : goal.returns-then-before-record
returns-then-before-record c =
    let within : outside (least_minutes to most_minutes) c.in-Some.record.minutes ≡ false = sym c.outside.ensures ∙ c.if-outside.false in
    record { answer = c.refused_at-then-before-record.ensures ∙ order_refused _ c.in-Some.is within c.if-record-gt-MOST_AMPERES.false c.if-before-record.true }

pub returns : goal.returns
returns c =
    let within : outside (least_minutes to most_minutes) c.in-Some.record.minutes ≡ false = sym c.outside.ensures ∙ c.if-outside.false in
    record { answer = record_accepted _ c.in-Some.is within c.if-record-gt-MOST_AMPERES.false c.if-before-record.false }
