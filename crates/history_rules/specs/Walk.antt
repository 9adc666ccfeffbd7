-- The walk along the chain, turn by turn: what `rise` and `rise_by_reader` have in common.
use Rattle.std.specs.Prelude.{◌≡◌, false, ℕ, ◌+◌, ◌*◌, ◌-◌, ◌≤◌, Option, Result, Ok, Err}
use Rattle.bounds.specs.Operations.{add_b, divided_b}
use Rattle.bounds.specs.Promises.{Sized}
use Rattle.bounds.specs.declared.Bounds.{Bounds}
use Rattle.ranges.specs.Ranges.{outside, ◌to◌}
use Rattle.cable_rules.specs.declared.Cable.{Cable}
use Rattle.share_rules.specs.Answer as share
use Rattle.sheet_rules.specs.Header.{most_amperes}
use Rattle.sheet_rules.specs.Records.{most_minutes, before_first, checked_record}
use Rattle.sheet_rules.specs.Sheet.{checked_sheet}
use Rattle.sheet_rules.specs.Promises.{TrenchSaid}
use Rattle.sheet_rules.specs.declared.Header.{Header}
use Rattle.sheet_rules.specs.declared.Ground.{Ground}
use Rattle.sheet_rules.specs.declared.LoadRecord.{LoadRecord}
use Rattle.history_rules.specs.Rise.{million, step_heat, start_heat}
use Rattle.history_rules.specs.declared.Reached.{Reached}
use Rattle.refusals.specs.declared.Refusal.{Refusal}

-- "The cable carried the starting current for ever before the first step"
abbrev pub begin_at : LoadRecord → Reached
begin_at first = record { last = first; sum = start_heat first.amperes }

-- the step to a record, and what it adds
abbrev pub next_at : (ℕ → Bounds) → Reached → LoadRecord → Reached
next_at pairs at next = record { last = next; sum = add_b at.sum (step_heat (pairs next.minutes) at.last.amperes next.amperes) }

abbrev pub after_read : Result LoadRecord Refusal → (LoadRecord → Reached) → Result Reached Refusal
after_read (Ok r) next = Ok (next r)
after_read (Err f) next = Err f

-- "for each record in turn 5 for the link that leads to it, 6, 7, 8", and its step
unfoldable pub turn_of : (ℕ → Bounds) → Reached → Option LoadRecord → Result Reached Refusal
turn_of pairs at read = after_read (checked_record at.last read) (next_at pairs at)

-- "/ rated²"
abbrev pub end_of : Cable → Reached → Bounds
end_of used at = divided_b at.sum (used.rated * used.rated)

-- ---- what the functions of the walk ask

-- in A² times millionths: twice the largest square, times a whole share. No step's part is larger
abbrev pub step_most : ℕ
step_most = 2 * (most_amperes * most_amperes) * million

-- a part for each minute that has passed since before the first record, and one for the start
abbrev pub parts_to : ℕ → ℕ
parts_to minutes = most_minutes + 2 - minutes

-- A record in its ranges, and a sum that leaves room for the steps to come.
pub record Turning (at : Reached) : Type 0 where
  pub minutes_most : at.last.minutes ≤ most_minutes + 1
  pub amperes_most : at.last.amperes ≤ most_amperes
  pub sized : Sized (step_most * parts_to at.last.minutes) at.sum

-- A rated current that is no zero, and the sum.
pub record Ending (used : Cable) (at : Reached) : Type 0 where
  pub rated_from : 50 ≤ used.rated
  pub sized : Sized (step_most * parts_to at.last.minutes) at.sum

-- A record that passed 6 and 7; the minutes of a record are those of a share.
pub record StepTo (next : LoadRecord) : Type 0 where
  pub minutes_within : outside (1 to share.most_minutes) next.minutes ≡ false
  pub amperes_most : next.amperes ≤ most_amperes

-- Where a walk begins: what an accepted sheet gives, and the header's own record.
pub record Begins (g : Ground) (first : LoadRecord) : Type 0 where
  pub header : Header
  pub sheet : checked_sheet g.sheet.now ≡ Ok header
  pub trench : TrenchSaid header g.trench
  pub record_0 : first ≡ before_first header.start header.link
