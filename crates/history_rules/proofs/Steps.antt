-- What the checks of a chain say of its steps: the minutes of every step are 1 to 2,880.
use Rattle.std.proofs.Common.{Ok}
use mathlib.Core.Path.{◌≡◌}
use mathlib.Core.List.{List, [], ◌∷◌, map}
use Prim.Native.Nat.{ℕ, suc, ◌≤◌}
use Rattle.ranges.proofs.Ranges.{passed_within}
use Rattle.sheet_rules.specs.Records.{most_minutes, origin, record_at, checked_record}
use Rattle.sheet_rules.specs.Walk as W
use Rattle.sheet_rules.specs.Walk.{Walk, reached, records_in}
use Rattle.sheet_rules.specs.Chain.{Step, step_of, as_chain, load_walk, chain_of}
use Rattle.sheet_rules.specs.declared.LoadRecord.{LoadRecord}
use Rattle.sheet_rules.proofs.RecordChecks.{accepted_record}
use Rattle.sheet_rules.proofs.Turns as T
use Rattle.sheet_rules.proofs.Turns.{AtRecords, at_records}
use Rattle.history_rules.specs.Answer.{steps_of}

-- something of the minutes of every step
pub data AtSteps (P : ℕ → Type 0) : List Step → Type 0 where
  none : AtSteps P []
  more : {s : Step} {ss : List Step} → P s.minutes → AtSteps P ss → AtSteps P (s ∷ ss)

module _ (P : ℕ → Type 0) (within : (m : ℕ) → 1 ≤ m → m ≤ most_minutes → P m) where
  of_records : (rs : List LoadRecord) → AtRecords (λ r. P r.minutes) rs → AtSteps P (map step_of rs)
  of_records [] T.none = none
  of_records (r ∷ rs) (T.more p ps) = more p (of_records rs ps)

  of_walk : (w : Walk) → AtRecords (λ r. P r.minutes) (records_in w) → AtSteps P (steps_of (as_chain w))
  of_walk (reached rs) ps = of_records rs ps
  of_walk (W.refused f) ps = none

  each : (s : List ℕ) (r n : LoadRecord) → checked_record r (record_at s r.next) ≡ Ok n → P n.minutes
  each s r n e = let w = passed_within 1 most_minutes n.minutes (accepted_record r (record_at s r.next) e).minutes_within in within n.minutes w.0 w.1

  pub chain_minutes : (s : List ℕ) → AtSteps P (steps_of (chain_of s))
  chain_minutes s = of_walk (load_walk s (origin s)) (at_records checked_record (λ r. P r.minutes) s (each s) (suc (origin s).minutes) (origin s))
