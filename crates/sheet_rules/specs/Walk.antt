-- Document 01, 'The load sheet': the walk along a chain of links, whatever its records are checked for.
use Rattle.std.specs.Prelude.{cond, List, [], ◌∷◌, ℕ, zero, suc, eqb, Option, Result, Ok, Err}
use Rattle.refusals.specs.declared.Refusal.{Refusal}
use Rattle.sheet_rules.specs.Records.{record_at}
use Rattle.sheet_rules.specs.declared.LoadRecord.{LoadRecord}

-- what was reached, in the order of the links, or the first refusal
pub data Walk : Type 0 where
  reached : List LoadRecord → Walk
  refused : Refusal → Walk

abbrev pub with_record : LoadRecord → Walk → Walk
with_record r (reached rs) = reached (r ∷ rs)
with_record r (refused f) = refused f

abbrev pub after_record : Result LoadRecord Refusal → (LoadRecord → Walk) → Walk
after_record (Ok r) rest = with_record r (rest r)
after_record (Err f) rest = refused f

-- "The walk ends at the zero link or at the first refusal." From a record on, with a check of what its link leads to; a count of turns that each step lowers
-- is never used up.
unfoldable pub walk_from : (LoadRecord → Option LoadRecord → Result LoadRecord Refusal) → ℕ → List ℕ → LoadRecord → Walk
walk_from check zero s r = reached []
walk_from check (suc turns) s r =
    cond (eqb r.next 0) (reached [])
    (after_record (check r (record_at s r.next)) (walk_from check turns s))

-- a refused walk has no records
abbrev pub records_in : Walk → List LoadRecord
records_in (reached rs) = rs
records_in (refused f) = []
