-- Document 01, 'The load sheet': the steps of a sheet in the order of the chain, or its first refusal. No share is named here.
use Rattle.std.specs.Prelude.{List, map, ℕ, suc}
use Rattle.refusals.specs.declared.Refusal.{Refusal}
use Rattle.sheet_rules.specs.Records.{origin, checked_record}
use Rattle.sheet_rules.specs.Walk as W
use Rattle.sheet_rules.specs.Walk.{Walk, reached, walk_from}
use Rattle.sheet_rules.specs.declared.LoadRecord.{LoadRecord}

-- the record's number, its minutes before now, and its amperes from then on
pub record Step : Type 0 where
  pub number : ℕ
  pub minutes : ℕ
  pub amperes : ℕ

pub data Chain : Type 0 where
  steps : List Step → Chain
  refused : Refusal → Chain

abbrev pub step_of : LoadRecord → Step
step_of r = record { number = r.number; minutes = r.minutes; amperes = r.amperes }

-- "The oldest step comes first"
abbrev pub as_chain : Walk → Chain
as_chain (reached rs) = steps (map step_of rs)
as_chain (W.refused f) = refused f

-- the minutes of a record
abbrev pub age : LoadRecord → ℕ
age r = r.minutes

-- from a record on; minutes fall, so that a count above them is never used up
abbrev pub load_walk : List ℕ → LoadRecord → Walk
load_walk s r = walk_from checked_record (suc (age r)) s r

abbrev pub chain_of : List ℕ → Chain
chain_of s = as_chain (load_walk s (origin s))
