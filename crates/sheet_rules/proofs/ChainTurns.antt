-- The load chain's turns. Minutes fall, so that the count of turns never runs out.
use Rattle.std.proofs.Common.{Ok, Err}
use mathlib.Core.Path.{◌≡◌, refl, ap, ◌∙◌}
use mathlib.Core.List.{List, [], ◌∷◌}
use Prim.Native.Nat.{ℕ, ◌<◌}
use Rattle.refusals.specs.declared.Refusal.{Refusal}
use Rattle.sheet_rules.specs.Records.{record_at, checked_record}
use Rattle.sheet_rules.specs.Walk as W
use Rattle.sheet_rules.specs.Walk.{Walk, reached, with_record}
use Rattle.sheet_rules.specs.Chain.{Step, Chain, steps, refused, step_of, age, as_chain, load_walk}
use Rattle.sheet_rules.specs.declared.LoadRecord.{LoadRecord}
use Rattle.sheet_rules.proofs.RecordChecks.{accepted_record}
use Rattle.sheet_rules.proofs.Turns.{walk_ends, walk_refused, walk_goes_on}

-- a step before the rest of its chain
abbrev pub with_step : Step → Chain → Chain
with_step s (steps ss) = steps (s ∷ ss)
with_step s (refused f) = refused f

pub minutes_fall : (s : List ℕ) (r n : LoadRecord) → checked_record r (record_at s r.next) ≡ Ok n → age n < age r
minutes_fall s r n e = (accepted_record r (record_at s r.next) e).minutes_fall

step_more : (n : LoadRecord) (w : Walk) → as_chain (with_record n w) ≡ with_step (step_of n) (as_chain w)
step_more n (reached rs) = refl
step_more n (W.refused f) = refl

module _ (s : List ℕ) (r : LoadRecord) where
  pub chain_ends : r.next ≡ 0 → as_chain (load_walk s r) ≡ steps []
  chain_ends z = ap as_chain (walk_ends checked_record age s (minutes_fall s) r z)

  module _ (z : r.next ≡ 0 → ⊥) where
    pub chain_refused : {f : Refusal} → checked_record r (record_at s r.next) ≡ Err f → as_chain (load_walk s r) ≡ refused f
    chain_refused e = ap as_chain (walk_refused checked_record age s (minutes_fall s) r z e)

    pub chain_goes_on : {n : LoadRecord} → checked_record r (record_at s r.next) ≡ Ok n → as_chain (load_walk s r) ≡ with_step (step_of n) (as_chain (load_walk s n))
    chain_goes_on {n} e = ap as_chain (walk_goes_on checked_record age s (minutes_fall s) r z e) ∙ step_more n (load_walk s n)
