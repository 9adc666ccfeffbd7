-- What a walk along either chain comes to, turn by turn: the check alone.
use Rattle.std.proofs.Common.{Option, Result, Ok, Err}
use Rattle.std.specs.Prelude.{⊤}
use mathlib.Core.Path.{◌≡◌, refl, sym, ap, ◌∙◌}
use mathlib.Core.List.{List}
use Prim.Native.Nat.{ℕ, suc, ◌<◌}
use Rattle.refusals.specs.declared.Refusal.{Refusal}
use Rattle.cable_rules.specs.declared.Cable.{Cable}
use Rattle.sheet_rules.specs.Records.{record_at}
use Rattle.sheet_rules.specs.Walk.{Walk, reached, refused, with_record, walk_from}
use Rattle.sheet_rules.specs.Promises.{checked_next, turns_left, outcome_of}
use Rattle.sheet_rules.specs.declared.LoadRecord.{LoadRecord}
use Rattle.sheet_rules.specs.declared.Links.{Links}
use Rattle.sheet_rules.specs.declared.Links.TheVariants.{Load, Neighbours}
use Rattle.sheet_rules.proofs.Turns.{walk_ends, walk_refused, walk_goes_on}
use Rattle.sheet_rules.proofs.ChainTurns.{minutes_fall}
use Rattle.sheet_rules.proofs.NeighbourChecks.{links_rise}

-- each step is nearer to the end
nearer : (links : Links) (c : Cable) (s : List ℕ) (r n : LoadRecord) → checked_next links c r (record_at s r.next) ≡ Ok n → turns_left links n < turns_left links r
nearer Load c s r n e = minutes_fall s r n e
nearer Neighbours c s r n e = links_rise c.diameter c.depth s r n e

-- a record more changes no outcome
same_outcome : (n : LoadRecord) (w : Walk) → outcome_of (with_record n w) ≡ outcome_of w
same_outcome n (reached rs) = refl
same_outcome n (refused f) = refl

module _ (links : Links) (c : Cable) (s : List ℕ) where
  -- what the walk from a record on comes to
  abbrev pub outcome_at : LoadRecord → Result ⊤ Refusal
  outcome_at r = outcome_of (walk_from (checked_next links c) (suc (turns_left links r)) s r)

  module _ (r : LoadRecord) where
    pub passes : r.next ≡ 0 → (Ok tt) ≡ outcome_at r
    passes z = sym (ap outcome_of (walk_ends (checked_next links c) (turns_left links) s (nearer links c s) r z))

    module _ (z : r.next ≡ 0 → ⊥) {read : Option LoadRecord} (i : read ≡ record_at s r.next) {check : Result LoadRecord Refusal} (j : check ≡ checked_next links c r read) where
      checked_here : checked_next links c r (record_at s r.next) ≡ check
      checked_here = rw (← i) (sym j)

      pub is_refused : {f : Refusal} → check ≡ Err f → Err f ≡ outcome_at r
      is_refused e = sym (ap outcome_of (walk_refused (checked_next links c) (turns_left links) s (nearer links c s) r z (checked_here ∙ e)))

      pub goes_nearer : {n : LoadRecord} → check ≡ Ok n → turns_left links n < turns_left links r
      goes_nearer {n} e = nearer links c s r n (checked_here ∙ e)

      pub stays : {n : LoadRecord} → check ≡ Ok n → outcome_at n ≡ outcome_at r
      stays {n} e =
          sym (same_outcome n (walk_from (checked_next links c) (suc (turns_left links n)) s n))
          ∙ sym (ap outcome_of (walk_goes_on (checked_next links c) (turns_left links) s (nearer links c s) r z (checked_here ∙ e)))
