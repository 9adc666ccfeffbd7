-- The walk along a chain: what a turn adds to the sum, the answer of the whole sheet is that of the rest, at every record.
use Rattle.std.proofs.Common.{Some, None, Ok, Err}
use mathlib.Core.Path.{◌≡◌, refl, sym, ap, ◌∙◌}
use mathlib.Core.List.{List, ◌∷◌}
use Prim.Native.Nat.{ℕ, ◌*◌}
use native.Mathlib.Omega.{arith}
use lib.IntN.{pos, +ℤ_assoc, +ℤ_idr}
use Rattle.bounds.specs.Operations.{point_b, add_b, divided_b}
use Rattle.bounds.specs.declared.Bounds.{Bounds}
use Rattle.bounds.proofs.Enclosure.{same_ends}
use Rattle.refusals.specs.declared.Refusal.{Refusal}
use Rattle.share_rules.specs.Pair.{share_pair}
use Rattle.sheet_rules.specs.Sheet.{checked_sheet, group_of, given_sheet}
use Rattle.sheet_rules.specs.Promises.{GroundSaid}
use Rattle.sheet_rules.specs.Records.{before_first, record_at, checked_record}
use Rattle.sheet_rules.specs.Chain.{Step, Chain, steps, refused, step_of, as_chain, load_walk}
use Rattle.sheet_rules.specs.declared.Header.{Header}
use Rattle.sheet_rules.specs.declared.Ground.{Ground}
use Rattle.sheet_rules.specs.declared.LoadRecord.{LoadRecord}
use Rattle.sheet_rules.proofs.HeaderChecks.{accepted_header}
use Rattle.sheet_rules.proofs.SheetChecks.{accepted_sheet}
use Rattle.sheet_rules.proofs.RecordChecks.{header_held}
use Rattle.sheet_rules.proofs.ChainTurns.{with_step, chain_ends, chain_refused, chain_goes_on}
use Rattle.history_rules.specs.Rise.{step_heat, start_heat, sum_of, rise_of}
use Rattle.history_rules.specs.Answer.{after_chain, history_of, rise_answer}
use Rattle.history_rules.specs.Walk.{Begins}
use Rattle.history_rules.specs.declared.RiseAnswer.{RiseAnswer}
use Rattle.history_rules.specs.declared.RiseAnswer.TheVariants.{Rise, Refused}

-- ---- sums of pairs

add_assoc : (a b c : Bounds) → add_b (add_b a b) c ≡ add_b a (add_b b c)
unfolding add_b
add_assoc a b c = same_ends (+ℤ_assoc a.low b.low c.low) (+ℤ_assoc a.high b.high c.high)

add_nothing : (a : Bounds) → add_b a (point_b (pos 0)) ≡ a
unfolding add_b
add_nothing a = same_ends (+ℤ_idr a.low) (+ℤ_idr a.high)

-- ---- one turn

same_rise : (c : Chain) (f g : List Step → Bounds) → ((ss : List Step) → f ss ≡ g ss) → after_chain c f ≡ after_chain c g
same_rise (steps ss) f g h = ap Rise (h ss)
same_rise (refused e) f g h = refl

step_first : (s : Step) (c : Chain) (f : List Step → Bounds) → after_chain (with_step s c) f ≡ after_chain c (λ ss. f (s ∷ ss))
step_first s (steps ss) f = refl
step_first s (refused e) f = refl

module _ (pairs : ℕ → Bounds) (rated : ℕ) where
  -- the sum so far, and the steps that are still to come after a record
  rise_with : Bounds → ℕ → List Step → Bounds
  rise_with sum previous ss = divided_b (add_b sum (sum_of pairs previous ss)) (rated * rated)

  -- the answer of the chain after a record, the sum so far given
  pub rest : List ℕ → LoadRecord → Bounds → RiseAnswer
  rest s r sum = after_chain (as_chain (load_walk s r)) (rise_with sum r.amperes)

  module _ (s : List ℕ) (r : LoadRecord) (sum : Bounds) where
    pub rest_ends : r.next ≡ 0 → Rise (divided_b sum (rated * rated)) ≡ rest s r sum
    unfolding rest rise_with sum_of
    rest_ends z =
        ap (λ b. Rise (divided_b b (rated * rated))) (sym (add_nothing sum))
        ∙ ap (λ c. after_chain c (rise_with sum r.amperes)) (sym (chain_ends s r z))

    module _ (z : r.next ≡ 0 → ⊥) where
      pub rest_refused : {f : Refusal} → checked_record r (record_at s r.next) ≡ Err f → Refused f ≡ rest s r sum
      unfolding rest
      rest_refused e = ap (λ c. after_chain c (rise_with sum r.amperes)) (sym (chain_refused s r z e))

      pub rest_goes_on : {n : LoadRecord} → checked_record r (record_at s r.next) ≡ Ok n → rest s n (add_b sum (step_heat (pairs n.minutes) r.amperes n.amperes)) ≡ rest s r sum
      unfolding rest rise_with sum_of
      rest_goes_on {n} e =
          same_rise (as_chain (load_walk s n)) _ _
          (λ ss. ap (λ b. divided_b b (rated * rated)) (add_assoc sum (step_heat (pairs n.minutes) r.amperes n.amperes) (sum_of pairs n.amperes ss)))
          ∙ sym (step_first (step_of n) (as_chain (load_walk s n)) (rise_with sum r.amperes))
          ∙ ap (λ c. after_chain c (rise_with sum r.amperes)) (sym (chain_goes_on s r z e))

-- ---- the whole sheet

module _ (s : List ℕ) where
  pub sheet_refused : {f : Refusal} → checked_sheet s ≡ Err f → Refused f ≡ rise_answer (history_of s)
  unfolding rise_answer given_sheet
  sheet_refused e = rw (e, rise_answer, given_sheet)

  -- the walk begins with the header's own record and its current's part
  pub rest_of_all : {h : Header} → checked_sheet s ≡ Ok h → rest (share_pair (group_of s)) (group_of s).cable.rated s (before_first h.start h.link) (start_heat h.start) ≡ rise_answer (history_of s)
  unfolding rise_answer given_sheet rest rise_with rise_of
  rest_of_all {h} e =
      let is = (accepted_sheet s e).is in
      ap (λ (k : Header). rest (share_pair (group_of s)) (group_of s).cable.rated s (before_first k.start k.link) (start_heat k.start)) is ∙ rw (e, rise_answer, given_sheet)

-- ---- where a walk begins

module _ (s : List ℕ) {h : Header} (e : checked_sheet s ≡ Ok h) where
  -- the header is held as record 0
  header_read : record_at s 0 ≡ Some (before_first h.start h.link)
  header_read =
      let a = accepted_sheet s e in
      sym (header_held s 0 (accepted_header s a.header).length_right (omega arith) refl) ∙ ap (λ (k : Header). Some (before_first k.start k.link)) (sym a.is)

  pub header_not_missing : record_at s 0 ≡ None → ⊥
  header_not_missing r = let z : ◌≡◌ {A = ℕ} 0 1 = cc header_read in omega arith

  module _ {g : Ground} (d : GroundSaid s h g) where
    pub begins_plain : {first : LoadRecord} → first ≡ before_first h.start h.link → Begins g first
    begins_plain f = record { header = h; sheet = ap checked_sheet d.sheet ∙ e; trench = d.trench; record_0 = f }

    pub begins_read : {first : LoadRecord} → record_at s 0 ≡ Some first → Begins g first
    begins_read {first} r = let f : first ≡ before_first h.start h.link = cc header_read in begins_plain f
