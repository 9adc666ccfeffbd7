-- What holds of the walk at each record of the chain: what a turn asks, and that the answer of the rest is the sheet's. Both walks, the plain one and the
-- reader's, have it as their invariant.
use Rattle.std.proofs.Common.{Option, Result, Ok, Err}
use mathlib.Core.Path.{◌≡◌, refl, sym, ap, subst, ◌∙◌}
use mathlib.Core.List.{List}
use Prim.Native.Nat.{ℕ, ◌+◌, ◌*◌, ◌≤◌, ◌<◌}
use native.Mathlib.Omega.{arith}
use native.Mathlib.Nat.{mul-le-mul}
use Rattle.bounds.specs.Operations.{point_b, add_b, mul_b}
use Rattle.bounds.specs.Promises.{Sized, largest, DividedRoom}
use Rattle.bounds.specs.declared.Bounds.{Bounds}
use Rattle.bounds.proofs.Sizes.{sized_more, add_sized}
use Rattle.refusals.specs.declared.Refusal.{Refusal}
use Rattle.cable_rules.specs.Group.{Group}
use Rattle.cable_rules.specs.declared.Cable.{Cable}
use Rattle.share_rules.specs.Pair.{share_pair}
use Rattle.share_rules.specs.Answer.{share_from}
use Rattle.share_rules.specs.declared.ShareAnswer.TheVariants as S
use Rattle.share_rules.proofs.Answers.{share_given}
use Rattle.share_rules.proofs.Promises.{share_pair_range, answered_pair}
use Rattle.sheet_rules.specs.Header.{most_amperes}
use Rattle.sheet_rules.specs.Ground.{group_at}
use Rattle.sheet_rules.specs.Records.{most_minutes, before_first, record_at, checked_record}
use Rattle.sheet_rules.specs.declared.Ground.{Ground}
use Rattle.sheet_rules.specs.declared.LoadRecord.{LoadRecord}
use Rattle.sheet_rules.proofs.HeaderChecks.{accepted_header}
use Rattle.sheet_rules.proofs.SheetChecks.{accepted_sheet, trench_group}
use Rattle.sheet_rules.proofs.RecordChecks.{accepted_record}
use Rattle.history_rules.specs.Rise.{change_of, step_heat, start_heat}
use Rattle.history_rules.specs.Answer.{history_of, rise_answer}
use Rattle.history_rules.specs.Walk.{begin_at, next_at, after_read, turn_of, end_of, step_most, Turning, Ending, StepTo, Begins}
use Rattle.history_rules.specs.declared.Reached.{Reached}
use Rattle.history_rules.specs.declared.RiseAnswer.TheVariants.{Rise, Refused}
use Rattle.history_rules.proofs.Walk.{rest, rest_ends, rest_refused, rest_goes_on, rest_of_all}
use Rattle.history_rules.proofs.Sizes.{start_sized, step_sized}

-- ---- what a turn asks

module _ (g : Ground) {at : Reached} (t : Turning at) where
  sum_most : Sized 100000000000000000 at.sum
  sum_most = sized_more (omega arith) t.sized

  pub ending : Ending g.trench.cable at
  ending = record { rated_from = g.laid.acceptable.rated_from; sized = t.sized }

  module _ {next : LoadRecord} (n : StepTo next) where
    -- the share of an accepted cable at a checked record is not refused
    pub share_not_refused : {f : Refusal} → share_from (group_at g) next.minutes ≡ S.Refused f → ⊥
    share_not_refused o =
        let p = share_given (group_at g) next.minutes n.minutes_within in
        let z : ◌≡◌ {A = ℕ} 0 1 = cc in omega arith

    step_most_lem : Sized step_most (step_heat (share_pair (group_at g) next.minutes) at.last.amperes next.amperes)
    step_most_lem = step_sized (share_pair_range (group_at g) next.minutes) t.amperes_most n.amperes_most

    module _ {pair change : Bounds} (ep : share_from (group_at g) next.minutes ≡ S.Pair pair) (ec : change ≡ point_b (change_of at.last.amperes next.amperes)) where
      step_is : mul_b change pair ≡ step_heat (share_pair (group_at g) next.minutes) at.last.amperes next.amperes
      step_is = rw (ec, answered_pair (group_at g) next.minutes ep)

      pub mul_room : Sized largest (mul_b change pair)
      mul_room = rw step_is (sized_more (omega arith) step_most_lem)

      module _ {product : Bounds} (em : product ≡ mul_b change pair) where
        pub add_room : Sized largest (add_b at.sum product)
        add_room = rw (em, step_is) (sized_more (omega arith) (add_sized sum_most step_most_lem))

        pub next_is : {sum : Bounds} → sum ≡ add_b at.sum product → record { last = next; sum = sum } ≡ next_at (share_pair (group_at g)) at next
        next_is es = rw (es, em, step_is)

-- ---- what the end asks

pub divided_room : {used : Cable} {at : Reached} → Ending used at → {d : ℕ} → d ≡ used.rated * used.rated → DividedRoom at.sum d
divided_room t e =
    let most : Sized 100000000000000000 _ = sized_more (omega arith) t.sized in
    record { divisor = omega (arith, e, mul-le-mul t.rated_from t.rated_from); high = omega (arith, most.high) }

-- ---- the ways out of a turn

pub read_refused : (pairs : ℕ → Bounds) (at : Reached) (read : Option LoadRecord) {f : Refusal} → checked_record at.last read ≡ Err f → Err f ≡ turn_of pairs at read
unfolding turn_of
read_refused pairs at read e = rw (e, turn_of)

pub read_accepted : (pairs : ℕ → Bounds) (at : Reached) (read : Option LoadRecord) {n : LoadRecord} → checked_record at.last read ≡ Ok n → Ok (next_at pairs at n) ≡ turn_of pairs at read
unfolding turn_of
read_accepted pairs at read e = rw (e, turn_of)

pub step_to : (before : LoadRecord) (read : Option LoadRecord) {n : LoadRecord} → checked_record before read ≡ Ok n → StepTo n
step_to before read e = let a = accepted_record before read e in record { minutes_within = a.minutes_within; amperes_most = a.amperes_most }

-- ---- along the chain

pub record AtRecord (g : Ground) (at : Reached) : Type 0 where
  pub turning : Turning at
  pub answer : rest (share_pair (group_at g)) g.trench.cable.rated g.sheet.now at.last at.sum ≡ rise_answer (history_of g.sheet.now)

-- a walk begins with the header's own record and its current's part
module _ {g : Ground} {first : LoadRecord} (b : Begins g first) where
  abbrev s : List ℕ
  s = g.sheet.now

  pub first_amperes : first.amperes ≤ most_amperes
  first_amperes =
      let a = accepted_sheet s b.sheet in
      let most = (accepted_header s a.header).start_most in
      rw (b.record_0, a.is) most

  first_minutes : first.minutes ≡ most_minutes + 1
  first_minutes = ap (λ r. r.minutes) b.record_0

  pub at_start : {at : Reached} → at ≡ begin_at first → AtRecord g at
  at_start e =
      rw e
      (record {
        turning =
            record {
              minutes_most = omega (arith, first_minutes);
              amperes_most = first_amperes;
              sized = sized_more (omega (arith, first_minutes)) (start_sized first_amperes);
            };
        answer =
            rw b.record_0
            (subst (λ (h : Group). rest (share_pair h) h.cable.rated s (before_first b.header.start b.header.link) (start_heat b.header.start) ≡ rise_answer (history_of s)) (sym (trench_group s (accepted_sheet s b.sheet) b.trench)) (rest_of_all s b.sheet));
      })

module _ {g : Ground} {at : Reached} (a : AtRecord g at) where
  abbrev here : List ℕ
  here = g.sheet.now

  pub chain_ended : at.last.next ≡ 0 → {b : Bounds} → b ≡ end_of g.trench.cable at → Rise b ≡ rise_answer (history_of here)
  chain_ended z e = ap Rise e ∙ rest_ends (share_pair (group_at g)) g.trench.cable.rated here at.last at.sum z ∙ a.answer

  module _ (z : at.last.next ≡ 0 → ⊥) where
    abbrev read_here : Option LoadRecord
    read_here = record_at here at.last.next

    -- where the turn leads: on to a later record, or out with the sheet's refusal
    refused_by : (c : Result LoadRecord Refusal) {f : Refusal} → checked_record at.last read_here ≡ c → after_read c (next_at (share_pair (group_at g)) at) ≡ Err f → Refused f ≡ rise_answer (history_of here)
    refused_by (Ok n) e p = let o : ◌≡◌ {A = ℕ} 0 1 = cc in absurd (omega arith)
    refused_by (Err f) e p = let same : Err f ≡ Err _ = p in ap Refused (cc) ∙ rest_refused (share_pair (group_at g)) g.trench.cable.rated here at.last at.sum z e ∙ a.answer

    -- what was read is what stands at the link
    pub turn_refused : {read : Option LoadRecord} {turn : Result Reached Refusal} {f : Refusal} → read ≡ read_here → turn ≡ turn_of (share_pair (group_at g)) at read → turn ≡ Err f → Refused f ≡ rise_answer (history_of here)
    unfolding turn_of
    turn_refused er et e = refused_by (checked_record at.last read_here) refl (sym (ap (turn_of (share_pair (group_at g)) at) er) ∙ sym et ∙ e)

    at_next : {n : LoadRecord} → checked_record at.last read_here ≡ Ok n → (n.minutes < at.last.minutes) × AtRecord g (next_at (share_pair (group_at g)) at n)
    at_next {n} e =
        let r = accepted_record at.last read_here e in
        let u = a.turning in (
          r.minutes_fall,
          record {
            turning =
                record {
                  minutes_most = omega (arith, r.minutes_fall, u.minutes_most);
                  amperes_most = r.amperes_most;
                  sized = sized_more (omega (arith, r.minutes_fall, u.minutes_most)) (add_sized u.sized (step_most_lem g u (step_to at.last read_here e)));
                };
            answer = rest_goes_on (share_pair (group_at g)) g.trench.cable.rated here at.last at.sum z e ∙ a.answer;
          },
        )

    next_by : (c : Result LoadRecord Refusal) {n : Reached} → checked_record at.last read_here ≡ c → after_read c (next_at (share_pair (group_at g)) at) ≡ Ok n → (n.last.minutes < at.last.minutes) × AtRecord g n
    next_by (Err f) e p = let o : ◌≡◌ {A = ℕ} 0 1 = cc in absurd (omega arith)
    next_by (Ok r) {n} e p = let same : next_at (share_pair (group_at g)) at r ≡ n = cc in subst (λ (m : Reached). (m.last.minutes < at.last.minutes) × AtRecord g m) same (at_next e)

    pub turn_next : {read : Option LoadRecord} {turn : Result Reached Refusal} {n : Reached} → read ≡ read_here → turn ≡ turn_of (share_pair (group_at g)) at read → turn ≡ Ok n → (n.last.minutes < at.last.minutes) × AtRecord g n
    unfolding turn_of
    turn_next er et e = next_by (checked_record at.last read_here) refl (sym (ap (turn_of (share_pair (group_at g)) at) er) ∙ sym et ∙ e)
