-- One turn of a walk along a chain, whatever its check: it ends, is refused, or goes on with a record more. Each step lowers a count, so that the turns never run
-- out.
use Rattle.std.proofs.Common.{Option, Result, Ok, Err}
use mathlib.Core.Path.{◌≡◌, refl, sym, ap, ◌∙◌}
use mathlib.Core.Bool.{Bool, true, false, cond}
use mathlib.Core.List.{List, [], ◌∷◌}
use Prim.Native.Nat.{ℕ, zero, suc, ◌≤◌, ◌<◌}
use native.Mathlib.Omega.{arith}
use borrow.Author.Tests.{eq-eqb, ne_eqb}
use lib.Dec.{eqb}
use lib.ListN.{length}
use Rattle.refusals.specs.declared.Refusal.{Refusal}
use Rattle.sheet_rules.specs.Records.{record_at}
use Rattle.sheet_rules.specs.Walk.{Walk, reached, refused, with_record, after_record, walk_from, records_in}
use Rattle.sheet_rules.specs.declared.LoadRecord.{LoadRecord}

-- something of every record
pub data AtRecords (P : LoadRecord → Type 0) : List LoadRecord → Type 0 where
  none : AtRecords P []
  more : {r : LoadRecord} {rs : List LoadRecord} → P r → AtRecords P rs → AtRecords P (r ∷ rs)

same_after : (c : Result LoadRecord Refusal) (f g : LoadRecord → Walk) → ((r : LoadRecord) → c ≡ Ok r → f r ≡ g r) → after_record c f ≡ after_record c g
same_after (Ok r) f g h = cc (h r refl)
same_after (Err e) f g h = refl

-- how a walk that is not refused goes on
pub record GoesOn (check : LoadRecord → Option LoadRecord → Result LoadRecord Refusal) (m : LoadRecord → ℕ) (s : List ℕ) (r : LoadRecord) (rs : List LoadRecord) : Type 0 where
  pub next : LoadRecord
  pub rest : List LoadRecord
  pub accepted : check r (record_at s r.next) ≡ Ok next
  pub records : rs ≡ next ∷ rest
  pub walk : walk_from check (suc (m next)) s next ≡ reached rest

module _ (check : LoadRecord → Option LoadRecord → Result LoadRecord Refusal) (m : LoadRecord → ℕ) (s : List ℕ) (falls : (r n : LoadRecord) → check r (record_at s r.next) ≡ Ok n → m n < m r) where
  -- any two counts above m give the same walk
  enough_turns : (f g : ℕ) (r : LoadRecord) → m r < f → m r < g → walk_from check f s r ≡ walk_from check g s r
  unfolding walk_from
  enough_turns zero g r p q = absurd (omega arith)
  enough_turns (suc f) zero r p q = absurd (omega arith)
  enough_turns (suc f) (suc g) r p q =
      ap (cond (eqb r.next 0) (reached []))
      (same_after (check r (record_at s r.next)) _ _ (λ n e. let a = falls r n e in enough_turns f g n (omega arith) (omega arith)))

  module _ (r : LoadRecord) where
    pub walk_ends : r.next ≡ 0 → walk_from check (suc (m r)) s r ≡ reached []
    unfolding walk_from
    walk_ends z = rw (eq-eqb r.next 0 z, walk_from)

    module _ (z : r.next ≡ 0 → ⊥) where
      pub walk_refused : {f : Refusal} → check r (record_at s r.next) ≡ Err f → walk_from check (suc (m r)) s r ≡ refused f
      unfolding walk_from
      walk_refused e = rw (ne_eqb r.next 0 z, e, walk_from)

      module _ {n : LoadRecord} (e : check r (record_at s r.next) ≡ Ok n) where
        one_turn : walk_from check (suc (m r)) s r ≡ with_record n (walk_from check (m r) s n)
        unfolding walk_from
        one_turn = rw (ne_eqb r.next 0 z, e, walk_from)

        pub walk_goes_on : walk_from check (suc (m r)) s r ≡ with_record n (walk_from check (suc (m n)) s n)
        walk_goes_on = one_turn ∙ ap (with_record n) (enough_turns (m r) (suc (m n)) n (falls r n e) (omega arith))

      -- the way back: what is known of a walk that is not refused
      module _ {rs : List LoadRecord} (w : walk_from check (suc (m r)) s r ≡ reached rs) where
        by_rest : {n : LoadRecord} → check r (record_at s r.next) ≡ Ok n → (rest : Walk) → walk_from check (suc (m n)) s n ≡ rest → with_record n rest ≡ reached rs → GoesOn check m s r rs
        by_rest {n} e (reached ns) i j = record { next = n; rest = ns; accepted = e; records = cc; walk = i }
        by_rest e (refused f) i j = let z : ◌≡◌ {A = ℕ} 0 1 = cc in absurd (omega arith)

        by_check : (c : Result LoadRecord Refusal) → check r (record_at s r.next) ≡ c → GoesOn check m s r rs
        by_check (Ok n) e = by_rest e (walk_from check (suc (m n)) s n) refl (sym (walk_goes_on e) ∙ w)
        by_check (Err f) e = let y : refused f ≡ reached rs = sym (walk_refused e) ∙ w in let x : ◌≡◌ {A = ℕ} 0 1 = cc in absurd (omega arith)

        pub goes_on : GoesOn check m s r rs
        goes_on = by_check (check r (record_at s r.next)) refl

  -- no longer than its count
  with_one : (n : LoadRecord) (w : Walk) (b : ℕ) → length (records_in w) ≤ b → length (records_in (with_record n w)) ≤ suc b
  with_one n (reached rs) b h = omega arith
  with_one n (refused f) b h = omega arith

  few_after : (c : Result LoadRecord Refusal) (f : LoadRecord → Walk) (b : ℕ) → ((n : LoadRecord) → c ≡ Ok n → suc (length (records_in (f n))) ≤ b) → length (records_in (after_record c f)) ≤ b
  few_after (Ok n) f b h = let k = h n refl in let o = with_one n (f n) (length (records_in (f n))) (omega arith) in omega arith
  few_after (Err e) f b h = omega arith

  few_or : (t : Bool) (w : Walk) (b : ℕ) → length (records_in w) ≤ b → length (records_in (cond t (reached []) w)) ≤ b
  few_or true w b h = omega arith
  few_or false w b h = h

  pub few : (turns : ℕ) (r : LoadRecord) → length (records_in (walk_from check turns s r)) ≤ m r
  unfolding walk_from
  few zero r = omega arith
  few (suc turns) r =
      few_or (eqb r.next 0) (after_record (check r (record_at s r.next)) (walk_from check turns s)) (m r)
      (few_after (check r (record_at s r.next)) (walk_from check turns s) (m r) (λ n e. let k = few turns n in let a = falls r n e in omega arith))

-- what every accepted record has, every record of a walk has
module _ (check : LoadRecord → Option LoadRecord → Result LoadRecord Refusal) (P : LoadRecord → Type 0) (s : List ℕ) (each : (r n : LoadRecord) → check r (record_at s r.next) ≡ Ok n → P n) where
  with_record_lem : (n : LoadRecord) (w : Walk) → P n → AtRecords P (records_in w) → AtRecords P (records_in (with_record n w))
  with_record_lem n (reached rs) p ps = more p ps
  with_record_lem n (refused f) p ps = none

  after_record_lem : (c : Result LoadRecord Refusal) (f : LoadRecord → Walk) → ((n : LoadRecord) → c ≡ Ok n → P n) → ((n : LoadRecord) → AtRecords P (records_in (f n))) → AtRecords P (records_in (after_record c f))
  after_record_lem (Ok n) f p ps = with_record_lem n (f n) (p n refl) (ps n)
  after_record_lem (Err e) f p ps = none

  ended_or : (t : Bool) (w : Walk) → AtRecords P (records_in w) → AtRecords P (records_in (cond t (reached []) w))
  ended_or true w ps = none
  ended_or false w ps = ps

  pub at_records : (turns : ℕ) (r : LoadRecord) → AtRecords P (records_in (walk_from check turns s r))
  unfolding walk_from
  at_records zero r = none
  at_records (suc turns) r =
      ended_or (eqb r.next 0) (after_record (check r (record_at s r.next)) (walk_from check turns s))
      (after_record_lem (check r (record_at s r.next)) (walk_from check turns s) (each r) (at_records turns))
