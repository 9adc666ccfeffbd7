-- Reading a record in each of its ways out, and what is known of a record that is accepted.
use Rattle.std.proofs.Common.{Option, Some, None, Ok, Err}
use mathlib.Core.Path.{◌≡◌, refl}
use mathlib.Core.Bool.{Bool, true, false, cond}
use mathlib.Core.List.{List}
use Prim.Native.Nat.{ℕ, ◌≤◌, ◌<◌}
use native.Mathlib.Omega.{arith}
use borrow.Author.Tests.{lt-ltb, le-ltb, le-leb, lt-leb, eq-eqb, ne_eqb, ltb-false, leb-false}
use lib.Dec.{leb, ltb}
use lib.ListN.{length}
use Rattle.ranges.specs.Ranges.{outside, ◌to◌}
use Rattle.refusals.specs.declared.Refusal.{Refusal}
use Rattle.sheet_rules.specs.Layout.{record_count, wrong_length}
use Rattle.sheet_rules.specs.Header.{most_amperes}
use Rattle.sheet_rules.specs.Records.{least_minutes, most_minutes, origin, record_of, record_at, refused_at, checked_record}
use Rattle.sheet_rules.specs.declared.LoadRecord.{LoadRecord}

module _ (s : List ℕ) (k : ℕ) where
  pub no_records : wrong_length (length s) ≡ true → None ≡ record_at s k
  unfolding record_at
  no_records e = rw (e, record_at)

  module _ (e : wrong_length (length s) ≡ false) where
    pub above_count : record_count (length s) < k → None ≡ record_at s k
    unfolding record_at
    above_count h = rw (e, lt-ltb _ _ h, record_at)

    module _ (h : k ≤ record_count (length s)) where
      pub header_held : k ≡ 0 → Some (origin s) ≡ record_at s k
      unfolding record_at
      header_held z = rw (e, le-ltb _ _ h, eq-eqb k 0 z, record_at)

      pub record_held : (k ≡ 0 → ⊥) → Some (record_of s k) ≡ record_at s k
      unfolding record_at
      record_held z = rw (e, le-ltb _ _ h, ne_eqb k 0 z, record_at)

-- the checks of what was read, in each of their ways out
module _ (before : LoadRecord) {read : Option LoadRecord} where
  pub link_refused : read ≡ None → refused_at 5 before.number ≡ checked_record before read
  unfolding checked_record
  link_refused e = rw e

  module _ {r : LoadRecord} (e : read ≡ Some r) where
    pub minutes_refused : outside (least_minutes to most_minutes) r.minutes ≡ true → refused_at 6 r.number ≡ checked_record before read
    unfolding checked_record
    minutes_refused o = rw e (rw (o, checked_record))

    module _ (o : outside (least_minutes to most_minutes) r.minutes ≡ false) where
      pub amperes_refused : most_amperes < r.amperes → refused_at 7 r.number ≡ checked_record before read
      unfolding checked_record
      amperes_refused h = rw e (rw (o, lt-ltb _ _ h, checked_record))

      module _ (a : r.amperes ≤ most_amperes) where
        pub order_refused : before.minutes ≤ r.minutes → refused_at 8 r.number ≡ checked_record before read
        unfolding checked_record
        order_refused h = rw e (rw (o, le-ltb _ _ a, le-leb _ _ h, checked_record))

        pub record_accepted : r.minutes < before.minutes → Ok r ≡ checked_record before read
        unfolding checked_record
        record_accepted h = rw e (rw (o, le-ltb _ _ a, lt-leb _ _ h, checked_record))

-- what is known of a record once it is accepted after another
pub record RecordAccepted (before r : LoadRecord) : Type 0 where
  pub minutes_within : outside (least_minutes to most_minutes) r.minutes ≡ false
  pub amperes_most : r.amperes ≤ most_amperes
  pub minutes_fall : r.minutes < before.minutes

accepted : (t u v : Bool) (f g h : Refusal) (before q : LoadRecord) {r : LoadRecord} → outside (least_minutes to most_minutes) q.minutes ≡ t → ltb most_amperes q.amperes ≡ u → leb before.minutes q.minutes ≡ v
    → cond t (Err f) (cond u (Err g) (cond v (Err h) (Ok q))) ≡ Ok r
    → RecordAccepted before r
accepted true u v f g h before q o p w e = let z : ◌≡◌ {A = ℕ} 0 1 = cc in absurd (omega arith)
accepted false true v f g h before q o p w e = let z : ◌≡◌ {A = ℕ} 0 1 = cc in absurd (omega arith)
accepted false false true f g h before q o p w e = let z : ◌≡◌ {A = ℕ} 0 1 = cc in absurd (omega arith)
accepted false false false f g h before q {r} o p w e =
    let i : q ≡ r = cc in
    rw (← i)
    (record {
      minutes_within = o;
      amperes_most = ltb-false most_amperes q.amperes p;
      minutes_fall = leb-false before.minutes q.minutes w;
    })

pub accepted_record : (before : LoadRecord) (read : Option LoadRecord) {r : LoadRecord} → checked_record before read ≡ Ok r → RecordAccepted before r
unfolding checked_record
accepted_record before (Some q) e =
    accepted (outside (least_minutes to most_minutes) q.minutes) (ltb most_amperes q.amperes) (leb before.minutes q.minutes) _ _ _ before q refl refl refl e
accepted_record before None e = let z : ◌≡◌ {A = ℕ} 0 1 = cc in absurd (omega arith)
