-- The check of a neighbour in each of its ways out, what is known of one that is accepted, and of the chain of them.
use Rattle.std.proofs.Common.{Option, Some, None, Ok, Err}
use mathlib.Core.Path.{◌≡◌, refl}
use mathlib.Core.Bool.{Bool, true, false, cond}
use mathlib.Core.List.{List, [], ◌∷◌, map}
use Prim.Native.Nat.{ℕ, ◌*◌, ◌≤◌, ◌<◌}
use native.Mathlib.Nat.{mul-le-mul}
use native.Mathlib.Omega.{arith}
use borrow.Author.Tests.{lt-ltb, le-ltb, le-leb, lt-leb, ltb-false, leb-false}
use lib.Dec.{eqb, leb, ltb}
use lib.IntN.{nat_abs}
use lib.ListN.{length}
use Rattle.exact.specs.Share.{CableNumbers, between, source_of, InTrench, AllInTrench}
use Rattle.exact.specs.Share as exact
use Rattle.ranges.specs.Ranges.{outside, ◌to◌}
use Rattle.refusals.specs.declared.Refusal.{Refusal}
use Rattle.ranges.proofs.Ranges.{neither, passed_within}
use Rattle.sheet_rules.specs.Layout.{most_records, record_count, wrong_length}
use Rattle.sheet_rules.specs.Records.{record_at, record_of, origin, refused_at}
use Rattle.sheet_rules.specs.Neighbours.{neighbour_of, most_offset, least_depth, most_depth, out_of_trench, too_near, checked_neighbour, above, neighbour_walk, neighbours_in}
use Rattle.sheet_rules.specs.Walk.{records_in}
use Rattle.sheet_rules.specs.declared.LoadRecord.{LoadRecord}
use Rattle.sheet_rules.proofs.RightLength.{right_length}
use Rattle.sheet_rules.proofs.Turns.{AtRecords, none, more, few, at_records}

-- no record that is held has a number above 48
module _ (s : List ℕ) (k : ℕ) {r : LoadRecord} where
  by_tests : (t u v : Bool) → wrong_length (length s) ≡ t → ltb (record_count (length s)) k ≡ u → cond t None (cond u None (cond v (Some (origin s)) (Some (record_of s k)))) ≡ Some r → r.number ≤ most_records
  unfolding record_of
  by_tests true u v p q e = let z : ◌≡◌ {A = ℕ} 0 1 = cc in absurd (omega arith)
  by_tests false true v p q e = let z : ◌≡◌ {A = ℕ} 0 1 = cc in absurd (omega arith)
  by_tests false false true p q e = let i : r.number ≡ 0 = cc in omega arith
  by_tests false false false p q e =
      let i : r.number ≡ k = cc in
      let few = (right_length (length s) p).few in
      let most = ltb-false (record_count (length s)) k q in
      omega arith

  pub held_number : record_at s k ≡ Some r → r.number ≤ most_records
  unfolding record_at
  held_number e = by_tests (wrong_length (length s)) (ltb (record_count (length s)) k) (eqb k 0) refl refl e

module _ (d l : ℕ) (before : LoadRecord) {read : Option LoadRecord} where
  pub link_missing : read ≡ None → refused_at 14 before.number ≡ checked_neighbour d l before read
  unfolding checked_neighbour
  link_missing e = rw e

  module _ {r : LoadRecord} (e : read ≡ Some r) where
    pub link_not_above : r.number ≤ before.number → refused_at 14 before.number ≡ checked_neighbour d l before read
    unfolding checked_neighbour
    link_not_above h = rw e (rw (le-leb _ _ h, checked_neighbour))

    module _ (a : before.number < r.number) where
      pub offset_refused : most_offset < nat_abs (neighbour_of r).offset → refused_at 15 r.number ≡ checked_neighbour d l before read
      unfolding checked_neighbour
      offset_refused h = rw e (rw (lt-leb _ _ a, lt-ltb _ _ h, checked_neighbour))

      module _ (o : nat_abs (neighbour_of r).offset ≤ most_offset) where
        pub depth_refused : outside (least_depth to most_depth) r.amperes ≡ true → refused_at 15 r.number ≡ checked_neighbour d l before read
        unfolding checked_neighbour
        depth_refused h = rw e (rw (lt-leb _ _ a, le-ltb _ _ o, h, checked_neighbour))

        module _ (b : outside (least_depth to most_depth) r.amperes ≡ false) where
          pub neighbour_accepted : d * d ≤ 100 * (source_of l (neighbour_of r)).near → Ok r ≡ checked_neighbour d l before read
          unfolding checked_neighbour
          neighbour_accepted h = rw e (rw (lt-leb _ _ a, le-ltb _ _ o, b, le-ltb _ _ h, checked_neighbour))

          pub near_refused : 100 * (source_of l (neighbour_of r)).near < d * d → refused_at 16 r.number ≡ checked_neighbour d l before read
          unfolding checked_neighbour
          near_refused h = rw e (rw (lt-leb _ _ a, le-ltb _ _ o, b, lt-ltb _ _ h, checked_neighbour))

-- c², where 15 has passed
pub near_most : (l : ℕ) (r : LoadRecord) → l ≤ most_depth → nat_abs (neighbour_of r).offset ≤ most_offset → r.amperes ≤ most_depth → (source_of l (neighbour_of r)).near ≤ 34000000
near_most l r h o d =
    let b : between l r.amperes ≤ 5000 = omega arith in
    omega (arith, mul-le-mul o o, mul-le-mul b b)

-- what is known of a neighbour once it is accepted
pub record NeighbourAccepted (d l : ℕ) (before : LoadRecord) (read : Option LoadRecord) (r : LoadRecord) : Type 0 where
  pub held : read ≡ Some r
  pub rises : before.number < r.number
  pub inside : out_of_trench (neighbour_of r) ≡ false
  pub apart : too_near d l (neighbour_of r) ≡ false

accepted : (d l : ℕ) (t u v : Bool) (f g h : Refusal) (before q : LoadRecord) {r : LoadRecord} → leb q.number before.number ≡ t → out_of_trench (neighbour_of q) ≡ u → too_near d l (neighbour_of q) ≡ v
    → cond t (Err f) (cond u (Err g) (cond v (Err h) (Ok q))) ≡ Ok r
    → NeighbourAccepted d l before (Some q) r
accepted d l true u v f g h before q p o w e = let z : ◌≡◌ {A = ℕ} 0 1 = cc in absurd (omega arith)
accepted d l false true v f g h before q p o w e = let z : ◌≡◌ {A = ℕ} 0 1 = cc in absurd (omega arith)
accepted d l false false true f g h before q p o w e = let z : ◌≡◌ {A = ℕ} 0 1 = cc in absurd (omega arith)
accepted d l false false false f g h before q {r} p o w e =
    let i : q ≡ r = cc in
    rw (← i) (record { held = refl; rises = leb-false q.number before.number p; inside = o; apart = w })

pub accepted_neighbour : (d l : ℕ) (before : LoadRecord) (read : Option LoadRecord) {r : LoadRecord} → checked_neighbour d l before read ≡ Ok r → NeighbourAccepted d l before read r
unfolding checked_neighbour
accepted_neighbour d l before (Some q) e =
    accepted d l (leb q.number before.number) (out_of_trench (neighbour_of q)) (too_near d l (neighbour_of q)) _ _ _ before q refl refl refl e
accepted_neighbour d l before None e = let z : ◌≡◌ {A = ℕ} 0 1 = cc in absurd (omega arith)

-- ---- the chain

module _ (d l : ℕ) (s : List ℕ) where
  pub links_rise : (r n : LoadRecord) → checked_neighbour d l r (record_at s r.next) ≡ Ok n → above n < above r
  links_rise r n e =
      let a = accepted_neighbour d l r (record_at s r.next) e in
      let few = held_number s r.next a.held in
      let rises = a.rises in
      omega arith

  -- "0 to 48": a chain has no more neighbours than there are records above the one that it begins at
  pub few_neighbours : (r : LoadRecord) → length (records_in (neighbour_walk s d l r)) ≤ above r
  few_neighbours r = few (checked_neighbour d l) above s links_rise _ r

  -- every neighbour of a chain is one that 15 and 16 let pass, for the numbers of a cable of this diameter and depth
  module _ (k : CableNumbers) (ed : k.d ≡ d) (el : k.l ≡ l) where
    pub accepted_inside : (r n : LoadRecord) → checked_neighbour d l r (record_at s r.next) ≡ Ok n → InTrench k (neighbour_of n)
    accepted_inside r n e =
        let a = accepted_neighbour d l r (record_at s r.next) e in
        let both = neither (ltb most_offset (nat_abs (neighbour_of n).offset)) (outside (least_depth to most_depth) (neighbour_of n).depth) a.inside in
        let depth = passed_within least_depth most_depth (neighbour_of n).depth both.1 in
        record {
          offset_to = ltb-false most_offset (nat_abs (neighbour_of n).offset) both.0;
          depth_from = depth.0;
          depth_to = depth.1;
          apart = rw (ed, el) (ltb-false (100 * (source_of l (neighbour_of n)).near) (d * d) a.apart);
        }

    all_of : (rs : List LoadRecord) → AtRecords (λ n. InTrench k (neighbour_of n)) rs → AllInTrench k (map neighbour_of rs)
    all_of [] none = exact.none
    all_of (r ∷ rs) (more p ps) = exact.more p (all_of rs ps)

    pub all_in_trench : (r : LoadRecord) → AllInTrench k (neighbours_in (neighbour_walk s d l r))
    all_in_trench r = all_of _ (at_records (checked_neighbour d l) (λ n. InTrench k (neighbour_of n)) s accepted_inside _ r)
