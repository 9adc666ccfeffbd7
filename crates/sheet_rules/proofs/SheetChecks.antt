-- The check of a sheet in each of its ways out, what is known of a sheet that is accepted, and what it gives.
use Rattle.std.proofs.Common.{Result, Ok, Err}
use mathlib.Core.Path.{◌≡◌, refl, sym, ap, subst, ◌∙◌}
use mathlib.Core.List.{List, []}
use Prim.Native.Nat.{ℕ, suc}
use native.Mathlib.Omega.{arith}
use Rattle.refusals.specs.declared.Refusal.{Refusal}
use Rattle.cable_rules.specs.Checks.{in_use}
use Rattle.cable_rules.specs.Group as G
use Rattle.cable_rules.specs.Group.{Group, only, alone, given_cable}
use Rattle.cable_rules.specs.InRange.{numbers_in, Acceptable, Sound}
use Rattle.cable_rules.specs.Stated.{stated_check}
use Rattle.cable_rules.specs.declared.Cable.{Cable}
use Rattle.cable_rules.proofs.Acceptance.{accepted_in_range, beside_acceptable, given_sound}
use Rattle.sheet_rules.specs.Header.{cable_of, second_link, header_of, checked_header}
use Rattle.sheet_rules.specs.Records.{origin, before_first, checked_record}
use Rattle.sheet_rules.specs.Walk.{Walk, reached, refused, walk_from, records_in}
use Rattle.sheet_rules.specs.Chain.{load_walk}
use Rattle.sheet_rules.specs.Neighbours.{beside_first, neighbour_walk, neighbours_in, trench_of}
use Rattle.sheet_rules.specs.Sheet.{after_header, after_walk, checked_sheet, group_of, after_sheet, given_sheet, walk_in, group_in, Laid}
use Rattle.sheet_rules.specs.Promises.{outcome_of, InGround, TrenchSaid, GroundSaid, GivenBySheet, GivenAlone}
use Rattle.sheet_rules.specs.declared.LoadRecord.{LoadRecord}
use Rattle.sheet_rules.specs.declared.Header.{Header}
use Rattle.sheet_rules.specs.declared.Trench.{Trench}
use Rattle.sheet_rules.specs.declared.Ground.{Ground}
use Rattle.sheet_rules.proofs.HeaderChecks.{accepted_header}
use Rattle.sheet_rules.proofs.NeighbourChecks.{all_in_trench}

-- ---- each way out

-- by what a walk comes to
after_refused : (w : Walk) (check : Result Header Refusal) {f : Refusal} → outcome_of w ≡ Err f → Err f ≡ after_walk w check
after_refused (reached rs) check e = let z : ◌≡◌ {A = ℕ} 0 1 = cc in absurd (omega arith)
after_refused (refused g) check e = cc

after_passed : (w : Walk) (check : Result Header Refusal) → outcome_of w ≡ (Ok tt) → check ≡ after_walk w check
after_passed (reached rs) check e = refl
after_passed (refused g) check e = let z : ◌≡◌ {A = ℕ} 0 1 = cc in absurd (omega arith)

module _ (s : List ℕ) where
  pub header_refused : {f : Refusal} → checked_header s ≡ Err f → Err f ≡ checked_sheet s
  unfolding checked_sheet
  header_refused e = rw (e, checked_sheet)

  module _ {h : Header} (e : checked_header s ≡ Ok h) where
    past_header : after_walk (load_walk s (origin s)) (after_walk (trench_of s) (Ok (header_of s))) ≡ checked_sheet s
    unfolding checked_sheet
    past_header = rw (e, checked_sheet)

    pub load_refused : {f : Refusal} → outcome_of (load_walk s (origin s)) ≡ Err f → Err f ≡ checked_sheet s
    load_refused o = after_refused (load_walk s (origin s)) _ o ∙ past_header

    module _ (p : outcome_of (load_walk s (origin s)) ≡ (Ok tt)) where
      past_load : after_walk (trench_of s) (Ok (header_of s)) ≡ checked_sheet s
      past_load = after_passed (load_walk s (origin s)) _ p ∙ past_header

      pub neighbours_refused : {f : Refusal} → outcome_of (trench_of s) ≡ Err f → Err f ≡ checked_sheet s
      neighbours_refused o = after_refused (trench_of s) _ o ∙ past_load

      pub sheet_accepted : outcome_of (trench_of s) ≡ (Ok tt) → Ok h ≡ checked_sheet s
      sheet_accepted o = ap Ok (accepted_header s e).is ∙ after_passed (trench_of s) _ o ∙ past_load

    -- the walks of the code begin at the header's own record, and at the one of its second link
    module _ {first : LoadRecord} where
      pub load_walk_lem : first ≡ before_first h.start h.link → walk_from checked_record (suc first.minutes) s first ≡ load_walk s (origin s)
      load_walk_lem f = ap (λ r. load_walk s r) (f ∙ ap (λ (k : Header). before_first k.start k.link) (accepted_header s e).is)

      pub neighbour_walk_lem : first ≡ beside_first h.neighbours → neighbour_walk s h.cable.diameter h.cable.depth first ≡ trench_of s
      neighbour_walk_lem f = rw f (ap (λ (k : Header). neighbour_walk s k.cable.diameter k.cable.depth (beside_first k.neighbours)) (accepted_header s e).is)

-- ---- what is known once a sheet is accepted

pub record SheetAccepted (s : List ℕ) (h : Header) : Type 0 where
  pub is : h ≡ header_of s
  pub header : checked_header s ≡ Ok (header_of s)
  pub load : load_walk s (origin s) ≡ reached (records_in (load_walk s (origin s)))
  pub neighbours : trench_of s ≡ reached (records_in (trench_of s))

by_checks : (s : List ℕ) (a : Result Header Refusal) (l n : Walk) {h : Header} → checked_header s ≡ a → load_walk s (origin s) ≡ l → trench_of s ≡ n → after_header a (after_walk l (after_walk n (Ok (header_of s)))) ≡ Ok h → SheetAccepted s h
by_checks s (Err f) l n ea el en e = let z : ◌≡◌ {A = ℕ} 0 1 = cc in absurd (omega arith)
by_checks s (Ok g) (refused f) n ea el en e = let z : ◌≡◌ {A = ℕ} 0 1 = cc in absurd (omega arith)
by_checks s (Ok g) (reached rs) (refused f) ea el en e = let z : ◌≡◌ {A = ℕ} 0 1 = cc in absurd (omega arith)
by_checks s (Ok g) (reached rs) (reached ns) ea el en e =
    record {
      is = cc;
      header = ea ∙ ap Ok (accepted_header s ea).is;
      load = el ∙ ap (λ w. reached (records_in w)) (sym el);
      neighbours = en ∙ ap (λ w. reached (records_in w)) (sym en);
    }

pub accepted_sheet : (s : List ℕ) {h : Header} → checked_sheet s ≡ Ok h → SheetAccepted s h
unfolding checked_sheet
accepted_sheet s e = by_checks s (checked_header s) (load_walk s (origin s)) (trench_of s) refl refl refl e

-- ---- what it gives

module _ (s : List ℕ) {g : Group} where
  by_sheet : (a : Result Header Refusal) → checked_sheet s ≡ a → after_sheet a (G.accepted (group_of s)) ≡ G.accepted g → checked_sheet s ≡ Ok (header_of s)
  by_sheet (Ok h) e p = e ∙ ap Ok (accepted_sheet s e).is
  by_sheet (Err f) e p = let z : ◌≡◌ {A = ℕ} 0 1 = cc in absurd (omega arith)

  pub given_sheet_lem : given_sheet s ≡ G.accepted g → checked_sheet s ≡ Ok (header_of s)
  unfolding given_sheet
  given_sheet_lem p = by_sheet (checked_sheet s) refl p

  -- the group of its own cable and neighbours, and no other
  pub given_group : given_sheet s ≡ G.accepted g → group_of s ≡ g
  unfolding given_sheet
  given_group p = let e : G.accepted (group_of s) ≡ G.accepted g = ap (λ a. after_sheet a (G.accepted (group_of s))) (sym (given_sheet_lem p)) ∙ p in cc

cable_acceptable : (s : List ℕ) {h : Header} → checked_header s ≡ Ok h → Acceptable (alone h.cable)
cable_acceptable s {h} e = accepted_in_range h.cable (ap (λ c. (stated_check c).number) (accepted_header s e).cable_accepted)

pub in_ground : (s : List ℕ) {h : Header} → checked_header s ≡ Ok h → InGround h.cable
unfolding in_use
in_ground s e = let n = (cable_acceptable s e).numbers in record { diameter_to = n.d_to; depth_to = n.l_to }

module _ (s : List ℕ) {h : Header} (a : SheetAccepted s h) where
  pub group_acceptable : Acceptable (group_of s)
  unfolding in_use
  group_acceptable =
      beside_acceptable (alone (cable_of s)).cable (neighbours_in (trench_of s)) (cable_acceptable s a.header)
      (all_in_trench (cable_of s).diameter (cable_of s).depth s (numbers_in (group_of s)) refl refl (beside_first (second_link s)))

  module _ {t : Trench} (d : TrenchSaid h t) where
    trench_cable : t.cable ≡ (alone (cable_of s)).cable
    trench_cable = ap (λ g. g.cable) d.cable ∙ ap (λ (k : Header). (alone k.cable).cable) a.is

    trench_link : t.neighbours ≡ second_link s
    trench_link = d.neighbours ∙ ap (λ (k : Header). k.neighbours) a.is

    same_walk : walk_in s t ≡ trench_of s
    unfolding in_use
    same_walk = rw (trench_cable, trench_link) refl

    pub trench_group : group_in s t ≡ group_of s
    trench_group = rw (same_walk, trench_cable) refl

    pub trench_laid : Laid s t
    trench_laid =
        record {
          acceptable = subst Acceptable (sym trench_group) group_acceptable;
          records = same_walk ∙ a.neighbours ∙ ap (λ w. reached (records_in w)) (sym same_walk);
        }

pub sheet_sound : (s : List ℕ) → Sound (given_sheet s)
sheet_sound s g p = subst Acceptable (given_group s p) (group_acceptable s (accepted_sheet s (given_sheet_lem s p)))

-- in each way out
module _ (s : List ℕ) where
  pub given_by_header : {h : Header} → checked_sheet s ≡ Ok h → {g : Ground} → GroundSaid s h g → GivenBySheet s (Ok g)
  unfolding given_sheet
  given_by_header e {g} d =
      record {
        answer = ap (λ b. G.accepted (group_in b g.trench)) d.sheet ∙ ap G.accepted (trench_group s (accepted_sheet s e) d.trench) ∙ rw (e, given_sheet);
        beside = d.sheet;
      }

  pub refused_by_sheet : {f : Refusal} → checked_sheet s ≡ Err f → GivenBySheet s (Err f)
  unfolding given_sheet
  refused_by_sheet e = record { answer = rw (e, given_sheet); beside = tt }

-- ---- without a sheet

no_walk : (s : List ℕ) (used : Cable) → walk_in s (record { cable = used; neighbours = 0 }) ≡ reached []
unfolding walk_from
no_walk s used = refl

module _ (s : List ℕ) (used : Cable) where
  pub no_neighbours : group_in s (record { cable = used; neighbours = 0 }) ≡ only used
  no_neighbours = rw (no_walk s used) refl

  pub alone_laid : Acceptable (only used) → Laid s (record { cable = used; neighbours = 0 })
  alone_laid a =
      record {
        acceptable = subst Acceptable (sym no_neighbours) a;
        records = no_walk s used ∙ ap (λ w. reached (records_in w)) (sym (no_walk s used));
      }

-- in each way out
module _ (c : Cable) where
  pub given_by_cable : {used : Cable} → given_cable c ≡ G.accepted (only used) → {g : Ground} → g.trench ≡ record { cable = used; neighbours = 0 } → GivenAlone c (Ok g)
  given_by_cable {used} p {g} t =
      let group : (s : List ℕ) → group_in s g.trench ≡ only used = λ s. ap (group_in s) t ∙ no_neighbours s used in
      record {
        answer = ap G.accepted (group g.sheet.now) ∙ sym p;
        beside = λ s. record { group = group s ∙ sym (group g.sheet.now); laid = subst (Laid s) (sym t) (alone_laid s used (given_sound c (only used) p)) };
      }

  pub refused_by_cable : {f : Refusal} → given_cable c ≡ G.refused f → GivenAlone c (Err f)
  refused_by_cable p = record { answer = sym p; beside = tt }
