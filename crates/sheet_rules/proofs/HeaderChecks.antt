-- The check of a header in each of its ways out, and what is known of a header that is accepted.
use Rattle.std.proofs.Common.{Result, Ok, Err}
use mathlib.Core.Path.{◌≡◌, refl, ap, ◌∙◌}
use mathlib.Core.Bool.{Bool, true, false, cond}
use mathlib.Core.List.{List}
use Prim.Native.Nat.{ℕ, ◌≤◌, ◌<◌}
use native.Mathlib.Omega.{arith}
use borrow.Author.Tests.{lt-ltb, le-ltb, ltb-false}
use lib.Dec.{ltb}
use lib.ListN.{length}
use Rattle.cable_rules.specs.Checks.{checked}
use Rattle.cable_rules.specs.declared.Cable.{Cable}
use Rattle.refusals.specs.declared.Place.TheVariants.{None}
use Rattle.refusals.specs.declared.Refusal.{Refusal}
use Rattle.cable_rules.proofs.Acceptance.{accepted_is}
use Rattle.sheet_rules.specs.Layout.{wrong_length}
use Rattle.sheet_rules.specs.Header.{cable_of, starting_current, first_link, second_link, header_of, most_start, after_cable, checked_header}
use Rattle.sheet_rules.specs.declared.Header.{Header}

module _ (s : List ℕ) where
  pub length_refused : wrong_length (length s) ≡ true → Err (record { number = 1; place = None }) ≡ checked_header s
  unfolding checked_header
  length_refused e = rw (e, checked_header)

  module _ (e : wrong_length (length s) ≡ false) where
    pub cable_refused : {f : Refusal} → checked (cable_of s) ≡ Err f → Err f ≡ checked_header s
    unfolding checked_header
    cable_refused c = rw (e, c, checked_header)

    module _ {c : Cable} (a : checked (cable_of s) ≡ Ok c) where
      pub start_refused : most_start < starting_current s → Err (record { number = 4; place = None }) ≡ checked_header s
      unfolding checked_header
      start_refused h = rw (e, a, lt-ltb _ _ h, checked_header)

      pub header_accepted : starting_current s ≤ most_start → Ok (record { cable = c; start = starting_current s; link = first_link s; neighbours = second_link s }) ≡ checked_header s
      unfolding checked_header
      header_accepted h =
          ap (λ d. Ok (record { cable = d; start = starting_current s; link = first_link s; neighbours = second_link s })) (accepted_is (cable_of s) c a)
          ∙ rw (e, a, le-ltb _ _ h, checked_header)

-- what is known once a header is accepted
pub record HeaderAccepted (s : List ℕ) (h : Header) : Type 0 where
  pub length_right : wrong_length (length s) ≡ false
  pub cable_accepted : checked h.cable ≡ Ok h.cable
  pub start_most : h.start ≤ most_start
  pub is : h ≡ header_of s

accepted : (s : List ℕ) (t u : Bool) (a : Result Cable Refusal) {h : Header} → wrong_length (length s) ≡ t → checked (cable_of s) ≡ a → ltb most_start (starting_current s) ≡ u
    → cond t (Err (record { number = 1; place = None })) (after_cable a (cond u (Err (record { number = 4; place = None })) (Ok (header_of s)))) ≡ Ok h
    → HeaderAccepted s h
accepted s true u a p q r e = let z : ◌≡◌ {A = ℕ} 0 1 = cc in absurd (omega arith)
accepted s false u (Err f) p q r e = let z : ◌≡◌ {A = ℕ} 0 1 = cc in absurd (omega arith)
accepted s false true (Ok c) p q r e = let z : ◌≡◌ {A = ℕ} 0 1 = cc in absurd (omega arith)
accepted s false false (Ok c) {h} p q r e =
    let i : header_of s ≡ h = cc in
    rw (← i)
    (record {
      length_right = p;
      cable_accepted = q ∙ ap Ok (accepted_is (cable_of s) c q);
      start_most = ltb-false most_start (starting_current s) r;
      is = refl;
    })

pub accepted_header : (s : List ℕ) {h : Header} → checked_header s ≡ Ok h → HeaderAccepted s h
unfolding checked_header
accepted_header s e =
    accepted s (wrong_length (length s)) (ltb most_start (starting_current s)) (checked (cable_of s)) refl refl refl e
