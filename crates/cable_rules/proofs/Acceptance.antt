-- Checks 2 and 3 pass exactly where the cable in use is in range and so is its field 8.
use Rattle.std.proofs.Common.{Option, Some, None, Result, Ok, Err}
use mathlib.Core.Path.{◌≡◌, refl, ap, subst, ◌∙◌}
use mathlib.Core.Bool.{Bool, true, false, cond}
use Prim.Native.Nat.{ℕ, ◌≤◌, ◌<◌}
use native.Mathlib.Omega.{arith}
use borrow.Author.Tests.{ltb-false, le-ltb}
use lib.Dec.{eqb, ltb}
use Rattle.ranges.specs.Ranges.{◌to◌, or_zero, outside}
use Rattle.ranges.proofs.Ranges.{passed_within, within_passes, Each, none_outside, each_passes}
use Rattle.cable_rules.specs.Checks.{ranges, fields, outside_field, after_fields, checked, in_use}
use Rattle.cable_rules.specs.Stated.{stated_check}
use mathlib.Core.List.{List}
use Rattle.exact.specs.Share.{Neighbour, AllInTrench, none}
use Rattle.cable_rules.specs.Group.{Group, only, accepted, refused, alone, after_check, given_cable}
use Rattle.cable_rules.specs.InRange.{numbers_in, Acceptable, Sound}
use Rattle.cable_rules.specs.declared.Cable.{Cable}
use Rattle.refusals.specs.declared.Refusal.{Refusal}

-- the diffusivity in use, where the default is in range
module _ (low high default x : ℕ) (l : low ≤ default) (h : default ≤ high) where
  used_within : (t : Bool) → eqb x 0 ≡ t → outside (or_zero (low to high)) x ≡ false → (low ≤ cond t default x) × (cond t default x ≤ high)
  used_within true e p = (l, h)
  used_within false e p = passed_within low high x (rw e at p)

  used_passes : (t : Bool) → eqb x 0 ≡ t → low ≤ cond t default x → cond t default x ≤ high → outside (or_zero (low to high)) x ≡ false
  used_passes true e p q = rw e
  used_passes false e p q = rw e (within_passes low high x p q)

infixr 5 ◌and◌
◌and◌ : {A B : Type 0} → A → B → A × B
p and q = (p, q)

-- ---- the two checks

both_passed : (o : Option ℕ) (u : Bool) (g : Refusal) (c : Cable) → 0 < g.number → (stated_check (after_fields o (cond u (Err g) (Ok c)))).number ≡ 0 → (o ≡ None) × (u ≡ false)
both_passed (Some field) u g c q e = absurd (omega arith)
both_passed None true g c q e = absurd (omega arith)
both_passed None false g c q e = (refl, refl)

-- with any default that is in the range of field 3
module _ (default : ℕ) (least : 100 ≤ default) (most : default ≤ 2000) where
  in_use_acceptable : (c : Cable) → (stated_check (checked c)).number ≡ 0 → Acceptable (only (in_use default c))
  unfolding checked outside_field in_use
  in_use_acceptable c e =
      let both = both_passed (outside_field c) (ltb c.fast_rate c.slow_rate) _ c (omega arith) e in
      let i = none_outside 1 ranges (fields c) both.0 in
      let d = passed_within 100 1500 c.diameter i.0 in
      let l = passed_within 300 5000 c.depth i.1.0 in
      let s = used_within 100 2000 default c.diffusivity least most (eqb c.diffusivity 0) refl i.1.1.0 in
      let k = passed_within 0 1000000 c.surface_ratio i.1.1.1.0 in
      let w = passed_within 0 1000000 c.fast_weight i.1.1.1.1.0 in
      let fast = passed_within 1 100000 c.fast_rate i.1.1.1.1.1.0 in
      let slow = passed_within 1 100000 c.slow_rate i.1.1.1.1.1.1.0 in
      let rated = passed_within 50 2000 c.rated i.1.1.1.1.1.1.1.0 in
      record {
        numbers =
            record {
              d_from = d.0;
              d_to = d.1;
              l_from = l.0;
              l_to = l.1;
              s_from = s.0;
              s_to = s.1;
              k_to = k.1;
              w_to = w.1;
              fast_from = fast.0;
              fast_to = fast.1;
              slow_from = slow.0;
              slow_to = ltb-false c.fast_rate c.slow_rate both.1;
            };
        beside = none;
        rated_from = rated.0;
        rated_to = rated.1;
      }

  acceptable_in_use : (c : Cable) → Acceptable (only (in_use default c)) → checked c ≡ Ok c
  unfolding checked outside_field in_use
  acceptable_in_use c a =
      let n = a.numbers in
      let i : Each ranges (fields c) =
      within_passes 100 1500 c.diameter n.d_from n.d_to
      and within_passes 300 5000 c.depth n.l_from n.l_to
      and used_passes 100 2000 default c.diffusivity least most (eqb c.diffusivity 0) refl n.s_from n.s_to
      and within_passes 0 1000000 c.surface_ratio (omega arith) n.k_to
      and within_passes 0 1000000 c.fast_weight (omega arith) n.w_to
      and within_passes 1 100000 c.fast_rate n.fast_from n.fast_to
      and within_passes 1 100000 c.slow_rate n.slow_from (omega (arith, n.slow_to, n.fast_to))
      and within_passes 50 2000 c.rated a.rated_from a.rated_to
      and tt
      in
      simp (each_passes 1 ranges (fields c) i, le-ltb _ _ n.slow_to)

pub accepted_in_range : (c : Cable) → (stated_check (checked c)).number ≡ 0 → Acceptable (alone c)
accepted_in_range c e = in_use_acceptable _ (omega arith) (omega arith) c e

pub in_range_accepted : (c : Cable) → Acceptable (alone c) → checked c ≡ Ok c
in_range_accepted c a = acceptable_in_use _ (omega arith) (omega arith) c a

-- a cable that is acceptable alone is so with neighbours that may lie beside it
pub beside_acceptable : (used : Cable) (ns : List Neighbour) → Acceptable (only used) → AllInTrench (numbers_in (record { cable = used; neighbours = ns })) ns → Acceptable (record { cable = used; neighbours = ns })
beside_acceptable used ns a beside =
    let n = a.numbers in
    record {
      numbers =
          record {
            d_from = n.d_from;
            d_to = n.d_to;
            l_from = n.l_from;
            l_to = n.l_to;
            s_from = n.s_from;
            s_to = n.s_to;
            k_to = n.k_to;
            w_to = n.w_to;
            fast_from = n.fast_from;
            fast_to = n.fast_to;
            slow_from = n.slow_from;
            slow_to = n.slow_to;
          };
      beside = beside;
      rated_from = a.rated_from;
      rated_to = a.rated_to;
    }

-- an accepted cable comes back as it is
accepted_same : (o : Option ℕ) (u : Bool) (g : Refusal) (c d : Cable) → after_fields o (cond u (Err g) (Ok c)) ≡ Ok d → d ≡ c
accepted_same (Some field) u g c d e = let z : ◌≡◌ {A = ℕ} 0 1 = cc in absurd (omega arith)
accepted_same None true g c d e = let z : ◌≡◌ {A = ℕ} 0 1 = cc in absurd (omega arith)
accepted_same None false g c d e = cc

pub accepted_is : (c d : Cable) → checked c ≡ Ok d → d ≡ c
unfolding checked outside_field
accepted_is c d e = accepted_same (outside_field c) (ltb c.fast_rate c.slow_rate) _ c d e

-- ---- what is given

pub check_given : (c d : Cable) {g : Group} → checked c ≡ Ok d → g ≡ alone d → accepted g ≡ given_cable c
unfolding given_cable
check_given c d e u = rw (e, given_cable) (ap accepted (u ∙ ap alone (accepted_is c d e)))

pub check_refused : (c : Cable) {f : Refusal} → checked c ≡ Err f → refused f ≡ given_cable c
unfolding given_cable
check_refused c e = rw (e, given_cable)

given_by : (c : Cable) (a : Result Cable Refusal) {g : Group} → checked c ≡ a → after_check a (accepted (alone c)) ≡ accepted g → (checked c ≡ Ok c) × (alone c ≡ g)
given_by c (Ok d) e p = (e ∙ ap Ok (accepted_is c d e), cc)
given_by c (Err f) e p = let z : ◌≡◌ {A = ℕ} 0 1 = cc in absurd (omega arith)

-- a cable gives the group of itself alone, and only where both checks pass
pub given_alone : (c : Cable) {g : Group} → given_cable c ≡ accepted g → (checked c ≡ Ok c) × (alone c ≡ g)
unfolding given_cable
given_alone c p = given_by c (checked c) refl p

pub given_sound : (c : Cable) → Sound (given_cable c)
given_sound c g p =
    let by = given_alone c p in
    subst Acceptable by.1 (accepted_in_range c (ap (λ (a : Result Cable Refusal). (stated_check a).number) by.0))
