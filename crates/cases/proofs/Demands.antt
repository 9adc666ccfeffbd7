-- Demand 3 follows from the contracts of the seven calls, for every answer that is no refusal: what a contract no longer says cannot be taken from it.
use mathlib.Core.Path.{◌≡◌, refl, sym, ap, ◌∙◌}
use mathlib.Core.List.{List, [], ◌∷◌}
use Prim.Native.Nat.{ℕ}
use lib.IntN.{ℤ}
use lib.ListN.{length}
use Rattle.bounds.specs.declared.Bounds.{Bounds}
use Rattle.refusals.specs.Stated.{Stated, stated_values, stated_refusal}
use Rattle.refusals.specs.declared.Refusal.{Refusal}
use Rattle.refusals.proofs.Stated.{no_values}
use Rattle.cable_rules.specs.Checks.{in_use}
use Rattle.cable_rules.specs.Group.{Group, Given, accepted, refused, in_trench, given_cable}
use Rattle.cable_rules.specs.InRange.{Sound}
use Rattle.cable_rules.specs.declared.Cable.{Cable}
use Rattle.cable_rules.proofs.Acceptance.{given_alone, given_sound}
use Rattle.share_rules.specs.Answer.{share_from, share_answer, stated_share, ShareSaid}
use Rattle.share_rules.specs.declared.ShareAnswer.TheVariants as S
use Rattle.share_rules.proofs.Promises.{answered_accepted, answered_gap}
use Rattle.share_rules.proofs.Rising.{exact_share_bounds}
use Rattle.exact.specs.Share.{Neighbour}
use Rattle.sheet_rules.specs.Header.{cable_of, starting_current}
use Rattle.sheet_rules.specs.Chain.{chain_of}
use Rattle.sheet_rules.specs.Neighbours.{neighbours_in, trench_of}
use Rattle.sheet_rules.specs.Sheet.{group_of, given_sheet}
use Rattle.sheet_rules.proofs.SheetChecks.{given_group, sheet_sound}
use Rattle.history_rules.specs.Answer.{rise_from, rise_of_given, rise_answer, stated_rise, history_of, RiseSaid}
use Rattle.history_rules.specs.declared.RiseAnswer.TheVariants as R
use Rattle.history_rules.proofs.Said.{rise_steps, exact_rise_bounds}
use Rattle.cycle_rules.specs.Answer.{hour_pair, factor_from, factor_answer, stated_factor, FactorSaid}
use Rattle.cycle_rules.specs.declared.FactorAnswer.TheVariants as F
use Rattle.cycle_rules.proofs.Said.{exact_heating_bounds, factor_below_cap}
use Rattle.emergency_rules.specs.Answer.{current_of, current_answer, stated_current, CurrentSaid}
use Rattle.emergency_rules.specs.declared.CurrentAnswer.TheVariants as C
use Rattle.emergency_rules.proofs.Said.{current_share_bounds}
use Rattle.cases.specs.Demands.{ShareDemand, RiseDemand, FactorDemand, CurrentDemand}

-- values are stated of an accepted group alone
by_given : (given : Given) (group : Group) (one : (g : Group) → given ≡ accepted g → group ≡ g) (stated : Given → Stated) (refusals : (f : Refusal) → stated (refused f) ≡ stated_refusal f) {x : ℤ} {xs : List ℤ}
    → (what : Given) → given ≡ what → stated what ≡ stated_values (x ∷ xs) → given ≡ accepted group
by_given given group one stated refusals (accepted g) e p = e ∙ ap accepted (sym (one g e))
by_given given group one stated refusals (refused f) e p = absurd (no_values f (sym (refusals f) ∙ p))

-- of what is given, where it is one group and acceptable: a cable with what lies beside it
module _ (given : Given) (cable : Cable) (beside : List Neighbour) (one : (g : Group) → given ≡ accepted g → in_trench cable beside ≡ g) (sound : Sound given) where
  abbrev group : Group
  group = in_trench cable beside

  stated_given : (stated : Given → Stated) → ((f : Refusal) → stated (refused f) ≡ stated_refusal f) → {x : ℤ} {xs : List ℤ} → stated given ≡ stated_values (x ∷ xs) → given ≡ accepted group
  stated_given stated refusals p = by_given given group one stated refusals given refl p

  share_demand : (minutes : ℕ) (b : Bounds) → ShareSaid given minutes (S.Pair b) → ShareDemand cable beside minutes b.low b.high
  share_demand minutes b said =
      let is = stated_given (λ x. stated_share (share_answer x minutes)) (λ f. refl) (ap stated_share (sym said.answer)) in
      let p = said.distance group is b.low b.high refl in
      let a = sound group is in
      let from : share_from group minutes ≡ S.Pair b = sym (ap (λ x. share_answer x minutes) is) ∙ sym said.answer in
      record {
        from_0 = p.range.low_from;
        ordered = p.ordered;
        to_million = p.range.high_to;
        low_at_most = p.around.low_at_most;
        high_at_least = p.around.high_at_least;
        within_50 = p.narrow;
        bounded = record { bounds = exact_share_bounds group minutes (answered_accepted group minutes from a) };
        some_gap = answered_gap group a minutes from;
      }

  -- "one array of twenty-four hourly amperes"
  factor_demand : (hours : List ℕ) (m : ℕ) → length hours ≡ 24 → FactorSaid given hours (F.Factor m) → FactorDemand cable beside hours m
  factor_demand hours m l said =
      let is = stated_given (λ x. stated_factor (factor_answer x hours)) (λ f. refl) (ap stated_factor (sym said.answer)) in
      let p = said.distance group is m refl in
      let a = sound group is in
      let from : factor_from (hour_pair group) hours ≡ F.Factor m = sym (ap (λ x. factor_answer x hours) is) ∙ sym said.answer in
      record {
        not_above = p.not_above;
        larger_above = p.larger_above;
        bounded = record { bounds = exact_heating_bounds group a hours l from };
        below_cap = factor_below_cap group a hours l from;
      }

  current_demand : (h r minutes i : ℕ) → CurrentSaid given h r minutes (C.Current i) → CurrentDemand cable beside h r minutes i
  unfolding in_use
  current_demand h r minutes i said =
      let is = stated_given (λ x. stated_current (current_answer x h r minutes)) (λ f. refl) (ap stated_current (sym said.answer)) in
      let p = said.distance group is i refl in
      let a = sound group is in
      let from : current_of group h r minutes ≡ C.Current i = sym (ap (λ x. current_answer x h r minutes) is) ∙ sym said.answer in
      record { keeps = p.keeps; larger_breaks = p.larger_breaks; bounded = record { bounds = current_share_bounds group a h r minutes from } }

-- ---- a cable gives itself, alone in its trench

only_itself : (cable : Cable) (g : Group) → given_cable cable ≡ accepted g → in_trench cable [] ≡ g
only_itself cable g e = (given_alone cable e).1

module _ (cable : Cable) where
  pub share_of_cable : (minutes : ℕ) (b : Bounds) → ShareSaid (given_cable cable) minutes (S.Pair b) → ShareDemand cable [] minutes b.low b.high
  share_of_cable minutes b said = share_demand (given_cable cable) cable [] (only_itself cable) (given_sound cable) minutes b said

  pub factor_of_cable : (hours : List ℕ) (m : ℕ) → length hours ≡ 24 → FactorSaid (given_cable cable) hours (F.Factor m) → FactorDemand cable [] hours m
  factor_of_cable hours m l said = factor_demand (given_cable cable) cable [] (only_itself cable) (given_sound cable) hours m l said

  pub current_of_cable : (h r minutes i : ℕ) → CurrentSaid (given_cable cable) h r minutes (C.Current i) → CurrentDemand cable [] h r minutes i
  current_of_cable h r minutes i said = current_demand (given_cable cable) cable [] (only_itself cable) (given_sound cable) h r minutes i said

-- ---- a sheet gives its cable and its neighbours

module _ (s : List ℕ) where
  abbrev beside_it : List Neighbour
  beside_it = neighbours_in (trench_of s)

  its_own : (g : Group) → given_sheet s ≡ accepted g → in_trench (cable_of s) beside_it ≡ g
  its_own g e = given_group s e

  pub share_of_sheet : (minutes : ℕ) (b : Bounds) → ShareSaid (given_sheet s) minutes (S.Pair b) → ShareDemand (cable_of s) beside_it minutes b.low b.high
  share_of_sheet minutes b said = share_demand (given_sheet s) (cable_of s) beside_it its_own (sheet_sound s) minutes b said

  pub factor_of_sheet : (hours : List ℕ) (m : ℕ) → length hours ≡ 24 → FactorSaid (given_sheet s) hours (F.Factor m) → FactorDemand (cable_of s) beside_it hours m
  factor_of_sheet hours m l said = factor_demand (given_sheet s) (cable_of s) beside_it its_own (sheet_sound s) hours m l said

  pub current_of_sheet : (h r minutes i : ℕ) → CurrentSaid (given_sheet s) h r minutes (C.Current i) → CurrentDemand (cable_of s) beside_it h r minutes i
  current_of_sheet h r minutes i said = current_demand (given_sheet s) (cable_of s) beside_it its_own (sheet_sound s) h r minutes i said

  pub rise_demand : (b : Bounds) → RiseSaid (history_of s) (R.Rise b) → RiseDemand s b.low b.high
  unfolding in_use rise_answer
  rise_demand b said =
      let is = stated_given (given_sheet s) (cable_of s) beside_it its_own (sheet_sound s) (λ x. stated_rise (rise_of_given x (starting_current s) (chain_of s))) (λ f. refl) (ap stated_rise (sym said.answer)) in
      let p = said.distance (group_of s) is b.low b.high refl in
      let a = sheet_sound s (group_of s) is in
      let from : rise_from (group_of s) (starting_current s) (chain_of s) ≡ R.Rise b = sym (ap (λ x. rise_of_given x (starting_current s) (chain_of s)) is) ∙ sym said.answer in
      record {
        low_at_most = p.around.low_at_most;
        high_at_least = p.around.high_at_least;
        within_50_changes = p.width;
        bounded = record { bounds = exact_rise_bounds (group_of s) a s from };
        chained = rise_steps (group_of s) a s from;
      }
