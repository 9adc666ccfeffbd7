-- What is promised of an answer follows from the answer: a factor that is given is the distance of document 01, 'What the distances say', from the exact one, which
-- is that of the largest exact sum (document 02, note 1). And what is true of that sum for every accepted group and day.
use Rattle.std.proofs.Common.{Option, Some, None}
use mathlib.Core.Path.{◌≡◌, refl, sym, ap, subst, ◌∙◌}
use mathlib.Core.Bool.{Bool, true, false, cond}
use mathlib.Core.List.{List, [], ◌∷◌}
use Prim.Native.Nat.{ℕ, suc, ◌*◌, ◌≤◌, ◌<◌}
use native.Mathlib.Nat.{pos_of_ne-zero}
use native.Mathlib.Omega.{arith}
use lib.Dec.{T}
use lib.IntN.{pos, ◌+ℤ◌}
use lib.ListN.{length}
use lib.Signed.{◌≤ℤ◌}
use Rattle.numbers.specs.Signed.{of_int}
use Rattle.numbers.proofs.SignedFractions.{refl≼ₛ}
use Rattle.numbers.proofs.SignedIntegers.{of_int_order}
use Rattle.exact.specs.Value.{Value, AtLeast, ◌⊴◌, Fine, from_one}
use Rattle.exact.specs.Share.{Accepted}
use Rattle.exact.proofs.Values.{constant⊴, add⊴, fine_constant, fine_add, most_to_least}
use Rattle.exact.proofs.Largest.{largest_least, largest_fine, largest_bounds}
use Rattle.refusals.specs.Stated.{stated_values}
use Rattle.refusals.proofs.Stated.{same_values, no_values}
use Rattle.cable_rules.specs.Group.{Group, Given}
use Rattle.cable_rules.specs.InRange.{numbers_in, Acceptable, Sound}
use Rattle.distance.proofs.Spread.{least_add}
use Rattle.distance.proofs.Enclosed.{Enclosed}
use Rattle.distance.proofs.Rising.{Rising}
use Rattle.share_rules.specs.Promises.{width_of, exact_share}
use Rattle.share_rules.proofs.Rising.{share_enclosed, exact_share_bounds, accepted_at, exact_shares_rise}
use Rattle.cycle_rules.specs.Day.{day_hours, highest_load}
use Rattle.cycle_rules.specs.Heating.{heating_hours, common_divisor, heating_sum, reference_hour}
use Rattle.cycle_rules.specs.Factor.{largest_factor}
use Rattle.cycle_rules.specs.Exact.{exact_heating, largest_heating, sum_width, FactorDistance}
use Rattle.cycle_rules.specs.Answer.{first_above, all_zero, refused11, after_hours, factor_from, hour_pair, factor_answer, stated_factor, FactorSaid}
use Rattle.cycle_rules.specs.declared.FactorAnswer.{FactorAnswer}
use Rattle.cycle_rules.specs.declared.FactorAnswer.TheVariants.{Factor, Refused}
use Rattle.cycle_rules.proofs.Day.{highest_zero}
use Rattle.cycle_rules.proofs.Heating.{divisor_above_zero}
use Rattle.cycle_rules.proofs.Distance.{heating_bounds_lem}
use Rattle.cycle_rules.proofs.Hottest.{largest_heating_sound, largest_at_most, factor_distance}
use Rattle.cycle_rules.proofs.NeverPastOne.{heating_fine, heating_never_past_one}
use Rattle.cycle_rules.proofs.UnderTheCap.{below_cap}

-- ---- an accepted group

module _ (g : Group) (a : Acceptable g) where
  pub hour_accepted : (i : ℕ) → i < heating_hours → Accepted (numbers_in g) (60 * suc i)
  hour_accepted i h = accepted_at g a (60 * suc i) (omega arith) (omega arith)

  hour_enclosed : (i : ℕ) → i < heating_hours → Enclosed (width_of g) (exact_share g (60 * suc i)) (hour_pair g (suc i))
  hour_enclosed i h = share_enclosed g (60 * suc i) (hour_accepted i h)

  hours_rise : Rising (exact_share g) (60 * heating_hours)
  hours_rise = exact_shares_rise g a (60 * heating_hours) (omega arith)

  module _ (hours : List ℕ) (z : 0 < highest_load hours) where
    abbrev sums : ℕ → Value
    sums = exact_heating (exact_share g) hours

    zd : 0 < common_divisor hours
    zd = divisor_above_zero hours z

    -- no lower fraction of the largest exact sum exceeds an upper one ..
    pub largest_never_crosses : largest_heating (exact_share g) hours ⊴ largest_heating (exact_share g) hours
    largest_never_crosses = largest_heating_sound (width_of g) (exact_share g) (hour_pair g) hour_enclosed hours zd

    -- .. from some order on its gap is at most any e above 0 ..
    pub largest_heating_fine : Fine (largest_heating (exact_share g) hours)
    largest_heating_fine = largest_fine sums (λ h. heating_fine (exact_share g) hours_rise hours h zd) day_hours

    -- .. and every order from 1 gives bounds
    largest_heating_bounds : (n : ℕ) → T (from_one n) → T ((largest_heating (exact_share g) hours).ok n)
    largest_heating_bounds n t =
        largest_bounds sums n (λ h. heating_bounds_lem (exact_share g) n (λ i p. exact_share_bounds g (60 * suc i) (hour_accepted i p) n t) hours h zd) day_hours

    -- one is at least the exact sum of every reference hour, and so the largest
    pub never_past_one : (hour : ℕ) → AtLeast (of_int (pos 1000000)) (sums hour)
    never_past_one hour = heating_never_past_one (exact_share g) hours_rise hours hour zd

    pub largest_never_past_one : AtLeast (of_int (pos 1000000)) (largest_heating (exact_share g) hours)
    largest_never_past_one = largest_least sums (never_past_one 0) day_hours (λ h p. never_past_one h)

    -- so the largest rounded sum passes one by no more than 6 widths and 1
    pub largest_sum_to : heating_sum (hour_pair g) hours (reference_hour (hour_pair g) hours) ≤ℤ (pos 1000000 +ℤ pos (sum_width (width_of g)))
    largest_sum_to =
        let w = pos (sum_width (width_of g)) in
        let fine = fine_add largest_heating_fine (fine_constant (of_int w)) in
        of_int_order _ _
        (most_to_least (add⊴ largest_never_crosses (constant⊴ (refl≼ₛ (of_int w)))) fine fine
        (largest_at_most (width_of g) (exact_share g) (hour_pair g) hour_enclosed hours zd)
        (least_add (pos 1000000) w largest_never_past_one))

-- an array of a day that is not all 0 has an hour with a load
some_load : (hours : List ℕ) → length hours ≡ day_hours → all_zero hours ≡ false → 0 < highest_load hours
some_load hours l e = pos_of_ne-zero (λ z. let all : all_zero hours ≡ true = highest_zero hours (rw l z) in let f : ◌≡◌ {A = ℕ} 0 1 = cc in omega arith)

-- ---- a factor is given only where checks 10 and 11 pass

record Reported (g : Group) (hours : List ℕ) (m : ℕ) : Type 0 where
  loaded : 0 < highest_load hours
  largest_is : largest_factor (heating_sum (hour_pair g) hours (reference_hour (hour_pair g) hours)) ≡ m

module _ (g : Group) (a : Acceptable g) (hours : List ℕ) (l : length hours ≡ day_hours) {m : ℕ} (e : factor_from (hour_pair g) hours ≡ Factor m) where
  by_tests : (o : Option ℕ) (u : Bool) → all_zero hours ≡ u
      → after_hours o (cond u (Refused refused11) (Factor (largest_factor (heating_sum (hour_pair g) hours (reference_hour (hour_pair g) hours))))) ≡ Factor m
      → Reported g hours m
  by_tests (Some hour) u eu q = let z : ◌≡◌ {A = ℕ} 0 1 = cc in absurd (omega arith)
  by_tests None true eu q = let z : ◌≡◌ {A = ℕ} 0 1 = cc in absurd (omega arith)
  by_tests None false eu q = record { loaded = some_load hours l eu; largest_is = cc }

  report : Reported g hours m
  unfolding factor_from
  report = by_tests (first_above hours) (all_zero hours) refl e

  reported_distance : FactorDistance (width_of g) (largest_heating (exact_share g) hours) m
  reported_distance =
      subst (λ (k : ℕ). FactorDistance (width_of g) (largest_heating (exact_share g) hours) k) report.largest_is
      (factor_distance (width_of g) (exact_share g) (hour_pair g) (hour_enclosed g a) hours (divisor_above_zero hours report.loaded))

  -- every order from 1 gives bounds of the exact sum that a factor is held against
  pub exact_heating_bounds : (n : ℕ) → T (from_one n) → T ((largest_heating (exact_share g) hours).ok n)
  exact_heating_bounds n t = largest_heating_bounds g a hours report.loaded n t

  -- no factor reaches the cap of 5,000
  pub factor_below_cap : m ≤ 4898
  factor_below_cap = subst (λ (k : ℕ). k ≤ 4898) report.largest_is (below_cap hours (hour_pair g) (λ i h. (hour_enclosed g a i h).promised.ordered) report.loaded)

-- every factor is stated
stated_itself : (m : ℕ) → stated_factor (Factor m) ≡ stated_values (pos m ∷ [])
stated_itself m = refl

-- one value is stated of a factor alone
reported : (r : FactorAnswer) {m : ℕ} → stated_factor r ≡ stated_values (pos m ∷ []) → r ≡ Factor m
reported (Factor k) e = let only = same_values (sym (stated_itself k) ∙ e) in cc
reported (Refused f) e = absurd (no_values f e)

-- what the contract of `factor` says follows from its answer
pub said : {given : Given} {hours : List ℕ} {r : FactorAnswer} → Sound given → length hours ≡ day_hours → r ≡ factor_answer given hours → FactorSaid given hours r
said {given} {hours} {r} sound l e = record {
  answer = e;
  distance = λ g is m q. reported_distance g (sound g is) hours l (sym (ap (λ x. factor_answer x hours) is) ∙ sym e ∙ reported r q);
}
