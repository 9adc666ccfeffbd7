-- The answer of a cyclic factor in each of its ways out, and the shares that are given at whole hours.
use Rattle.std.proofs.Common.{Some, None}
use mathlib.Core.Path.{◌≡◌, sym, ap, ◌∙◌}
use mathlib.Core.Bool.{true, false}
use mathlib.Core.List.{List}
use Prim.Native.Nat.{ℕ, suc, ◌+◌, ◌*◌, ◌≤◌, ◌<◌}
use native.Mathlib.Numerals.{add-one}
use native.Mathlib.Omega.{arith}
use lib.ListN.{length}
use lib.IntN.{ℤ, pos, negsuc, nat_abs}
use lib.Signed.{◌≤ℤ◌}
use Rattle.numbers.proofs.Integers.{le_lin}
use Rattle.bounds.specs.Promises.{Sized}
use Rattle.bounds.specs.declared.Bounds.{Bounds}
use Rattle.refusals.specs.declared.Refusal.{Refusal}
use Rattle.ranges.proofs.Ranges.{within_passes}
use Rattle.cable_rules.specs.Group.{Group, Given, refused}
use Rattle.share_rules.specs.Answer.{most_minutes, share_from}
use Rattle.share_rules.specs.declared.ShareAnswer.TheVariants as S
use Rattle.share_rules.proofs.Answers.{share_given}
use Rattle.share_rules.proofs.Promises.{share_pair_range, answered_pair}
use Rattle.cycle_rules.specs.Day.{day_hours, highest_load}
use Rattle.cycle_rules.specs.Heating.{heating_hours, heating_sum, reference_hour}
use Rattle.cycle_rules.specs.Factor.{largest_factor}
use Rattle.cycle_rules.specs.Answer.{first_above, all_zero, refused10, refused11, factor_from, hour_pair, factor_answer}
use Rattle.cycle_rules.specs.declared.FactorAnswer.{FactorAnswer}
use Rattle.cycle_rules.specs.declared.FactorAnswer.TheVariants.{Factor, Refused}
use Rattle.cycle_rules.proofs.Day.{highest_zero, some_loaded}

-- ---- the shares

end_sized : (z : ℤ) {n : ℕ} → pos 0 ≤ℤ z → z ≤ℤ pos n → nat_abs z ≤ n
end_sized (pos k) l h = omega (arith, le_lin h)
end_sized (negsuc k) l h = absurd l.le

module _ (g : Group) (i : ℕ) where
  pub hour_given : i < heating_hours → share_from g (60 * (i + 1)) ≡ S.Pair (hour_pair g (suc i))
  hour_given h =
      sym (share_given g (60 * (i + 1)) (within_passes 1 most_minutes (60 * (i + 1)) (omega arith) (omega arith)))
      ∙ ap (λ (hour : ℕ). S.Pair (hour_pair g hour)) (add-one i)

  -- and no other pair
  pub hour_answered : {p : Bounds} → share_from g (60 * (i + 1)) ≡ S.Pair p → p ≡ hour_pair g (suc i)
  hour_answered e = answered_pair g (60 * (i + 1)) e ∙ ap (hour_pair g) (add-one i)

  pub hour_not_refused : {f : Refusal} → i < heating_hours → share_from g (60 * (i + 1)) ≡ S.Refused f → ⊥
  hour_not_refused h q = let z : ◌≡◌ {A = ℕ} 0 1 = cc (hour_given h) in omega arith

  pub hour_sized : Sized 1000000 (hour_pair g i)
  hour_sized =
      let range = share_pair_range g (60 * i) in
      record { low = end_sized _ range.low_from range.low_to; high = end_sized _ range.high_from range.high_to }

-- ---- the ways out

module _ (pairs : ℕ → Bounds) (hours : List ℕ) where
  pub hour_refused : {k : ℕ} → first_above hours ≡ Some k → Refused (refused10 k) ≡ factor_from pairs hours
  unfolding factor_from
  hour_refused p = rw (factor_from, p)

  module _ (p : first_above hours ≡ None) where
    pub nothing_refused : length hours ≡ day_hours → highest_load hours ≡ 0 → Refused refused11 ≡ factor_from pairs hours
    unfolding factor_from
    nothing_refused l z =
        let all : all_zero hours ≡ true = highest_zero hours (rw l z) in
        rw (factor_from, p, all)

    pub factor_given : {r : FactorAnswer} → 0 < highest_load hours → r ≡ Factor (largest_factor (heating_sum pairs hours (reference_hour pairs hours))) → r ≡ factor_from pairs hours
    unfolding factor_from
    factor_given z q =
        let some : all_zero hours ≡ false = some_loaded hours day_hours z in
        q ∙ rw (factor_from, p, some)

-- what is given decides
pub answer_given : {given is : Given} (hours : List ℕ) {r : FactorAnswer} → given ≡ is → r ≡ factor_answer is hours → r ≡ factor_answer given hours
answer_given hours e q = rw e q

pub answer_refused : {given : Given} (hours : List ℕ) {f : Refusal} → given ≡ refused f → Refused f ≡ factor_answer given hours
answer_refused hours e = rw e
