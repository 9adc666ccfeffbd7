-- The certifying rule at the exact share holds exactly where the rise from the preload by the step to i is at most r percent of the rated rise, which is
-- 10,000·r millionths of it.
use mathlib.Core.Path.{◌≡◌, refl, sym, ap, subst}
use Prim.Native.Nat.{ℕ, ◌*◌, ◌<◌}
use native.Mathlib.Nat.{mul-le-mul}
use native.Mathlib.Omega.{arith}
use lib.IntN.{pos, neg_ℤ, ◌+ℤ◌, ◌-ℤ◌, ◌*ℤ◌}
use Rattle.numbers.specs.Fraction.{whole}
use Rattle.numbers.specs.Signed.{of_int}
use Rattle.numbers.proofs.SignedFractions.{refl≼ₛ}
use Rattle.numbers.proofs.Integers.{lin_eq, add_lin, mul_lin, neg_up, neg_dn}
use Rattle.exact.specs.Value.{Value, AtLeast, ◌⊴◌, number, integer, ◌+ᵥ◌, ◌/ᵥ◌}
use Rattle.exact.proofs.Values.{constant⊴, add⊴, mul⊴}
use Rattle.distance.proofs.Limits.{limit_moved, limit_unmoved, limit_kept, limit_unkept, limit_divided, limit_undivided}
use Rattle.history_rules.specs.Rise.{change_of}
use Rattle.history_rules.specs.Exact.{exact_sum, exact_rise}
use Rattle.emergency_rules.specs.Certifying.{load_change, room_to_limit}
use Rattle.emergency_rules.specs.Exact.{exact_added}
use Rattle.limit.specs.Preload.{rise_from_preload}

module _ (rated h r i : ℕ) (zr : 0 < rated) (share : Value) (sound : share ⊴ share) where
  -- in hundredths of an ampere
  abbrev divisor : ℕ
  divisor = 100 * rated * (100 * rated)

  preload : ℕ
  preload = h * rated * (h * rated) * 1000000

  divisor_above : 0 < divisor
  divisor_above = omega (arith, mul-le-mul zr zr)

  same_change : change_of (h * rated) (100 * i) ≡ load_change rated h i
  same_change =
      let left : 100 * i * (100 * i) ≡ 10000 * (i * i) = omega arith in
      let right : h * rated * (h * rated) ≡ h * h * (rated * rated) = omega arith in
      rw (left, right) refl

  same_limit : pos (10000 * r) *ℤ pos divisor ≡ pos preload +ℤ room_to_limit rated h r
  unfolding preload
  same_limit =
      lin_eq (pos (10000 * r) *ℤ pos divisor) (pos preload +ℤ room_to_limit rated h r)
      (omega (
        arith,
        add_lin (pos preload) (room_to_limit rated h r),
        mul_lin (pos (100 * r) -ℤ pos (h * h)) (pos (rated * rated * 1000000)),
        ap (λ (n : ℕ). n * (rated * rated * 1000000)) (rw (neg_up (pos (h * h)), neg_dn (pos (h * h))) at (add_lin (pos (100 * r)) (neg_ℤ (pos (h * h))))),
      ))

  -- the rule's left side on the preload's heating
  abbrev numerator : Value
  numerator = integer (pos preload) +ᵥ (exact_added rated h share i +ᵥ integer (pos 0))

  numerator_sound : numerator ⊴ numerator
  numerator_sound = add⊴ (constant⊴ (refl≼ₛ _)) (add⊴ (mul⊴ (constant⊴ (refl≼ₛ _)) sound) (constant⊴ (refl≼ₛ _)))

  same_rise : rise_from_preload rated h share i ≡ numerator /ᵥ number (whole divisor)
  unfolding exact_rise exact_sum preload
  same_rise = rw same_change refl

  pub within_limit : AtLeast (of_int (room_to_limit rated h r)) (exact_added rated h share i) → AtLeast (of_int (pos (10000 * r))) (rise_from_preload rated h share i)
  within_limit k = rw same_rise (limit_divided divisor divisor_above (pos (10000 * r)) numerator_sound (subst (λ z. AtLeast (of_int z) numerator) (sym same_limit) (limit_moved (pos preload) (room_to_limit rated h r) (limit_kept k))))

  pub limit_certifies : AtLeast (of_int (pos (10000 * r))) (rise_from_preload rated h share i) → AtLeast (of_int (room_to_limit rated h r)) (exact_added rated h share i)
  limit_certifies k = limit_unkept (limit_unmoved (pos preload) (room_to_limit rated h r) (subst (λ z. AtLeast (of_int z) numerator) same_limit (limit_undivided divisor divisor_above (pos (10000 * r)) numerator_sound (rw same_rise at k))))
