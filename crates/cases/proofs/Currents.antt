-- C5, C6, C7 and C8, for every minute count: with h² = 100·r nothing is left up to the limit, and whatever the share above 0 is, i is certified exactly
-- where 10,000·i² is at most 100·r·rated².
use mathlib.Core.Path.{◌≡◌, refl, sym, ◌∙◌}
use mathlib.Core.List.{[], ◌∷◌}
use Prim.Native.Nat.{ℕ, suc, ◌*◌, ◌≤◌, ◌<◌}
use native.Mathlib.Nat.{mul-le-mul_right}
use native.Mathlib.Omega.{arith}
use borrow.Author.Tests.{le-ltb, le-leb, lt-leb}
use lib.IntN.{ℤ, pos, negsuc}
use lib.Signed.{◌≤ℤ◌}
use Rattle.numbers.proofs.Integers.{le_lin, lin_le}
use Rattle.numbers.proofs.Largest.{found_largest}
use Rattle.exact.specs.Share.{Accepted, none}
use Rattle.cable_rules.specs.Checks.{outside_field, checked, in_use}
use Rattle.cable_rules.specs.Group.{accepted, alone, given_cable}
use Rattle.cable_rules.specs.InRange.{numbers_in}
use Rattle.refusals.specs.declared.Place.TheVariants.{None}
use Rattle.share_rules.specs.Pair.{share_pair}
use Rattle.share_rules.specs.Answer.{share_from}
use Rattle.share_rules.specs.declared.ShareAnswer.TheVariants as S
use Rattle.share_rules.proofs.Promises.{share_promised}
use Rattle.emergency_rules.specs.Certifying.{most_current, largest_certified}
use Rattle.emergency_rules.specs.Answer.{current_from, current_of, current_answer}
use Rattle.emergency_rules.proofs.Certifying.{moved_left, moved_right, certified_moved, certified_falls}
use Rattle.cases.specs.Table.{Meant, any_minutes, current, values, refusal, cable_a, rated_a}
use Rattle.cases.proofs.Shares.{high_above_zero}

-- ---- nothing left up to the limit

module _ (rated h r i : ℕ) (limit : h * h ≡ 100 * r) (below : i < most_current) (keeps : 10000 * (i * i) ≤ 100 * r * (rated * rated)) (breaks : 100 * r * (rated * rated) < 10000 * (suc i * suc i)) where
  at_limit : (g : ℤ) → pos 1 ≤ℤ g → largest_certified rated h r g ≡ i
  at_limit (pos g) some =
      sym (found_largest (certified_falls rated h r (pos g) (lin_le (pos 0) (pos g) (omega arith))) (omega arith)
      (sym (certified_moved rated h r g i) ∙ le-leb (moved_left rated h g i) (moved_right rated h r g) (rw limit (omega (arith, mul-le-mul_right g keeps))))
      (λ l. sym (certified_moved rated h r g (suc i)) ∙ lt-leb (moved_left rated h g (suc i)) (moved_right rated h r g) (rw limit (omega (arith, le_lin some, mul-le-mul_right g breaks)))))
  at_limit (negsuc g) some = absurd (omega (arith, le_lin some))

-- ---- every minute count is answered from its share

module _ (rated : ℕ) (given : given_cable (rated_a rated) ≡ accepted (alone (rated_a rated))) (minutes : ℕ) (from : 1 ≤ minutes) (to : minutes ≤ 2880) where
  accepted_a : Accepted (numbers_in (alone (rated_a rated))) minutes
  unfolding in_use
  accepted_a = record { cable = omega arith; neighbours = none; minutes_from = from; minutes_to = to }

  high_some : pos 1 ≤ℤ (share_pair (alone (rated_a rated)) minutes).high
  high_some = high_above_zero _ minutes accepted_a _ (share_promised (alone (rated_a rated)) minutes accepted_a)

  share_given : share_from (alone (rated_a rated)) minutes ≡ S.Pair (share_pair (alone (rated_a rated)) minutes)
  unfolding share_from
  share_given = rw (share_from, le-ltb minutes 1, le-ltb 2880 minutes)

  current_given : (h r : ℕ) → current_answer (given_cable (rated_a rated)) h r minutes ≡ current_from rated h r (share_pair (alone (rated_a rated)) minutes)
  unfolding current_of in_use
  current_given h r = rw (given, current_of, share_given)

pub C5 : Meant (any_minutes (current (given_cable cable_a) 100 100) (values (400 ∷ [])))
unfolding given_cable checked outside_field current_from
C5 minutes from to = rw (current_given 400 refl minutes from to 100 100, at_limit 400 100 100 400 refl (omega arith) (omega arith) (omega arith) (share_pair (alone cable_a) minutes).high (high_some 400 refl minutes from to))

pub C6 : Meant (any_minutes (current (given_cable cable_a) 50 25) (values (200 ∷ [])))
unfolding given_cable checked outside_field current_from
C6 minutes from to = rw (current_given 400 refl minutes from to 50 25, at_limit 400 50 25 200 refl (omega arith) (omega arith) (omega arith) (share_pair (alone cable_a) minutes).high (high_some 400 refl minutes from to))

pub C7 : Meant (any_minutes (current (given_cable cable_a) 51 25) (refusal 13 None))
unfolding given_cable checked outside_field current_from
C7 minutes from to = rw (current_given 400 refl minutes from to 51 25)

pub C8 : Meant (any_minutes (current (given_cable (rated_a 401)) 50 25) (values (200 ∷ [])))
unfolding given_cable checked outside_field current_from
C8 minutes from to = rw (current_given 401 refl minutes from to 50 25, at_limit 401 50 25 200 refl (omega arith) (omega arith) (omega arith) (share_pair (alone (rated_a 401)) minutes).high (high_some 401 refl minutes from to))
