-- The distance of the emergency current, for every width and every share with the promises at that width.
use mathlib.Core.Path.{◌≡◌, refl}
use mathlib.Core.Bool.{true, false}
use Prim.Native.Nat.{ℕ, zero, suc, ◌+◌, ◌*◌, ◌-◌, ◌≤◌, ◌<◌}
use native.Mathlib.Nat.{mul-le-mul, mul-le-mul_left, mul-le-mul_right}
use native.Mathlib.Omega.{arith}
use lib.IntN.{ℤ, pos, negsuc, neg_ℤ, suc_ℤ, ◌+ℤ◌, ◌-ℤ◌, ◌*ℤ◌}
use lib.Signed.{◌≤ℤ◌, le_z}
use Rattle.numbers.specs.Signed.{of_int}
use Rattle.numbers.specs.Integer.{up, dn}
use Rattle.numbers.specs.Largest.{Largest}
use Rattle.numbers.proofs.Integers.{le_lin, lin_le, lin_eq, lt_lin, add_lin, suc_lin, mul_lin, neg_up, neg_dn, le_z_false, ≤ℤ_trans, lesser_both, greater_both, *ℤ_mono_pos}
use Rattle.numbers.proofs.Largest.{is_largest}
use Rattle.numbers.proofs.SignedFractions.{refl≼ₛ, trans≼ₛ}
use Rattle.numbers.proofs.SignedIntegers.{of_int≼}
use Rattle.bounds.specs.Operations.{point_b, add_b, mul_b}
use Rattle.bounds.specs.declared.Bounds.{Bounds}
use Rattle.exact.specs.Value.{Value, AtMost, AtLeast, ◌⊴◌, integer, ◌+ᵥ◌}
use Rattle.exact.proofs.Values.{add⊴, constant⊴}
use Rattle.distance.specs.Promised.{Promised}
use Rattle.distance.proofs.Around.{around_integer, around_add, around_times}
use Rattle.emergency_rules.specs.Certifying.{load_change, added_rise, room_to_limit, certified, largest_certified, most_current}
use Rattle.emergency_rules.specs.Exact.{exact_added, CurrentDistance}
use Rattle.emergency_rules.proofs.Certifying.{certified_rule, nothing_certified}

-- ---- integers that are natural numbers

natural_difference : (x y : ℕ) → y ≤ x → pos x -ℤ pos y ≡ pos (x - y)
natural_difference x y h = lin_eq (pos x -ℤ pos y) (pos (x - y)) (omega (arith, add_lin (pos x) (neg_ℤ (pos y)), neg_up (pos y), neg_dn (pos y)))

-- a difference whose product with a natural number is above 0 is above 0
larger_minuend : (x y g : ℕ) → pos 1 ≤ℤ ((pos x -ℤ pos y) *ℤ pos g) → y < x
larger_minuend x y g h = go (pos x -ℤ pos y) (omega (arith, add_lin (pos x) (neg_ℤ (pos y)), neg_up (pos y), neg_dn (pos y))) h
  where
    go : (z : ℤ) → up z + y ≡ dn z + x → pos 1 ≤ℤ (z *ℤ pos g) → y < x
    go (pos zero) e k = absurd (omega (arith, le_lin k, mul_lin (pos zero) (pos g)))
    go (pos (suc n)) e k = omega arith
    go (negsuc n) e k = absurd (omega (arith, le_lin k, mul_lin (negsuc n) (pos g)))

rises_by : (x y g : ℕ) → x ≤ y → (pos x *ℤ pos g) ≤ℤ (pos y *ℤ pos g)
rises_by x y g h = lin_le (pos x *ℤ pos g) (pos y *ℤ pos g) (omega (arith, mul-le-mul_right g h))

-- what is not at most is at least one more
failed : (y z : ℤ) → le_z y z ≡ false → suc_ℤ z ≤ℤ y
failed y z e = lin_le (suc_ℤ z) y (omega (arith, suc_lin z, lt_lin (le_z_false y z e)))

module _ (W rated h r : ℕ) (share : Value) (sound : share ⊴ share) (b : Bounds) (p : Promised W share b) (cool : h * h ≤ 100 * r) where
  room : ℕ
  room = (100 * r - h * h) * (rated * rated * 1000000)

  room_is : room_to_limit rated h r ≡ pos room
  unfolding room
  room_is = rw (natural_difference (100 * r) (h * h) cool) refl

  abbrev found : ℕ
  found = largest_certified rated h r b.high

  -- 0 amperes are certified, so the largest is what its properties say
  found_is : Largest (certified rated h r b.high) most_current found
  found_is = is_largest (certified rated h r b.high) (go b.high p.range.high_from) most_current
    where
      go : (g : ℤ) → pos 0 ≤ℤ g → certified rated h r g 0 ≡ true
      go (pos g) k = nothing_certified rated h r g cool
      go (negsuc g) k = absurd k.le

  -- ---- the limit is kept
  high_under : added_rise rated h b.high found ≤ℤ room_to_limit rated h r
  high_under = (certified_rule rated h r b.high found found_is.passes).rule

  low_under : added_rise rated h b.low found ≤ℤ room_to_limit rated h r
  low_under = go (load_change rated h found) b.low p.range.low_from p.ordered high_under
    where
      go : (z l : ℤ) → pos 0 ≤ℤ l → l ≤ℤ b.high → (z *ℤ b.high) ≤ℤ room_to_limit rated h r → (z *ℤ l) ≤ℤ room_to_limit rated h r
      go (pos n) l k o q = ≤ℤ_trans (*ℤ_mono_pos n o) q
      go (negsuc n) (pos v) k o q = rw room_is (lin_le (negsuc n *ℤ pos v) (pos room) (omega (arith, mul_lin (negsuc n) (pos v))))
      go (negsuc n) (negsuc v) k o q = absurd k.le

  product_under : (mul_b (point_b (load_change rated h found)) b).high ≤ℤ room_to_limit rated h r
  unfolding mul_b
  product_under = greater_both (λ z. z ≤ℤ room_to_limit rated h r) (greater_both (λ z. z ≤ℤ room_to_limit rated h r) low_under high_under) (greater_both (λ z. z ≤ℤ room_to_limit rated h r) low_under high_under)

  limit_kept : AtLeast (of_int (room_to_limit rated h r)) (exact_added rated h share found)
  limit_kept = record { least = λ n t. trans≼ₛ ((around_times (load_change rated h found) sound p.around).high_at_least.least n t) (of_int≼ product_under) }

  -- ---- each larger ampere breaks it
  module _ (below : found < 10000) (j : ℕ) (larger : found < j) where
    next_fails : suc_ℤ (room_to_limit rated h r) ≤ℤ added_rise rated h b.high (suc found)
    unfolding certified
    next_fails = failed (added_rise rated h b.high (suc found)) (room_to_limit rated h r) (found_is.none_above (suc found) (omega arith) (omega arith))

    high_over : suc_ℤ (room_to_limit rated h r) ≤ℤ added_rise rated h b.high j
    high_over = go b.high p.range.high_from next_fails
      where
        go : (g : ℤ) → pos 0 ≤ℤ g → suc_ℤ (room_to_limit rated h r) ≤ℤ added_rise rated h g (suc found) → suc_ℤ (room_to_limit rated h r) ≤ℤ added_rise rated h g j
        go (negsuc g) k q = absurd k.le
        go (pos g) k q = ≤ℤ_trans q (rises (larger_minuend (10000 * (suc found * suc found)) (h * h * (rated * rated)) g (≤ℤ_trans one_over q)))
          where
            one_over : pos 1 ≤ℤ suc_ℤ (room_to_limit rated h r)
            one_over = rw room_is (lin_le (pos 1) (pos (suc room)) (omega arith))

            squares : 10000 * (suc found * suc found) ≤ 10000 * (j * j)
            squares = mul-le-mul_left 10000 (mul-le-mul larger larger)

            rises : h * h * (rated * rated) < 10000 * (suc found * suc found) → added_rise rated h (pos g) (suc found) ≤ℤ added_rise rated h (pos g) j
            rises s = rw (natural_difference (10000 * (suc found * suc found)) (h * h * (rated * rated)) (omega arith), natural_difference (10000 * (j * j)) (h * h * (rated * rated)) (omega (arith, squares)))
                (rises_by (10000 * (suc found * suc found) - h * h * (rated * rated)) (10000 * (j * j) - h * h * (rated * rated)) g (omega (arith, squares)))

    abbrev moved : Bounds
    moved = add_b b (point_b (pos W))

    over_moved : (g : ℤ) → b.high ≤ℤ g → suc_ℤ (room_to_limit rated h r) ≤ℤ (load_change rated h j *ℤ g)
    over_moved g k = go (load_change rated h j) high_over
      where
        go : (z : ℤ) → suc_ℤ (room_to_limit rated h r) ≤ℤ (z *ℤ b.high) → suc_ℤ (room_to_limit rated h r) ≤ℤ (z *ℤ g)
        go (pos n) q = ≤ℤ_trans q (*ℤ_mono_pos n k)
        go (negsuc n) q = absurd (negative b.high p.range.high_from q)
          where
            negative : (g : ℤ) → pos 0 ≤ℤ g → suc_ℤ (room_to_limit rated h r) ≤ℤ (negsuc n *ℤ g) → ⊥
            negative (pos g) k q = omega (arith, le_lin (rw room_is at q), mul_lin (negsuc n) (pos g))
            negative (negsuc g) k q = absurd k.le

    product_over : suc_ℤ (room_to_limit rated h r) ≤ℤ (mul_b (point_b (load_change rated h j)) moved).low
    unfolding mul_b add_b
    product_over = lesser_both (λ z. suc_ℤ (room_to_limit rated h r) ≤ℤ z) (lesser_both (λ z. suc_ℤ (room_to_limit rated h r) ≤ℤ z) at_low at_high) (lesser_both (λ z. suc_ℤ (room_to_limit rated h r) ≤ℤ z) at_low at_high)
      where
        at_low : suc_ℤ (room_to_limit rated h r) ≤ℤ (load_change rated h j *ℤ (b.low +ℤ pos W))
        at_low = over_moved (b.low +ℤ pos W) p.narrow

        at_high : suc_ℤ (room_to_limit rated h r) ≤ℤ (load_change rated h j *ℤ (b.high +ℤ pos W))
        at_high = over_moved (b.high +ℤ pos W) (lin_le b.high (b.high +ℤ pos W) (omega (arith, add_lin b.high (pos W))))

    limit_broken : AtMost (of_int (suc_ℤ (room_to_limit rated h r))) (exact_added rated h (share +ᵥ integer (pos W)) j)
    limit_broken = record { most = λ n t. trans≼ₛ (of_int≼ product_over) ((around_times (load_change rated h j) (add⊴ sound (constant⊴ (refl≼ₛ (of_int (pos W))))) (around_add p.around (around_integer (pos W)))).low_at_most.most n t) }

  -- whatever less than 10,000 were promised: a worked example holds it
  pub current_distance : CurrentDistance W rated h r share found
  current_distance = record { keeps = limit_kept; larger_breaks = λ below j larger. limit_broken (omega arith) j larger }
