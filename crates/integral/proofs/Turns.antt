-- The loops over the unit slices and over the half slices, against the model's sums.
use mathlib.Core.Path.{◌≡◌, refl, sym, ap, ◌∙◌}
use mathlib.Core.Bool.{Bool, true, false}
use Prim.Native.Nat.{ℕ, zero, suc, ◌+◌, ◌*◌, ◌-◌, ◌≤◌, ◌<◌, min, max}
use lib.Dec.{leb}
use borrow.Author.Tests.{leb-true, leb-false}
use native.Mathlib.Nat.{mul-le-mul_left, mul-le-mul_right}
use native.Mathlib.Numerals.{add-one}
use native.Mathlib.Omega.{arith}
use Rattle.bounds.specs.Pair.{as_bounds, as_pair}
use Rattle.bounds.specs.declared.Bounds.{Bounds}
use Rattle.model.specs.Scale.{one, far_from, units, halves}
use Rattle.model.specs.Logarithm.{power_of_two}
use Rattle.model.specs.Integral.{Slice, unit_slice, half_slice, part_slice, unit_part, half_part, joined, unit_sum, half_sum}
use Rattle.model.proofs.Logarithm.{power_above_zero}
use Rattle.model.proofs.Parts.{unit_scaled, half_scaled, unit_sum_under, half_sum_under, part_most, part_capped, unit_sum_ends, half_sum_ends}
use Rattle.series.specs.Asked.{Exponent, UpTo}
use Rattle.series.proofs.UpTo.{pair_up_to, up_to_is}
use Rattle.integral.specs.Asked.{Span, BelowKnot}
use Rattle.integral.proofs.Rows.{unit_slice_most, half_slice_most}
use Rattle.integral.proofs.Knots.{unit_knot, half_knot}

far_exponent : {x y diffusion : ℕ} → Slice x y diffusion → Exponent y diffusion
far_exponent s = record { den_some = omega arith; small = omega arith }

-- ---- i unit slices are summed, down to y
pub record UnitTurn (near far diffusion top : ℕ) (first sum : Bounds) (y i : ℕ) : Type 0 where
  pub to : i ≤ units
  pub y_is : y ≡ (far_from - i) * diffusion
  pub sum_is : sum ≡ as_bounds (unit_sum near far diffusion top (as_pair first) i)

-- the slice of a turn, by its number
record UnitNumber (i : ℕ) : Type 0 where
  n : ℕ
  some : 0 < n
  is : units - i ≡ n
  above : far_from - i ≡ suc n
  below : far_from - (i + 1) ≡ n

unit_number : (i : ℕ) → i < units → UnitNumber i
unit_number i h = record { n = units - i; some = omega arith; is = refl; above = omega arith; below = omega arith }

module _ {near far diffusion top : ℕ} {first : Bounds} (a : Span near far diffusion top) (first_most : UpTo top first) where
  pub unit_begin : {y : ℕ} → y ≡ far_from * diffusion → UnitTurn near far diffusion top first first y 0
  unfolding unit_sum
  unit_begin e = record { to = omega arith; y_is = e; sum_is = up_to_is first_most }

  module _ {sum : Bounds} {y i : ℕ} (h : i < units) (t : UnitTurn near far diffusion top first sum y i) where
    ends : (m : UnitNumber i) → (y ≡ suc m.n * diffusion) × (y - diffusion ≡ m.n * diffusion)
    ends m = go m.n (t.y_is ∙ ap (λ v. v * diffusion) m.above)
      where
        go : (n : ℕ) → y ≡ suc n * diffusion → (y ≡ suc n * diffusion) × (y - diffusion ≡ n * diffusion)
        go n e = (e, omega arith)

    unit_turn_slice : Slice (y - diffusion) y diffusion
    unit_turn_slice = let m = unit_number i h in let e = ends m in rw (e.1, e.0) (unit_scaled m.n a.stretch m.some)

    pub unit_below : BelowKnot (y - diffusion) y diffusion i
    unit_below = record { slice = unit_turn_slice; at_knot = record { numbered = omega arith; exponent = far_exponent unit_turn_slice; exp_is = rw t.y_is (unit_knot i diffusion h a.stretch.diffusion_some) } }

    pub unit_sum_most : UpTo top sum
    unit_sum_most = rw t.sum_is (pair_up_to _ (unit_sum_under near far diffusion top (as_pair first) first_most.under i))

    module _ {all : Bounds} (ea : all ≡ as_bounds (unit_slice (units - i))) where
      pub unit_all_most : UpTo (2 * one) all
      unit_all_most = rw ea (pair_up_to _ (unit_slice_most i h))

      module _ {slice : Bounds} (es : slice ≡ as_bounds (part_slice near far (y - diffusion) y diffusion (as_pair all))) where
        pub unit_part_most : UpTo (2 * one) slice
        unit_part_most = rw es (pair_up_to _ (part_most near far (y - diffusion) y diffusion (as_pair all) unit_turn_slice unit_all_most.under))

        pub unit_again : {next : Bounds} → next ≡ as_bounds (joined top (as_pair sum) (as_pair slice)) → UnitTurn near far diffusion top first next (y - diffusion) (i + 1)
        unfolding unit_sum unit_part
        unit_again {next} en = record { to = omega arith; y_is = lower (ends m).1 m.below; sum_is = en ∙ rw (t.sum_is, es, ea, add-one) (ap as_bounds (same m.n m.is (ends m).1 (ends m).0)) }
          where
            m : UnitNumber i
            m = unit_number i h

            lower : {n : ℕ} → y - diffusion ≡ n * diffusion → far_from - (i + 1) ≡ n → y - diffusion ≡ (far_from - (i + 1)) * diffusion
            lower p q = rw q p

            same : (n : ℕ) → units - i ≡ n → y - diffusion ≡ n * diffusion → y ≡ suc n * diffusion →
                joined top (unit_sum near far diffusion top (as_pair first) i) (part_slice near far (y - diffusion) y diffusion (unit_slice (units - i)))
                ≡ joined top (unit_sum near far diffusion top (as_pair first) i) (part_slice near far ((units - i) * diffusion) (suc (units - i) * diffusion) diffusion (unit_slice (units - i)))
            same n p q r = rw (q, p) (rw r refl)

  -- at the near end nothing more is added, and at 1 all are summed
  pub unit_done : {sum : Bounds} {y i : ℕ} → y ≤ max near diffusion → UnitTurn near far diffusion top first sum y i →
      sum ≡ as_bounds (unit_sum near far diffusion top (as_pair first) units)
  unit_done {sum} {y} {i} h t = go (leb y near) refl
    where
      all : units - i + i ≡ units
      all = let k = t.to in omega arith

      go : (b : Bool) → leb y near ≡ b → sum ≡ as_bounds (unit_sum near far diffusion top (as_pair first) units)
      go true e =
          let w = leb-true y near e in
          t.sum_is ∙ ap as_bounds (sym (rw all at (unit_sum_ends near far diffusion top (as_pair first) a.stretch.diffusion_some first_most.under (units - i) i (omega arith) (rw t.y_is at w))))
      go false e = let w = leb-false y near e in last (leb units i) refl (omega arith)
        where
          last : (b : Bool) → leb units i ≡ b → y ≤ diffusion → sum ≡ as_bounds (unit_sum near far diffusion top (as_pair first) units)
          last true f l = let w = leb-true units i f in let k = t.to in let q : i ≡ units = omega arith in rw q at t.sum_is
          last false f l = absurd (let w = leb-false units i f in let z = a.stretch.diffusion_some in let v = unit_inside_twice w in omega arith)
            where
              unit_inside_twice : i < units → 2 * diffusion ≤ y
              unit_inside_twice w = let m = unit_number i w in let e = ends w t m in let p = mul-le-mul_right diffusion m.some in omega arith

-- ---- k half slices are summed; all distances and the diffusion are doubled k times, and the far end is cut off at 1
pub record HalfTurn (near far diffusion top : ℕ) (first sum : Bounds) (start end divisor k : ℕ) : Type 0 where
  pub left : ℕ
  pub few : left + k ≡ halves
  pub start_is : start ≡ near * power_of_two k
  pub end_is : end ≡ min (far * power_of_two k) diffusion
  pub divisor_is : divisor ≡ diffusion * power_of_two k
  pub fuel : diffusion < start * power_of_two left
  pub room : divisor * power_of_two left < 18446744073709551616
  pub sum_is : sum ≡ as_bounds (half_sum near far diffusion top (as_pair first) k)

-- what a turn has after its doublings
record HalfNumbers (near far diffusion start end divisor k : ℕ) : Type 0 where
  left : ℕ
  few : left + (k + 1) ≡ halves
  start_is : 2 * start ≡ near * power_of_two (suc k)
  end_is : 2 * end ≡ min (far * power_of_two (suc k)) (2 * diffusion)
  divisor_is : 2 * divisor ≡ diffusion * power_of_two (suc k)
  fuel : diffusion < 2 * start * power_of_two left
  room : 2 * divisor * power_of_two left < 18446744073709551616
  small : 2 * divisor < 18446744073709551616

module _ {near far diffusion top : ℕ} {first : Bounds} (a : Span near far diffusion top) (first_most : UpTo top first) where
  pub half_begin : {end : ℕ} → end ≡ min far diffusion → HalfTurn near far diffusion top first first near end diffusion 0
  unfolding half_sum power_of_two
  half_begin e = let s = a.stretch in record {
    left = halves;
    few = omega arith;
    start_is = omega arith;
    end_is = omega arith;
    divisor_is = omega arith;
    fuel = omega (arith, s.near_some, s.diffusion_small);
    room = omega (arith, s.diffusion_small);
    sum_is = up_to_is first_most;
  }

  module _ {sum : Bounds} {start end divisor k : ℕ} (h : start < diffusion) (t : HalfTurn near far diffusion top first sum start end divisor k) where
    numbers : HalfNumbers near far diffusion start end divisor k
    unfolding power_of_two
    numbers = go t.left t.few t.fuel t.room
      where
        go : (left : ℕ) → left + k ≡ halves → diffusion < start * power_of_two left → divisor * power_of_two left < 18446744073709551616 → HalfNumbers near far diffusion start end divisor k
        go zero e f r = absurd (omega arith)
        go (suc left) e f r = record {
          left = left;
          few = omega arith;
          start_is = let p = t.start_is in omega arith;
          end_is = twice (far * power_of_two k) (far * (2 * power_of_two k)) end (omega arith) t.end_is;
          divisor_is = let p = t.divisor_is in omega arith;
          fuel = omega arith;
          room = omega arith;
          small = let p = power_above_zero left in least p (omega arith);
        }
          where
            twice : (u v w : ℕ) → v ≡ 2 * u → w ≡ min u diffusion → 2 * w ≡ min v (2 * diffusion)
            twice u v w p q = omega arith

            least : 0 < power_of_two left → 2 * divisor * power_of_two left < 18446744073709551616 → 2 * divisor < 18446744073709551616
            least p q = omega (arith, mul-le-mul_left (2 * divisor) p)

    half_few : k < halves
    half_few = let n = numbers in omega arith

    pub divisor_small : 2 * divisor < 18446744073709551616
    divisor_small = numbers.small

    half_turn_slice : Slice diffusion (2 * diffusion) (2 * divisor)
    half_turn_slice = rw numbers.divisor_is (half_scaled k a.stretch)

    pub half_below : BelowKnot diffusion (2 * diffusion) (2 * divisor) (units + k)
    half_below =
        record {
          slice = half_turn_slice;
          at_knot = record {
            numbered = let f = half_few in omega arith;
            exponent = far_exponent half_turn_slice;
            exp_is = rw numbers.divisor_is (half_knot k diffusion a.stretch.diffusion_some);
          };
        }

    pub half_sum_most : UpTo top sum
    half_sum_most = rw t.sum_is (pair_up_to _ (half_sum_under near far diffusion top (as_pair first) first_most.under k))

    module _ {all : Bounds} (ea : all ≡ as_bounds (half_slice k)) where
      pub half_all_most : UpTo (2 * one) all
      half_all_most = rw ea (pair_up_to _ (half_slice_most k))

      module _ {slice : Bounds} (es : slice ≡ as_bounds (part_slice (2 * start) (2 * end) diffusion (2 * diffusion) (2 * divisor) (as_pair all))) where
        pub half_part_most : UpTo (2 * one) slice
        half_part_most = rw es (pair_up_to _ (part_most (2 * start) (2 * end) diffusion (2 * diffusion) (2 * divisor) (as_pair all) half_turn_slice half_all_most.under))

        slice_is : slice ≡ as_bounds (half_part near far diffusion k)
        unfolding half_part
        slice_is =
            let n = numbers in
            es ∙ rw (ea, n.start_is, n.end_is, n.divisor_is) (ap as_bounds (part_capped (near * power_of_two (suc k)) (far * power_of_two (suc k)) diffusion (2 * diffusion) (diffusion * power_of_two (suc k)) (half_slice k)))

        pub half_again : {next : Bounds} {cut : ℕ} → next ≡ as_bounds (joined top (as_pair sum) (as_pair slice)) → cut ≡ min (2 * end) diffusion →
            HalfTurn near far diffusion top first next (2 * start) cut (2 * divisor) (k + 1)
        unfolding half_sum
        half_again {next} {cut} en ec =
            let n = numbers in
            record {
              left = n.left;
              few = n.few;
              start_is = rw add-one n.start_is;
              end_is = rw add-one (ended (far * power_of_two (suc k)) n.end_is ec);
              divisor_is = rw add-one n.divisor_is;
              fuel = n.fuel;
              room = n.room;
              sum_is = en ∙ rw (t.sum_is, slice_is, add-one) refl;
            }
          where
            ended : (f : ℕ) → 2 * end ≡ min f (2 * diffusion) → cut ≡ min (2 * end) diffusion → cut ≡ min f diffusion
            ended f p q = omega arith

  pub half_done : {sum : Bounds} {start end divisor k : ℕ} → diffusion ≤ start → HalfTurn near far diffusion top first sum start end divisor k → sum ≡ as_bounds (half_sum near far diffusion top (as_pair first) halves)
  half_done {sum} {start} {end} {divisor} {k} h t =
      let e = t.start_is in
      t.sum_is ∙ ap as_bounds (sym (rw t.few at (half_sum_ends near far diffusion top (as_pair first) a.stretch.diffusion_some first_most.under t.left k (omega arith))))
