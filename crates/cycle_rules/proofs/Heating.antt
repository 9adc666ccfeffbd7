-- The heating sum: gathered, it is the sum as it is written; its bounds enclose it wherever the pairs enclose the shares; and it is at most 7 in
-- size, so that its products stay below 2^63.
use mathlib.Core.Path.{◌≡◌, refl, sym, ap, ◌∙◌}
use mathlib.Core.Bool.{Bool, true, false, cond}
use mathlib.Core.List.{List}
use mathlib.Core.Logic.{⊎_elim}
use Prim.Native.Nat.{ℕ, zero, suc, ◌+◌, ◌-◌, ◌*◌, ◌≤◌, ◌<◌}
use native.Mathlib.Nat.{mul-le-mul, mul-le-mul_left, mul-le-mul_right, mod-lt, one-mul, le_refl}
use native.Mathlib.Numerals.{add-one}
use native.Mathlib.Omega.{arith}
use lib.Dec.{ltb}
use lib.IntN.{ℤ, pos, neg_ℤ, nat_abs, ◌+ℤ◌, ◌-ℤ◌, ◌*ℤ◌, *ℤ_comm}
use Rattle.numbers.specs.Integer.{up, dn}
use Rattle.numbers.proofs.Integers.{one_part, lin_eq, add_lin, neg_up, neg_dn, size_lin, *ℤ_distrib, negℤ-*ℤ}
use Rattle.bounds.specs.Operations.{point_b, add_b, neg_b, mul_b}
use Rattle.bounds.specs.Promises.{In, Sized, largest}
use Rattle.bounds.specs.declared.Bounds.{Bounds}
use Rattle.bounds.proofs.Enclosure.{add_in, mul_in, divided_in, point, in_pair}
use Rattle.bounds.proofs.Sizes.{sized_more, add_sized, mul_sized}
use Rattle.cycle_rules.specs.Day.{day_hours, load, highest_load, earlier, squared_load, squared_loads}
use Rattle.cycle_rules.specs.Heating.{heating_hours, common_divisor, relative_load, from_start, written_steps, written_sum, gathered_load, gathered_sum, gathered_bounds, heating_bounds}
use Rattle.cycle_rules.specs.Asked.{most_divisor}
use Rattle.cycle_rules.proofs.Day.{is_highest, squares_to}

-- ---- differences

times_difference : (a b c : ℤ) → a *ℤ (b -ℤ c) ≡ (a *ℤ b) -ℤ (a *ℤ c)
times_difference a b c =
    *ℤ_distrib a b (neg_ℤ c)
    ∙ ap (λ (z : ℤ). (a *ℤ b) +ℤ z) (*ℤ_comm a (neg_ℤ c) ∙ negℤ-*ℤ c a ∙ ap neg_ℤ (*ℤ_comm c a))

difference_times : (a b c : ℤ) → (a -ℤ b) *ℤ c ≡ (a *ℤ c) -ℤ (b *ℤ c)
difference_times a b c =
    *ℤ_comm (a -ℤ b) c
    ∙ times_difference c a b
    ∙ ap (λ (z : ℤ). z -ℤ (c *ℤ b)) (*ℤ_comm c a)
    ∙ ap (λ (z : ℤ). (a *ℤ c) -ℤ z) (*ℤ_comm c b)

-- the first term on each side, one term more, and the last one
first : (z : ℤ) (n : ℕ) → z +ℤ pos (n * 0) ≡ pos 0 +ℤ z
first z n = lin_eq (z +ℤ pos (n * 0)) (pos 0 +ℤ z) (omega (arith, add_lin z (pos (n * 0)), add_lin (pos 0) z))

more : (g c w k a b : ℤ) → g +ℤ c ≡ w +ℤ k → (g +ℤ (a -ℤ b)) +ℤ b ≡ (w +ℤ (a -ℤ c)) +ℤ k
more g c w k a b e =
    lin_eq ((g +ℤ (a -ℤ b)) +ℤ b) ((w +ℤ (a -ℤ c)) +ℤ k)
    (omega (
      arith,
      add_lin (g +ℤ (a -ℤ b)) b,
      add_lin g (a -ℤ b),
      add_lin a (neg_ℤ b),
      neg_up b,
      neg_dn b,
      add_lin (w +ℤ (a -ℤ c)) k,
      add_lin w (a -ℤ c),
      add_lin a (neg_ℤ c),
      neg_up c,
      neg_dn c,
      add_lin g c,
      add_lin w k,
      ap (λ (z : ℤ). up z) e,
      ap (λ (z : ℤ). dn z) e,
    ))

last : (g c w k : ℤ) → g +ℤ c ≡ w +ℤ k → w +ℤ (k -ℤ c) ≡ g
last g c w k e =
    lin_eq (w +ℤ (k -ℤ c)) g
    (omega (
      arith,
      add_lin w (k -ℤ c),
      add_lin k (neg_ℤ c),
      neg_up c,
      neg_dn c,
      add_lin g c,
      add_lin w k,
      ap (λ (z : ℤ). up z) e,
      ap (λ (z : ℤ). dn z) e,
    ))

-- ---- gathered is what is written, for every G(1) to G(6)

module _ (hours : List ℕ) (hour : ℕ) (one : ℤ) (G : ℕ → ℤ) where
  abbrev Y : ℕ → ℤ
  Y i = pos (relative_load hours hour i)

  gathered_steps : (n : ℕ) → gathered_sum hours hour one G n +ℤ (Y n *ℤ from_start G n) ≡ written_steps hours hour G n +ℤ (Y heating_hours *ℤ one)
  unfolding gathered_sum written_steps
  gathered_steps zero = first (Y heating_hours *ℤ one) (relative_load hours hour 0)
  gathered_steps (suc n) =
      rw (difference_times (Y n) (Y (suc n)) (G (suc n)), times_difference (Y n) (G (suc n)) (from_start G n))
      (more (gathered_sum hours hour one G n) (Y n *ℤ from_start G n) (written_steps hours hour G n) (Y heating_hours *ℤ one) (Y n *ℤ G (suc n))
      (Y (suc n) *ℤ G (suc n)) (gathered_steps n))

  pub gathered_is_written : gathered_sum hours hour one G heating_hours ≡ written_sum hours hour one G
  gathered_is_written =
      rw (times_difference (Y heating_hours) one (G heating_hours))
      (sym
      (last (gathered_sum hours hour one G heating_hours) (Y heating_hours *ℤ G heating_hours) (written_steps hours hour G heating_hours)
      (Y heating_hours *ℤ one) (gathered_steps heating_hours)))

-- ---- the bounds enclose

module _ (hours : List ℕ) (hour m : ℕ) (G : ℕ → ℤ) (pairs : ℕ → Bounds) (each : (i : ℕ) → i < heating_hours → In (pairs (suc i)) (G (suc i)) m) where
  gathered_in : (n : ℕ) → n ≤ heating_hours → In (gathered_bounds hours hour pairs n) (gathered_sum hours hour (pos (1000000 * m)) G n) m
  unfolding gathered_bounds gathered_sum
  gathered_in zero h =
      let mean = relative_load hours hour heating_hours in
      in_pair (record { low = mean * 1000000; high = mean * 1000000 }) (mean * (1000000 * m)) m (omega arith) (omega arith)
  gathered_in (suc n) h =
      let w = gathered_load hours hour n in
      let at_point : In (point_b w) w 1 = (point refl).encloses in
      add_in (gathered_in n (omega arith)) (rw (one-mul m) at (mul_in {a = point_b w} {x = w} {m = 1} at_point (each n (omega arith))))

  -- where G in millionths, over m, lies in each pair, the sum as it is written lies in its bounds
  pub heating_in : 0 < common_divisor hours → In (heating_bounds pairs hours hour) (written_sum hours hour (pos (1000000 * m)) G) (common_divisor hours * m)
  unfolding heating_bounds
  heating_in h =
      divided_in h (rw (← gathered_is_written hours hour (pos (1000000 * m)) G) (gathered_in heating_hours (le_refl heating_hours)))

-- ---- sizes

pub relative_to : (hours : List ℕ) (hour i : ℕ) → relative_load hours hour i ≤ common_divisor hours
unfolding relative_load
relative_to hours hour i = by (ltb i heating_hours)
  where
    no_higher : (h : ℕ) → h < day_hours → load hours h ≤ highest_load hours
    no_higher = is_highest hours day_hours

    by : (t : Bool) → cond t (day_hours * squared_load hours (earlier hour i)) (squared_loads hours day_hours) ≤ common_divisor hours
    by true =
        let h = no_higher (earlier hour i) (mod-lt (hour + day_hours - i) (omega arith)) in
        mul-le-mul_left day_hours (mul-le-mul h h)
    by false = squares_to hours (highest_load hours) day_hours no_higher

pub divisor_above_zero : (hours : List ℕ) → 0 < highest_load hours → 0 < common_divisor hours
divisor_above_zero hours h = omega (arith, mul-le-mul h h)

difference_size : (a b k : ℕ) → a ≤ k → b ≤ k → nat_abs (pos a -ℤ pos b) ≤ k
difference_size a b k p q =
    ⊎_elim (λ e. omega (arith, size_lin (pos a -ℤ pos b), add_lin (pos a) (neg_ℤ (pos b)), neg_up (pos b), neg_dn (pos b)))
    (λ e. omega (arith, size_lin (pos a -ℤ pos b), add_lin (pos a) (neg_ℤ (pos b)), neg_up (pos b), neg_dn (pos b)))
    (one_part (pos a -ℤ pos b))

module _ (hours : List ℕ) (hour : ℕ) where
  pub load_sized : (i : ℕ) → Sized (common_divisor hours) (point_b (gathered_load hours hour i))
  load_sized i =
      let s = difference_size (relative_load hours hour i) (relative_load hours hour (suc i)) (common_divisor hours) (relative_to hours hour i) (relative_to hours hour (suc i)) in
      record { low = s; high = s }

  pub start_sized : Sized (common_divisor hours * 1000000) (point_b (pos (relative_load hours hour heating_hours * 1000000)))
  start_sized =
      let s = mul-le-mul_right 1000000 (relative_to hours hour heating_hours) in
      record { low = s; high = s }

  module _ (pairs : ℕ → Bounds) (each : (i : ℕ) → Sized 1000000 (pairs (suc i))) where
    pub gathered_sized : (n : ℕ) → Sized (suc n * (common_divisor hours * 1000000)) (gathered_bounds hours hour pairs n)
    unfolding gathered_bounds
    gathered_sized zero = sized_more (omega arith) start_sized
    gathered_sized (suc n) = sized_more (omega arith) (add_sized (gathered_sized n) (mul_sized (load_sized n) (each n)))

-- ---- one share more, as the code goes

pub first_sum : (hours : List ℕ) (hour : ℕ) (pairs : ℕ → Bounds) {n : ℕ} → n ≡ squared_loads hours day_hours → point_b (pos (n * 1000000)) ≡ gathered_bounds hours hour pairs 0
unfolding gathered_bounds relative_load
first_sum hours hour pairs e = rw e

pub difference_point : (a b : ℕ) → add_b (point_b (pos a)) (neg_b (point_b (pos b))) ≡ point_b (pos a -ℤ pos b)
unfolding add_b neg_b
difference_point a b = refl

module _ (hours : List ℕ) (hour : ℕ) (pairs : ℕ → Bounds) (each : (i : ℕ) → Sized 1000000 (pairs (suc i))) (small : common_divisor hours ≤ most_divisor) where
  pub sum_room : (n : ℕ) → n ≤ heating_hours → Sized largest (gathered_bounds hours hour pairs n)
  sum_room n h = sized_more (omega (arith, mul-le-mul {n₁ = suc n} {n₂ = 7} {m₂ = most_divisor * 1000000} (omega arith) (mul-le-mul_right 1000000 small))) (gathered_sized hours hour pairs each n)

  module _ {s w p : Bounds} (i : ℕ) (es : s ≡ gathered_bounds hours hour pairs i) (ew : w ≡ point_b (gathered_load hours hour i)) (ep : p ≡ pairs (suc i)) where
    pub product_room : Sized largest (mul_b w p)
    product_room = rw (ew, ep) (sized_more (omega (arith, mul-le-mul_right 1000000 small)) (mul_sized (load_sized hours hour i) (each i)))

    pub next_sum : {q : Bounds} → q ≡ mul_b w p → add_b s q ≡ gathered_bounds hours hour pairs (i + 1)
    unfolding gathered_bounds
    next_sum e = rw (add-one i, e, ew, ep, es)

    pub next_room : {q : Bounds} → i < heating_hours → q ≡ mul_b w p → Sized largest (add_b s q)
    next_room h e = rw (next_sum e) (sum_room (i + 1) (omega arith))
