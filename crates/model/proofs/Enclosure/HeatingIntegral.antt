-- The heating integral's pair encloses J, and so does the sum at every stage, from the place that it has reached.
use Prim.Native.Nat.{ℕ, zero, suc, ◌+◌, ◌*◌, ◌/◌, ◌-◌, ◌≤◌, ◌<◌, min, max}
use mathlib.Core.Path.{◌≡◌, refl}
use mathlib.Core.Bool.{Bool, true, false}
use mathlib.Core.List.{[], ◌∷◌}
use mathlib.Core.Logic.{◌⊎◌, inl, inr}
use lib.Dec.{ltb}
use borrow.Author.Tests.{ltb-true, ltb-false}
use native.Mathlib.Nat.{mul-pos, mul-le-mul_right}
use native.Mathlib.Omega.{arith}
use Rattle.numbers.specs.Fraction.{Frac, ◌≼◌, ◌≈◌, ◌per◌, 0F, ◌⊕◌, ◌⊗◌}
use Rattle.numbers.specs.Signed.{of_frac}
use Rattle.numbers.proofs.Fractions.{refl≼, trans≼, refl≈, sym≈}
use Rattle.numbers.proofs.FractionProver.{qv, qn, ◌+'◌, ◌*'◌, q_from, le}
use Rattle.bounds.specs.Pair.{Pair, scaled_p, at_most_p}
use Rattle.exact.specs.Value.{AtLeast, integral, ln}
use Rattle.exact.proofs.Slices.{none, end}
use Rattle.model.specs.Scale.{one, far_from, units, halves}
use Rattle.model.specs.Exponential.{exp_pair}
use Rattle.model.specs.Logarithm.{power_of_two}
use Rattle.model.specs.Integral.{Stretch, unit_slice, half_slice, unit_part, half_part, within, joined, unit_place, half_place, slice_start, far_pair, unit_sum, half_sum, heating_integral}
use Rattle.model.proofs.Logarithm.{power_above_zero}
use Rattle.model.proofs.Parts.{unit_slice_lem, half_slice_lem, unit_scaled, half_scaled, within_from, twice_within}
use Rattle.model.proofs.FarSlice.{slice_start_far, slice_start_near, start_place, far_pair_far, far_pair_near}
use Rattle.model.specs.Encloses.{unit, Encloses}
use Rattle.model.proofs.Enclosure.Units.{unit_times_over}
use Rattle.model.proofs.Enclosure.Places.{per_rises, per_scaled}
use Rattle.model.proofs.Enclosure.Exponential.{exp_in}
use Rattle.model.proofs.Enclosure.HeatingSlices.{FarTerm, far_term, no_far_term, StepIn, scaled_step, part_step, Walked, walked_encloses, walked_same, walked_further}

-- ---- the steps from knot to knot
unit_step : {near D : ℕ} (far n : ℕ) → Stretch near D → 0 < n → StepIn (within near far (n * D) per D) (within near far (suc n * D) per D) (unit_part near far D n)
unfolding unit_part unit_slice
unit_step {near} {D} far n s h = part_step near far (n * D) (suc n * D) D (unit_slice n) (unit_scaled n s h) (go (omega arith) (omega arith) (omega arith))
  where
    go : D * n ≡ n * D → D * suc n ≡ suc n * D → D * 1 ≡ D → StepIn ((n * D) per D) ((suc n * D) per D) (unit_slice n)
    go e f g = rw (e, f, g) at (scaled_step D n (suc n) 1 s.diffusion_some (unit_slice_lem n h))

half_step : {near D : ℕ} (far k : ℕ) → Stretch near D →
    StepIn (within (near * power_of_two (suc k)) (far * power_of_two (suc k)) D per (D * power_of_two (suc k)))
    (within (near * power_of_two (suc k)) (far * power_of_two (suc k)) (2 * D) per (D * power_of_two (suc k))) (half_part near far D k)
unfolding half_part half_slice
half_step {near} {D} far k s =
    part_step (near * power_of_two (suc k)) (far * power_of_two (suc k)) D (2 * D) (D * power_of_two (suc k)) (half_slice k) (half_scaled k s) (go (omega arith) (omega arith))
  where
    go : D * 1 ≡ D → D * 2 ≡ 2 * D → StepIn (D per (D * power_of_two (suc k))) ((2 * D) per (D * power_of_two (suc k))) (half_slice k)
    go e f = rw (e, f) at (scaled_step D 1 2 (power_of_two (suc k)) s.diffusion_some (half_slice_lem k))

-- the place is the same with all distances and the diffusion doubled
place_doubled : (near far D k : ℕ) → 0 < D → within (near * power_of_two (suc k)) (far * power_of_two (suc k)) (2 * D) per (D * power_of_two (suc k)) ≈ half_place near far D k
unfolding power_of_two
place_doubled near far D k z = go (omega arith) (omega arith) (omega arith) (twice_within (near * power_of_two k) (far * power_of_two k) D)
  where
    go : near * (2 * power_of_two k) ≡ 2 * (near * power_of_two k) → far * (2 * power_of_two k) ≡ 2 * (far * power_of_two k) → D * (2 * power_of_two k) ≡ 2 * (D * power_of_two k) →
        within (2 * (near * power_of_two k)) (2 * (far * power_of_two k)) (2 * D) ≡ 2 * within (near * power_of_two k) (far * power_of_two k) D →
        within (near * (2 * power_of_two k)) (far * (2 * power_of_two k)) (2 * D) per (D * (2 * power_of_two k)) ≈ half_place near far D k
    go e f g h = rw (e, f, g, h) (per_scaled 2 (within (near * power_of_two k) (far * power_of_two k) D) (D * power_of_two k) (omega arith) (mul-pos z (power_above_zero k)))

-- no place lies below the near end
near_first : (near far v D : ℕ) → 0 < D → near per D ≼ within near far v per D
near_first near far v D z = per_rises D z (within_from near far v)

unscaled : (near D k : ℕ) → 0 < D → near per D ≈ (near * power_of_two k) per (D * power_of_two k)
unscaled near D k z = go (omega arith) (omega arith)
  where
    go : power_of_two k * near ≡ near * power_of_two k → power_of_two k * D ≡ D * power_of_two k → near per D ≈ (near * power_of_two k) per (D * power_of_two k)
    go e f = rw (e, f) at (sym≈ (per_scaled (power_of_two k) near D (power_above_zero k) z))

module _ (near far D top : ℕ) (s : Stretch near D) (order : near ≤ far) (cap : AtLeast (of_frac (unit top)) (ln (far per near))) where
  -- ---- where the slices begin
  record Begun (start : ℕ) (b : Pair) : Type 0 where
    term : Frac
    is_far : FarTerm near far D top s cap start term
    walked : Walked near far D top s cap start term (start per D) b

  begun_far : (edge : ℕ) → near ≤ edge → edge ≤ far → Begun edge (at_most_p (scaled_p (record { low = 0; high = top }) (exp_pair edge D) one) top)
  unfolding scaled_p at_most_p
  begun_far edge h k = record {
    term = unit (exp_pair edge D).high ⊗ unit top;
    is_far = far_term near far D top s cap edge (unit (exp_pair edge D).high) h k (exp_in edge D s.diffusion_some).above;
    walked = record { slices = []; adjacent = end (refl≈ (edge per D)); lowers = none; uppers = none; low = nothing (exp_pair edge D).low; high = cut (exp_pair edge D).high (ltb (top * (exp_pair edge D).high / one + 1) top) refl };
  }
    where
      nothing : (e : ℕ) → unit (min (0 * e / one) top) ≼ 0F
      nothing e = omega arith

      cut : (e : ℕ) (b : Bool) → ltb (top * e / one + 1) top ≡ b → (0F ⊕ unit e ⊗ unit top ≼ unit (min (top * e / one + 1) top)) ⊎ (top ≤ min (top * e / one + 1) top)
      cut e true q =
          let l = ltb-true (top * e / one + 1) top q in
          let m : min (top * e / one + 1) top ≡ top * e / one + 1 = omega arith in
          inl (rw m (q_from (unit (top * e / one + 1) ∷ unit top ∷ unit e ∷ []) (le (qn 1) (qv 1 *' qv 2) (qv 0) ∷ []) (qn 0 +' qv 2 *' qv 1) (qv 0) tt (unit_times_over top e)))
      cut e false q = let l = ltb-false (top * e / one + 1) top q in inr (omega arith)

  begun_near : Begun far (record { low = 0; high = 0 })
  begun_near = record {
    term = 0F;
    is_far = no_far_term near far D top s cap order;
    walked = record { slices = []; adjacent = end (refl≈ (far per D)); lowers = none; uppers = none; low = omega arith; high = inl (omega arith) };
  }

  begun : Begun (slice_start near far D) (far_pair near far D top)
  begun = go (ltb (far_from * D) far) refl
    where
      go : (b : Bool) → ltb (far_from * D) far ≡ b → Begun (slice_start near far D) (far_pair near far D top)
      go true e =
          let l = ltb-true (far_from * D) far e in
          rw (slice_start_far near far D l, far_pair_far near far D top l) (begun_far (max near (far_from * D)) (omega arith) (omega arith))
      go false e = let l = ltb-false (far_from * D) far e in rw (slice_start_near near far D l, far_pair_near near far D top l) begun_near

  -- ---- at every stage
  abbrev start : ℕ
  start = slice_start near far D

  abbrev first : Pair
  first = far_pair near far D top

  abbrev At : Frac → Pair → Type 0
  At p sum = Walked near far D top s cap start begun.term p sum

  units_walked : (i : ℕ) → i ≤ units → At (unit_place near start D i) (unit_sum near start D top first i)
  unfolding unit_sum
  units_walked zero h = rw (start_place near far D order) begun.walked
  units_walked (suc i) h = go (units - i) (omega arith) (omega arith) (units_walked i (omega arith))
    where
      go : (n : ℕ) → far_from - i ≡ suc n → n ≡ far_from - suc i → At (unit_place near start D i) (unit_sum near start D top first i) →
          At (unit_place near start D (suc i)) (joined top (unit_sum near start D top first i) (unit_part near start D n))
      go n e f w = rw (← f) (walked_further near far D top s cap (unit_sum near start D top first i) (unit_step start n s (omega arith)) (rw e at w))

  abbrev down_to_one : Pair
  down_to_one = unit_sum near start D top first units

  halves_walked : (k : ℕ) → At (half_place near start D k) (half_sum near start D top down_to_one k)
  unfolding half_sum power_of_two
  halves_walked zero = go (omega arith) (omega arith) (omega arith) (omega arith) (units_walked units (omega arith))
    where
      go : near * 1 ≡ near → start * 1 ≡ start → D * 1 ≡ D → (far_from - units) * D ≡ D → At (unit_place near start D units) down_to_one → At (within (near * 1) (start * 1) D per (D * 1)) down_to_one
      go e f g h w = rw (e, f, g) (rw h at w)
  halves_walked (suc k) =
      walked_further near far D top s cap (half_sum near start D top down_to_one k) (half_step start k s) (walked_same near far D top s cap (place_doubled near start D k s.diffusion_some) (halves_walked k))

  -- what is summed after i unit slices, and after k half slices, bounds the integral from the place reached to the far end
  pub units_enclose : (i : ℕ) → i ≤ units → Encloses one (unit_sum near start D top first i) (integral (unit_place near start D i) (far per D))
  units_enclose i h = walked_encloses near far D top s cap begun.is_far (near_first near start ((far_from - i) * D) D s.diffusion_some) (units_walked i h)

  pub halves_enclose : (k : ℕ) → Encloses one (half_sum near start D top down_to_one k) (integral (half_place near start D k) (far per D))
  halves_enclose k =
      walked_encloses near far D top s cap begun.is_far
      (trans≼ (unscaled near D k s.diffusion_some).to (near_first (near * power_of_two k) (start * power_of_two k) D (D * power_of_two k) (mul-pos s.diffusion_some (power_above_zero k))))
      (halves_walked k)

  -- ---- at the end
  last_place : near per D ≈ half_place near start D halves
  unfolding power_of_two
  last_place = go (omega (arith, mul-le-mul_right 4294967296 s.near_some, s.diffusion_small)) (unscaled near D halves s.diffusion_some)
    where
      go : within (near * power_of_two halves) (start * power_of_two halves) D ≡ near * power_of_two halves → near per D ≈ (near * power_of_two halves) per (D * power_of_two halves) →
          near per D ≈ half_place near start D halves
      go e f = rw e f

  pub heating_integral_encloses : Encloses one (heating_integral near far D top) (integral (near per D) (far per D))
  unfolding heating_integral
  heating_integral_encloses =
      walked_encloses near far D top s cap begun.is_far (refl≼ (near per D)) (walked_same near far D top s cap last_place (halves_walked halves))
