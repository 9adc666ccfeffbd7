-- The heating integral: neither end passes the logarithm, and 2^30 times its width is at most 2,016 low + 122 top + 156 times the sum
-- of θ + 13 · 2^30: from its slices, its far slice and two slices that are cut off.
use mathlib.Core.Path.{◌≡◌, sym}
use mathlib.Core.Bool.{Bool, ◌&&◌}
use Prim.Native.Nat.{ℕ, zero, suc, ◌+◌, ◌*◌, ◌-◌, ◌≤◌, ◌<◌, min}
use lib.Dec.{T, leb, leb→le}
use native.Mathlib.Nat.{le_of_lt, add_assoc, add-zero, zero-add}
use native.Mathlib.Omega.{arith}
use mir.Facts.{and_yes}
use Rattle.numbers.proofs.Tested.{passes, at_each}
use Rattle.bounds.specs.Pair.{Pair, add_p, scaled_p, quotient_p, at_most_p}
use Rattle.model.specs.Scale.{one, far_from, units, halves, exactly}
use Rattle.model.specs.Exponential.{exp_term, exp_sum, fraction_exp_pair, decayed, exp_pair}
use Rattle.model.specs.Series.{theta_of, series_term, series_sum, series_pair}
use Rattle.model.specs.Logarithm.{power_of_two}
use Rattle.model.specs.Integral.{Stretch, Slice, slice_pair, unit_slice, half_slice, part_slice, unit_part, half_part, within, joined, slice_start, far_pair, unit_sum, half_sum, heating_integral}
use Rattle.model.specs.Width.{Under}
use Rattle.model.proofs.Series.{same_theta}
use Rattle.model.proofs.Slice.{Spread, slice_spread}
use Rattle.model.proofs.Parts.{passed, PartCase, whole, cut, nothing, part_case, unit_scaled, half_scaled, within_from, twice_within, unit_sum_under, half_sum_under}
use Rattle.model.proofs.FarSlice.{far_pair_under_top, far_pair_spread, start_place}
use Rattle.model.proofs.Thetas.{Lines, same_line, none_under_lines, one_theta_more_under_lines, lines_halved}

pub integral_under_top : (near far diffusion top : ℕ) → Under top (heating_integral near far diffusion top)
unfolding heating_integral
integral_under_top near far diffusion top =
    half_sum_under near _ diffusion top _ (unit_sum_under near _ diffusion top _ (far_pair_under_top near far diffusion top) units) halves

-- ---- the whole slices, by their numbers
narrow : ℕ → Pair → Bool
narrow theta b = leb b.low b.high && leb (one * b.high) (one * b.low + 2016 * b.low + 156 * theta)

narrow_spread : (theta : ℕ) (b : Pair) → T (narrow theta b) → Spread (156 * theta) b
unfolding narrow
narrow_spread theta b t = let p = and_yes (leb b.low b.high) _ t in record { order = leb→le _ _ p.0; width = leb→le _ _ p.1 }

unit_spread : (n : ℕ) → n < units → Spread (156 * theta_of (suc n) (suc (suc n))) (unit_slice (suc n))
unfolding passes narrow unit_slice slice_pair scaled_p at_most_p quotient_p exp_term exp_sum fraction_exp_pair decayed exp_pair series_term series_sum series_pair
unit_spread n h = narrow_spread (theta_of (suc n) (suc (suc n))) (unit_slice (suc n)) (at_each (λ m. narrow (theta_of (suc m) (suc (suc m))) (unit_slice (suc m))) units n tt h)

half_spread : (k : ℕ) → k < halves → Spread (156 * theta_of 1 2) (half_slice k)
unfolding passes narrow half_slice power_of_two slice_pair scaled_p at_most_p quotient_p exp_term exp_sum fraction_exp_pair decayed exp_pair series_term series_sum series_pair
half_spread k h = narrow_spread (theta_of 1 2) (half_slice k) (at_each (λ m. narrow (theta_of 1 2) (half_slice m)) halves k tt h)

-- ---- sums
joined_spread : (x z top : ℕ) (sum slice : Pair) → Spread x sum → Spread z slice → Spread (x + z) (joined top sum slice)
unfolding add_p at_most_p
joined_spread x z top sum slice g h = record { order = omega arith; width = omega arith }

wider_spread : {x z : ℕ} {b : Pair} → x ≤ z → Spread x b → Spread z b
wider_spread h g = record { order = g.order; width = omega arith }

-- What is kept after the slices down to v: the sum of their θ, and the number of those that are cut off. What has a sum of θ below the lines at v has, with
-- them, one below the lines at the start.
record Narrow (from start base near far v : ℕ) (sum : Pair) : Type 0 where
  thetas : ℕ
  parts : ℕ
  spread : Spread (base + 156 * thetas + 6 * one * parts) sum
  counted : parts ≤ passed near far v
  lines : (r : ℕ) → Lines r near (within near far v) → Lines (thetas + r) from start

module _ {from start base : ℕ} where
  narrow_more : (near far x y top k : ℕ) (sum b : Pair) → x ≤ y → Spread (156 * theta_of (within near far x) (within near far y) + 6 * one * k) b → k + passed near far y ≤ passed near far x →
      Narrow from start base near far y sum → Narrow from start base near far x (joined top sum b)
  narrow_more near far x y top k sum b h g c w = record {
    thetas = w.thetas + theta;
    parts = w.parts + k;
    spread = wider_spread (numbers w.thetas w.parts) (joined_spread _ _ top sum b w.spread g);
    counted = more w.counted c;
    lines = λ r l n. same_line (sym (add_assoc w.thetas theta r)) (w.lines (theta + r) (one_theta_more_under_lines r near _ _ (within_from near far x) (rises near far x y h) l) n);
  }
    where
      theta : ℕ
      theta = theta_of (within near far x) (within near far y)

      numbers : (t p : ℕ) → base + 156 * t + 6 * one * p + (156 * theta + 6 * one * k) ≤ base + 156 * (t + theta) + 6 * one * (p + k)
      numbers t p = go theta
        where
          go : (u : ℕ) → base + 156 * t + 6 * one * p + (156 * u + 6 * one * k) ≤ base + 156 * (t + u) + 6 * one * (p + k)
          go u = omega arith

      more : {p q u : ℕ} → p ≤ q → k + q ≤ u → p + k ≤ u
      more a e = omega arith

      rises : (a b u v : ℕ) → u ≤ v → within a b u ≤ within a b v
      rises a b u v e = omega arith

  narrow_part : (near far x y diffusion top : ℕ) (sum all : Pair) → Slice x y diffusion → Spread (156 * theta_of x y) all →
      Narrow from start base near far y sum → Narrow from start base near far x (joined top sum (part_slice near far x y diffusion all))
  narrow_part near far x y diffusion top sum all s g w = go (part_case near far x y diffusion all s)
    where
      none : (t : ℕ) → Spread t (exactly 0)
      none t = record { order = omega arith; width = omega arith }

      go : {b : Pair} → PartCase near far x y diffusion all b → Narrow from start base near far x (joined top sum b)
      go (whole e f m) = narrow_more near far x y top 0 sum _ (le_of_lt s.order) (rw (e, f) (wider_spread (omega arith) g)) (omega arith) w
      go (cut c m) = narrow_more near far x y top 1 sum _ (le_of_lt s.order) (wider_spread (omega arith) (slice_spread c)) (omega arith) w
      go (nothing e m) = narrow_more near far x y top 0 sum _ (le_of_lt s.order) (none _) (omega arith) w

  narrow_doubled : (near far v : ℕ) (sum : Pair) → Narrow from start base near far v sum → Narrow from start base (2 * near) (2 * far) (2 * v) sum
  narrow_doubled near far v sum w = record {
    thetas = w.thetas;
    parts = w.parts;
    spread = w.spread;
    counted = more w.counted (twice far v) (twice near v);
    lines = λ r l. w.lines r (lines_halved r near (within near far v) (rw (twice_within near far v) at l));
  }
    where
      twice : (a b : ℕ) → min 1 (a - b) ≤ min 1 (2 * a - 2 * b)
      twice a b = omega arith

      more : {p a b c d : ℕ} → p ≤ a + b → a ≤ c → b ≤ d → p ≤ c + d
      more h k l = omega arith

-- ---- the whole
-- the sum of θ is below the lines at the start
pub record Widths (near start top : ℕ) (b : Pair) : Type 0 where
  pub thetas : ℕ
  pub spread : Spread (122 * top + 156 * thetas + 13 * one) b
  pub lines : Lines thetas near start

module _ (near far diffusion top : ℕ) (s : Stretch near diffusion) (order : near ≤ far) where
  abbrev start : ℕ
  start = slice_start near far diffusion

  abbrev first : Pair
  first = far_pair near far diffusion top

  abbrev After : ℕ → ℕ → ℕ → Pair → Type 0
  After = Narrow near start (122 * top + one)

  begun : After near start (far_from * diffusion) first
  begun = record {
    thetas = 0;
    parts = 0;
    spread = wider_spread (omega arith) (far_pair_spread near far diffusion top s.diffusion_some);
    counted = omega arith;
    lines = λ r l n. same_line (sym (zero-add r)) (rw (start_place near far diffusion order) at l n);
  }

  units_narrow : (i : ℕ) → i ≤ units → After near start ((far_from - i) * diffusion) (unit_sum near start diffusion top first i)
  unfolding unit_sum unit_part
  units_narrow zero h = begun
  units_narrow (suc i) h = go (far_from - suc (suc i)) (omega arith) (omega arith) (omega arith) (omega arith) (units_narrow i (omega arith))
    where
      go : (n : ℕ) → n < units → units - i ≡ suc n → far_from - i ≡ suc (suc n) → far_from - suc i ≡ suc n →
          After near start ((far_from - i) * diffusion) (unit_sum near start diffusion top first i) →
          After near start ((far_from - suc i) * diffusion)
          (joined top (unit_sum near start diffusion top first i) (part_slice near start ((units - i) * diffusion) (suc (units - i) * diffusion) diffusion (unit_slice (units - i))))
      go n l e f g w = rw (e, g)
          (narrow_part near start (suc n * diffusion) (suc (suc n) * diffusion) diffusion top (unit_sum near start diffusion top first i) (unit_slice (suc n)) (unit_scaled (suc n) s (omega arith))
          (here (omega arith) (omega arith) (same_theta diffusion (suc n) (suc (suc n)) s.diffusion_some (omega arith))) (rw f at w))
        where
          here : diffusion * suc n ≡ suc n * diffusion → diffusion * suc (suc n) ≡ suc (suc n) * diffusion → theta_of (diffusion * suc n) (diffusion * suc (suc n)) ≡ theta_of (suc n) (suc (suc n)) →
              Spread (156 * theta_of (suc n * diffusion) (suc (suc n) * diffusion)) (unit_slice (suc n))
          here a b c = rw (← a, ← b, c) (unit_spread n l)

  abbrev down_to_one : Pair
  down_to_one = unit_sum near start diffusion top first units

  halves_narrow : (k : ℕ) → k ≤ halves → After (near * power_of_two k) (start * power_of_two k) diffusion (half_sum near start diffusion top down_to_one k)
  unfolding half_sum half_part power_of_two
  halves_narrow zero h = go (omega arith) (omega arith) (omega arith) (units_narrow units (omega arith))
    where
      go : near * 1 ≡ near → start * 1 ≡ start → (far_from - units) * diffusion ≡ diffusion → After near start ((far_from - units) * diffusion) down_to_one → After (near * 1) (start * 1) diffusion down_to_one
      go a b c w = rw (a, b) (rw c at w)
  halves_narrow (suc k) h = go (omega arith) (omega arith) (narrow_doubled (near * power_of_two k) (start * power_of_two k) diffusion _ (halves_narrow k (omega arith)))
    where
      sum : Pair
      sum = half_sum near start diffusion top down_to_one k

      here : diffusion * 1 ≡ diffusion → diffusion * 2 ≡ 2 * diffusion → theta_of (diffusion * 1) (diffusion * 2) ≡ theta_of 1 2 → Spread (156 * theta_of diffusion (2 * diffusion)) (half_slice k)
      here a b c = let q : theta_of diffusion (2 * diffusion) ≡ theta_of 1 2 = rw (a, b) at c in rw q (half_spread k (omega arith))

      go : 2 * (near * power_of_two k) ≡ near * (2 * power_of_two k) → 2 * (start * power_of_two k) ≡ start * (2 * power_of_two k) →
          After (2 * (near * power_of_two k)) (2 * (start * power_of_two k)) (2 * diffusion) sum →
          After (near * (2 * power_of_two k)) (start * (2 * power_of_two k)) diffusion
          (joined top sum (part_slice (near * (2 * power_of_two k)) (start * (2 * power_of_two k)) diffusion (2 * diffusion) (diffusion * (2 * power_of_two k)) (half_slice k)))
      go a b w = narrow_part _ _ diffusion (2 * diffusion) _ top sum (half_slice k) (half_scaled k s)
          (here (omega arith) (omega arith) (same_theta diffusion 1 2 s.diffusion_some (omega arith))) (rw (a, b) at w)

  pub integral_widths : Widths near start top (heating_integral near far diffusion top)
  unfolding heating_integral
  integral_widths = go (halves_narrow halves (omega arith))
    where
      last : (p a b v : ℕ) → p ≤ passed a b v → p ≤ 2
      last p a b v h = omega arith

      numbers : (t p : ℕ) → p ≤ 2 → 122 * top + one + 156 * t + 6 * one * p ≤ 122 * top + 156 * t + 13 * one
      numbers t p h = omega arith

      go : {a b : ℕ} {sum : Pair} → After a b diffusion sum → Widths near start top sum
      go {a} {b} w = record {
        thetas = w.thetas;
        spread = wider_spread (numbers w.thetas w.parts (last w.parts a b diffusion w.counted)) w.spread;
        lines = λ n. same_line (add-zero w.thetas) (w.lines 0 (none_under_lines a (within a b diffusion) (within_from a b diffusion)) n);
      }
