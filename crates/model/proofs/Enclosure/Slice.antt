-- One slice of the models, from x to y in units of D, as a slice of the exact theory: its pair encloses the slice's two areas, and the slice keeps what
-- the totals ask of it. Of the heating integral D is the diffusion; of the logarithm it is 1.
use Prim.Native.Nat.{ℕ, ◌+◌, ◌*◌, ◌-◌, ◌≤◌, ◌<◌}
use mathlib.Core.List.{[], ◌∷◌}
use native.Mathlib.Omega.{arith}
use Rattle.numbers.specs.Fraction.{Frac, ◌≼◌, ◌per◌, whole, 0F, 1F, ◌⊗◌}
use Rattle.numbers.proofs.Fractions.{refl≼, trans≼, mul≼}
use Rattle.numbers.proofs.FractionProver.{qv, qn, ◌*'◌, q_from, q_le, le}
use Rattle.bounds.specs.Pair.{Pair, scaled_p}
use Rattle.exact.proofs.SliceSeries.{slice_area, slice_area_over, Short}
use Rattle.exact.proofs.Slices.{Slice, series}
use Rattle.exact.proofs.Enclosure.{low_area, high_area, Lower, Upper, series_low, series_high, heat_exponent}
use Rattle.exact.proofs.LogarithmSlices.{ln_exponent, ln_lower, ln_upper}
use Rattle.model.specs.Scale.{one, series_order, from_floor}
use Rattle.model.specs.Exponential.{exp_pair}
use Rattle.model.specs.Series.{theta_of, tau_of, series_pair}
use Rattle.model.specs.Integral.{slice_pair}
use Rattle.model.specs.Integral as model
use Rattle.model.specs.Logarithm.{logarithm_slice}
use Rattle.model.specs.Encloses.{unit}
use Rattle.model.proofs.Enclosure.Units.{unit_times_low, unit_times_over, Floor, quotient_floor, floor_same}
use Rattle.model.proofs.Enclosure.Places.{per_per, per_one, per_at_most_one, twice_per, twice_per_one}
use Rattle.model.proofs.Enclosure.Exponential.{exp_in}
use Rattle.model.proofs.Enclosure.Series.{series_under, series_over}

-- the exact slice, with L and U for the two bounds of the exponential at its far end
abbrev pub slice_of : Frac → Frac → ℕ → ℕ → ℕ → Slice
slice_of L U x y D = record { far = y per D; width = (y - x) per D; kind = series (D per y) L U series_order }

-- the slice serves both totals, and the pair encloses its areas
pub record SliceIn (X : Frac → Frac) (b : Pair) (s : Slice) : Type 0 where
  pub lower : Lower X s
  pub upper : Upper X s
  pub low : unit b.low ≼ low_area X s s.width
  pub high : high_area X s s.width ≼ unit b.high

-- ---- the areas, for any exponent
module _ (X : Frac → Frac) (x y D tau : ℕ) (z_d : 0 < D) (zy : 0 < y) (h : 2 * (y - x) ≤ y) (u : Floor tau (X ((y - x) per D))) (τ-one : X ((y - x) per D) ≼ 1F) (L U : Frac) (b : Pair) where
  abbrev theta : ℕ
  theta = theta_of x y

  abbrev sums : Pair
  sums = series_pair theta tau

  abbrev ζ : Frac
  ζ = (y - x) per D

  abbrev r : Frac
  r = D per y

  theta_floor : Floor theta (ζ ⊗ r)
  theta_floor = floor_same (record { to = (per_per (y - x) D y z_d zy).from; from = (per_per (y - x) D y z_d zy).to }) (quotient_floor (y - x) y zy)

  theta_half : whole 2 ⊗ (ζ ⊗ r) ≼ 1F
  theta_half = trans≼ (mul≼ (refl≼ (whole 2)) (per_per (y - x) D y z_d zy).to) (twice_per_one (y - x) y zy h)

  theta_next : ζ ⊗ r ≼ unit (theta + 1)
  theta_next = trans≼ theta_floor.high (omega arith)

  low_in_area : unit b.low ≼ L ⊗ unit sums.low ⊗ unit theta → unit b.low ≼ low_area X (slice_of L U x y D) ζ
  low_in_area k = q_from (L ∷ r ∷ slice_area X r ζ series_order ∷ unit b.low ∷ unit sums.low ∷ unit theta ∷ ζ ∷ [])
      (le (qn 1) (qv 3) (qv 0 *' qv 4 *' qv 5) ∷ le (qv 0 *' qv 4) (qv 5) (qv 6 *' qv 1) ∷ le (qv 0 *' qv 1) (qv 6 *' qv 4) (qv 2) ∷ []) (qv 3) (qv 0 *' qv 1 *' qv 2) tt
      k theta_floor.low (series_under X r ζ theta tau theta_floor u)

  area_in_high : U ⊗ unit sums.high ⊗ unit (theta + 1) ≼ unit b.high → high_area X (slice_of L U x y D) ζ ≼ unit b.high
  area_in_high k = q_from (unit b.high ∷ U ∷ r ∷ slice_area_over X r ζ series_order ∷ ζ ∷ unit sums.high ∷ unit (theta + 1) ∷ [])
      (le (qv 1 *' qv 2) (qv 3) (qv 4 *' qv 5) ∷ le (qv 1 *' qv 5) (qv 4 *' qv 2) (qv 6) ∷ le (qn 1) (qv 1 *' qv 5 *' qv 6) (qv 0) ∷ []) (qv 1 *' qv 2 *' qv 3) (qv 0) tt
      (series_over X r ζ theta tau theta_floor u theta_half τ-one) theta_next k

-- ---- a slice of the heating integral
abbrev pub heat_slice : ℕ → ℕ → ℕ → Slice
heat_slice x y D = slice_of (unit (exp_pair y D).low) (unit (exp_pair y D).high) x y D

short_enough : (a D n : ℕ) → 0 < D → a ≤ D → (m : ℕ) → m ≤ n → whole m ⊗ a per D ≼ whole n
short_enough a D n z h m k = trans≼ (mul≼ {a = whole m} {b = whole n} (omega arith) (per_at_most_one a D z h)) (q_le (whole n ∷ []) (qv 0 *' qn 1) (qv 0) tt)

module _ {x y D : ℕ} (s : model.Slice x y D) where
  abbrev exponential : Pair
  exponential = exp_pair y D

  z_d : 0 < D
  z_d = omega arith

  zy : 0 < y
  zy = omega arith

  heat_short : Short heat_exponent (y per D) ((y - x) per D) series_order
  heat_short = record {
    half = twice_per (y - x) y D z_d s.half;
    fourth = short_enough (y - x) D 20 z_d s.short 4 (omega arith);
    double = short_enough (y - x) D 19 z_d s.short 2 (omega arith);
  }

  pub heat_slice_in : SliceIn heat_exponent (slice_pair x y D) (heat_slice x y D)
  unfolding slice_pair scaled_p
  heat_slice_in =
      let e = exp_in y D z_d in
      let t = theta_of x y in
      let g = series_pair t (tau_of x y D) in
      let p = scaled_p exponential g one in
      let w = scaled_p p (from_floor t) one in
      let u = quotient_floor (y - x) D z_d in
      let o = per_at_most_one (y - x) D z_d s.short in
      record {
        lower = series_low (per_one D y z_d zy) e.below;
        upper = series_high (per_one D y z_d zy) e.above heat_short;
        low = low_in_area heat_exponent x y D (tau_of x y D) z_d zy s.half u o (unit exponential.low) (unit exponential.high) w
            (trans≼ (unit_times_low p.low t) (mul≼ (unit_times_low exponential.low g.low) (refl≼ (unit t))));
        high = area_in_high heat_exponent x y D (tau_of x y D) z_d zy s.half u o (unit exponential.low) (unit exponential.high) w
            (trans≼ (mul≼ (unit_times_over exponential.high g.high) (refl≼ (unit (t + 1)))) (unit_times_over p.high (t + 1)));
      }

-- ---- a slice of the logarithm
abbrev pub ln_slice : ℕ → ℕ → Slice
ln_slice x y = slice_of 1F 1F x y 1

module _ (x y : ℕ) (zy : 0 < y) (h : 2 * (y - x) ≤ y) where
  no_tau : Floor 0 0F
  no_tau = record { low = omega arith; high = omega arith }

  pub ln_slice_in : SliceIn ln_exponent (logarithm_slice x y) (ln_slice x y)
  unfolding logarithm_slice scaled_p
  ln_slice_in =
      let t = theta_of x y in
      let g = series_pair t 0 in
      let w = scaled_p (from_floor t) g one in
      let r = per_one 1 y (omega arith) zy in
      record {
        lower = ln_lower (y per 1) (1 per y) 1F 1F series_order (refl≼ 1F) r;
        upper = ln_upper (y per 1) ((y - x) per 1) (1 per y) 1F 1F series_order (refl≼ 1F) r (twice_per (y - x) y 1 (omega arith) h);
        low = low_in_area ln_exponent x y 1 0 (omega arith) zy h no_tau (omega arith) 1F 1F w
            (q_from (unit g.low ∷ unit t ∷ unit w.low ∷ []) (le (qn 1) (qv 2) (qv 1 *' qv 0) ∷ []) (qv 2) (qn 1 *' qv 0 *' qv 1) tt (unit_times_low t g.low));
        high = area_in_high ln_exponent x y 1 0 (omega arith) zy h no_tau (omega arith) 1F 1F w
            (q_from (unit w.high ∷ unit g.high ∷ unit (t + 1) ∷ []) (le (qn 1) (qv 2 *' qv 1) (qv 0) ∷ []) (qn 1 *' qv 1 *' qv 2) (qv 0) tt (unit_times_over (t + 1) g.high));
      }
