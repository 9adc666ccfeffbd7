-- One slice of the logarithm, one of the heating integral, the far slice, a slice that is cut, and one slice more: what the methods ask of their pairs, and which
-- pair comes out.
use mathlib.Core.Path.{◌≡◌, refl, sym, ap}
use Prim.Native.Nat.{ℕ, ◌+◌, ◌*◌, ◌≤◌, ◌<◌, min, max}
use native.Mathlib.Nat.{mul-le-mul_left}
use native.Mathlib.Omega.{arith}
use lib.IntN.{ℤ, pos}
use Rattle.bounds.specs.Pair.{Pair, as_bounds, as_pair, scaled_p}
use Rattle.bounds.specs.Operations.{add_b, scaled_b, at_most_b}
use Rattle.bounds.specs.Promises.{Sized, largest, ScaledRoom}
use Rattle.bounds.specs.declared.Bounds.{Bounds}
use Rattle.bounds.proofs.Pairs.{add_pair, add_room, scaled_pair, scaled_room, at_most_pair}
use Rattle.model.specs.Scale.{one, half, far_from, exactly, from_floor}
use Rattle.model.specs.Exponential.{exp_pair}
use Rattle.model.specs.Series.{theta_of, tau_of, series_pair}
use Rattle.model.specs.Integral.{Stretch, Slice, slice_pair, any_slice, far_pair, joined}
use Rattle.model.specs.Width.{Under}
use Rattle.model.proofs.Exponential.{exp_at_most_one, exp_from_16_at_most_122}
use Rattle.model.proofs.Series.{series_most, series_most_lem, theta_at_most_half}
use Rattle.model.proofs.Slice.{height_most, theta_half, tau_one, slice_series_most, slice_height_most}
use Rattle.model.proofs.Parts.{any_some, any_none}
use Rattle.model.proofs.FarSlice.{far_pair_far}
use Rattle.series.specs.Asked.{SliceFractions, UpTo}
use Rattle.series.proofs.Products.{scaled_room_under}
use Rattle.series.proofs.UpTo.{up_to_is}
use Rattle.integral.specs.Asked.{OneOctave, Span}
use Rattle.integral.specs.Knots.{knot_exp}
use Rattle.integral.proofs.Knots.{unit_knot}

from_floor_under : {theta : ℕ} → theta ≤ half → Under (half + 1) (from_floor theta)
from_floor_under h = omega arith

-- ---- the logarithm
module _ {x y : ℕ} (a : OneOctave x y) where
  pub octave_theta : theta_of x y ≤ half
  octave_theta = theta_at_most_half x y (omega arith)

  pub octave_fractions : SliceFractions (theta_of x y) 0
  octave_fractions = record { theta_most = octave_theta; tau_most = omega arith }

  pub octave_room : ScaledRoom (as_bounds (from_floor (theta_of x y))) (as_bounds (series_pair (theta_of x y) 0)) one
  octave_room =
      scaled_room_under (half + 1) series_most (omega arith) (from_floor_under octave_theta) (series_most_lem (theta_of x y) 0 octave_theta (omega arith)) tt

-- ---- the heating integral
module _ {x y diffusion : ℕ} (a : Slice x y diffusion) where
  pub slice_fractions : SliceFractions (theta_of x y) (tau_of x y diffusion)
  slice_fractions = record { theta_most = theta_half a; tau_most = tau_one a }

  pub height_room : ScaledRoom (as_bounds (exp_pair y diffusion)) (as_bounds (series_pair (theta_of x y) (tau_of x y diffusion))) one
  height_room = scaled_room_under one series_most (omega arith) (exp_at_most_one y diffusion) (slice_series_most a) tt

  pub area_room : ScaledRoom (as_bounds (scaled_p (exp_pair y diffusion) (series_pair (theta_of x y) (tau_of x y diffusion)) one)) (as_bounds (from_floor (theta_of x y))) one
  area_room = scaled_room_under height_most (half + 1) (omega arith) (slice_height_most a) (from_floor_under (theta_half a)) tt

pub heat_slice_is : (x y diffusion : ℕ) →
    scaled_b (scaled_b (as_bounds (exp_pair y diffusion)) (as_bounds (series_pair (theta_of x y) (tau_of x y diffusion))) one) (as_bounds (from_floor (theta_of x y))) one
    ≡ as_bounds (slice_pair x y diffusion)
unfolding slice_pair scaled_b
heat_slice_is x y diffusion = refl

-- ---- the far slice
module _ {near far diffusion top : ℕ} (a : Span near far diffusion top) where
  abbrev edge : ℕ
  edge = max near (far_from * diffusion)

  abbrev up_to_top : Pair
  up_to_top = record { low = 0; high = top }

  pub far_room : ScaledRoom (as_bounds up_to_top) (as_bounds (exp_pair edge diffusion)) one
  far_room =
      let e = exp_from_16_at_most_122 edge diffusion a.stretch.diffusion_some (omega arith) in
      scaled_room up_to_top (exp_pair edge diffusion) (omega arith) (omega arith) (omega (arith, mul-le-mul_left top e))

  pub far_slice_is : {limit : ℤ} → limit ≡ pos top → far_from * diffusion < far →
      at_most_b (scaled_b (as_bounds up_to_top) (as_bounds (exp_pair edge diffusion)) one) limit ≡ as_bounds (far_pair near far diffusion top)
  far_slice_is e h = rw (e, scaled_pair, at_most_pair) (ap as_bounds (sym (far_pair_far near far diffusion top h)))

-- ---- one slice more
module _ {sum slice : Bounds} {top : ℕ} (top_small : top < 1099511627776) (sum_most : UpTo top sum) (slice_most : UpTo (2 * one) slice) where
  pub joint_room : Sized largest (add_b sum slice)
  joint_room =
      let u = sum_most.under in
      let v = slice_most.under in
      rw (up_to_is sum_most, up_to_is slice_most) (add_room (as_pair sum) (as_pair slice) (omega (arith, u.low, v.low)) (omega (arith, u.high, v.high)))

  pub joint_is : {limit : ℤ} → limit ≡ pos top → at_most_b (add_b sum slice) limit ≡ as_bounds (joined top (as_pair sum) (as_pair slice))
  joint_is e = rw (up_to_is sum_most, up_to_is slice_most, e, add_pair, at_most_pair) refl

-- ---- e^(-u) where the far slice begins
pub far_beyond : (near diffusion : ℕ) → far_from * diffusion < near → as_bounds (exp_pair near diffusion) ≡ as_bounds (exp_pair (max near (far_from * diffusion)) diffusion)
far_beyond near diffusion h = let e : max near (far_from * diffusion) ≡ near = omega arith in rw e refl

pub far_at_knot : {near diffusion : ℕ} → Stretch near diffusion → near ≤ far_from * diffusion → as_bounds (knot_exp 0) ≡ as_bounds (exp_pair (max near (far_from * diffusion)) diffusion)
far_at_knot {near} {diffusion} s h =
    let e : max near (far_from * diffusion) ≡ far_from * diffusion = omega arith in
    rw e (ap as_bounds (unit_knot 0 diffusion (omega arith) s.diffusion_some))

-- ---- what lies between two ends of a slice
module _ {x y diffusion start end : ℕ} (near far : ℕ) (s : Slice x y diffusion) (es : start ≡ max near x) (ee : end ≡ min far y) where
  pub cut_some : start < end → as_bounds (slice_pair start end diffusion) ≡ as_bounds (any_slice (max near x) (min far y) diffusion)
  cut_some h = rw (es, ee) (ap as_bounds (any_some (max near x) (min far y) diffusion (rw (es, ee) at h)))

  pub cut_none : end ≤ start → as_bounds (exactly 0) ≡ as_bounds (any_slice (max near x) (min far y) diffusion)
  cut_none h = ap as_bounds (any_none (max near x) (min far y) diffusion (rw (es, ee) at h))
