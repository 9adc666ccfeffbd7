-- What the sums of the sources ask: the sizes of a cable by itself, and of one source more.
use mathlib.Core.Path.{◌≡◌, refl}
use Prim.Native.Nat.{ℕ, ◌*◌, ◌≤◌}
use native.Mathlib.Omega.{arith}
use Rattle.exact.specs.Share.{Source}
use Rattle.bounds.specs.Pair.{Pair, as_bounds, as_pair, add_p, times_p}
use Rattle.bounds.specs.Operations.{add_b}
use Rattle.bounds.specs.Promises.{Sized, largest, TimesRoom}
use Rattle.bounds.specs.declared.Bounds.{Bounds}
use Rattle.bounds.proofs.Pairs.{add_pair, add_room, times_room}
use Rattle.model.specs.Scale.{one}
use Rattle.model.specs.Logarithm.{logarithm}
use Rattle.model.specs.Integral.{Stretch}
use Rattle.model.specs.Share.{cable_logarithm, source_logarithm, source_integral, Ranges}
use Rattle.model.specs.Width.{Under}
use Rattle.model.proofs.Cable.{cable_logarithm_ordered, cable_logarithm_most, cable_stretch, near_below_far}
use Rattle.model.proofs.Group.{Beside, Close, source_close, source_logarithm_most}
use Rattle.series.specs.Asked.{UpTo}
use Rattle.series.proofs.UpTo.{up_to_is}
use Rattle.attained.specs.Asked.{HeatAsked, CableAsked, most_sum, JoinAsked}
use Rattle.attained.specs.Sums.{with_source}
use Rattle.attained.specs.declared.Sums.{Sums}

-- under a logarithm of at most 54, as every source's is
heat_asked : {near far diffusion : ℕ} (p : Pair) → Stretch near diffusion → near ≤ far → p.high ≤ 54 * one → HeatAsked near far diffusion (as_bounds p)
heat_asked p s o m = record { not_below = tt; span = record { stretch = s; order = o; top_small = omega arith } }

-- ---- a cable by itself
module _ {d l diffusion : ℕ} (a : CableAsked d l diffusion) where
  -- the laws of its logarithm and its ends heed d and l alone: the other fields are any in range
  any : Ranges d l 100 0 0 60
  any = omega arith

  pub cable_times_room : TimesRoom (as_bounds (logarithm d (40 * l))) 2
  unfolding cable_logarithm times_p
  cable_times_room =
      let m = cable_logarithm_most any in
      let o = cable_logarithm_ordered any in
      times_room (logarithm d (40 * l)) 2 (omega arith) (omega arith) (omega arith)

  pub cable_heat_asked : HeatAsked (5 * d * d) (8000 * l * l) diffusion (as_bounds (cable_logarithm d l))
  cable_heat_asked =
      let m = cable_logarithm_most any in
      let n = (cable_stretch any).near_some in
      let o = near_below_far any in
      heat_asked (cable_logarithm d l) (record { near_some = n; diffusion_some = a.diffusion_some; diffusion_small = a.diffusion_small }) o (omega arith)

-- ---- a sum, and one source more
module _ {sum : Bounds} (p : Pair) (a : UpTo most_sum sum) where
  sum_room : Under (16 * one) p → Sized largest (add_b sum (as_bounds p))
  sum_room h = let u = a.under in rw (up_to_is a) (add_room (as_pair sum) p (omega (arith, u.low, h.low)) (omega (arith, u.high, h.high)))

  sum_is : add_b sum (as_bounds p) ≡ as_bounds (add_p (as_pair sum) p)
  sum_is = rw (up_to_is a) (add_pair (as_pair sum) p)

module _ {sums : Sums} {near image diffusion : ℕ} (a : JoinAsked sums near image diffusion) where
  abbrev here : Source
  here = record { near = near; image = image }

  beside : Beside here
  beside = omega arith

  close : Close (source_integral diffusion here) (source_logarithm here)
  close = source_close beside a.diffusion_some a.diffusion_small

  pub source_heat_asked : HeatAsked (2000 * near) (2000 * image) diffusion (as_bounds (source_logarithm here))
  source_heat_asked = let m = source_logarithm_most beside in heat_asked (source_logarithm here) (omega arith) (omega arith) (omega arith)

  pub heat_room : Sized largest (add_b sums.heat (as_bounds (source_integral diffusion here)))
  heat_room =
      let m = source_logarithm_most beside in
      let z = close in
      sum_room _ a.heat_most (record { low = omega (arith, z.low_under); high = omega (arith, z.high_under) })

  pub logarithm_room : Sized largest (add_b sums.logarithm (as_bounds (source_logarithm here)))
  logarithm_room =
      let m = source_logarithm_most beside in
      let z = close in
      sum_room _ a.logarithm_most (record { low = omega (arith, z.logarithm_order); high = m })

  pub joined_is : record { heat = add_b sums.heat (as_bounds (source_integral diffusion here)); logarithm = add_b sums.logarithm (as_bounds (source_logarithm here)) } ≡ with_source diffusion sums here
  joined_is = rw (sum_is (source_integral diffusion here) a.heat_most, sum_is (source_logarithm here) a.logarithm_most) refl
