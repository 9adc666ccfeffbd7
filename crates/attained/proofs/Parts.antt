-- The parts of the share: what the methods ask of their pairs, and which pair comes out.
use mathlib.Core.Path.{◌≡◌}
use Prim.Native.Nat.{ℕ, ◌-◌, ◌≤◌}
use native.Mathlib.Omega.{arith}
use lib.IntN.{pos}
use Rattle.bounds.specs.Pair.{Pair, as_bounds, as_pair, add_p, less_p, scaled_p, times_p, at_most_p}
use Rattle.bounds.specs.Operations.{point_b, add_b, neg_b, scaled_b, times_b, at_most_b}
use Rattle.bounds.specs.Promises.{Sized, largest, ScaledRoom, TimesRoom}
use Rattle.bounds.specs.declared.Bounds.{Bounds}
use Rattle.bounds.proofs.Pairs.{pair_sized, add_room, less_pair, less_room, times_pair, at_most_pair}
use Rattle.model.specs.Scale.{one, million, beta_one, surface_one, beta_to_surface, surface_to_share, attainment_one, exactly}
use Rattle.model.specs.Exponential.{exp_pair}
use Rattle.model.specs.Share.{beta, surface_factor, attainment, share_of}
use Rattle.model.specs.Width.{Under}
use Rattle.model.proofs.Exponential.{exp_at_most_one}
use Rattle.model.proofs.Share.{beta_at_most_one, surface_at_most_one, lost_at_most_all, attainment_at_most_one}
use Rattle.series.proofs.UpTo.{pair_up_to, up_to_is}
use Rattle.series.proofs.Products.{scaled_room_under, times_room_under}
use Rattle.attained.specs.Asked.{PartOf, FactorAsked}

-- ---- what is left of a whole
module _ {whole : ℕ} {part : Bounds} (a : PartOf whole part) where
  pub rest_negates : Sized largest part
  rest_negates =
      let u = a.part_most.under in
      let z = a.whole_small in
      rw (up_to_is a.part_most) (pair_sized (as_pair part) (omega (arith, u.low)) (omega (arith, u.high)))

  pub rest_room : Sized largest (add_b (point_b (pos whole)) (neg_b part))
  rest_room = let u = a.part_most.under in rw (up_to_is a.part_most) (less_room whole (as_pair part) a.whole_small u.low u.high)

  pub rest_is : add_b (point_b (pos whole)) (neg_b part) ≡ as_bounds (less_p whole (as_pair part))
  rest_is = let u = a.part_most.under in rw (up_to_is a.part_most) (less_pair whole (as_pair part) u.low u.high)

less_under : (c : ℕ) (p : Pair) → Under c (less_p c p)
unfolding less_p
less_under c p = omega arith

at_most_under : (p : Pair) (top : ℕ) → Under top (at_most_p p top)
unfolding at_most_p
at_most_under p top = omega arith

-- ---- the surface factor
module _ {k beta : Bounds} (a : FactorAsked k beta) where
  abbrev missing : Pair
  missing = less_p beta_one (as_pair beta)

  abbrev lost : Pair
  lost = at_most_p (scaled_p (as_pair k) missing beta_to_surface) surface_one

  pub factor_room : ScaledRoom k (as_bounds missing) beta_to_surface
  factor_room =
      rw (up_to_is a.k_most) (scaled_room_under million beta_one (omega arith) a.k_most.under (less_under beta_one (as_pair beta)) tt)

  pub lost_is : at_most_b (scaled_b k (as_bounds missing) beta_to_surface) (pos surface_one) ≡ as_bounds lost
  unfolding scaled_b
  lost_is = at_most_pair (scaled_p (as_pair k) missing beta_to_surface) surface_one

  pub lost_part : PartOf surface_one (as_bounds lost)
  lost_part =
      record {
        whole_small = omega arith;
        part_most = pair_up_to lost (at_most_under (scaled_p (as_pair k) missing beta_to_surface) surface_one);
      }

-- ---- the attainment
pub weighted_room : (num w : ℕ) → w ≤ million → TimesRoom (as_bounds (exp_pair num million)) w
weighted_room num w h = times_room_under one million (exp_at_most_one num million) h tt tt

pub weighted_is : (num w : ℕ) {e p : Bounds} → e ≡ as_bounds (exp_pair num million) → p ≡ times_b e w → p ≡ as_bounds (times_p (exp_pair num million) w)
weighted_is num w ee ep = rw (ep, ee) (times_pair (exp_pair num million) w)

-- from the exponents of the two parts, in millionths, and the weight of the fast one
abbrev pub yet_to_rise : ℕ → ℕ → ℕ → Pair
yet_to_rise fast slow w = add_p (times_p (exp_pair fast million) w) (times_p (exp_pair slow million) (million - w))

module _ (fast slow w : ℕ) (h : w ≤ million) where
  yet_to_rise_under : Under attainment_one (yet_to_rise fast slow w)
  unfolding add_p times_p
  yet_to_rise_under =
      let p = exp_at_most_one fast million in
      let q = exp_at_most_one slow million in
      record { low = lost_at_most_all w _ _ h p.low q.low; high = lost_at_most_all w _ _ h p.high q.high }

  pub yet_to_rise_room : Sized largest (add_b (as_bounds (times_p (exp_pair fast million) w)) (as_bounds (times_p (exp_pair slow million) (million - w))))
  unfolding add_p
  yet_to_rise_room = let u = yet_to_rise_under in add_room _ _ (omega (arith, u.low)) (omega (arith, u.high))

  pub yet_to_rise_part : PartOf attainment_one (as_bounds (yet_to_rise fast slow w))
  yet_to_rise_part = record { whole_small = omega arith; part_most = pair_up_to (yet_to_rise fast slow w) yet_to_rise_under }

-- ---- the share
pub factor_asked : {k : ℕ} (j n : Pair) → k ≤ million → FactorAsked (as_bounds (exactly k)) (as_bounds (beta j n))
factor_asked {k} j n h = record { k_most = pair_up_to (exactly k) (omega arith); beta_most = pair_up_to (beta j n) (beta_at_most_one j n) }

pub share_room : (k b : Pair) (w fast slow t : ℕ) → ScaledRoom (as_bounds (surface_factor k b)) (as_bounds (attainment w fast slow t)) surface_to_share
share_room k b w fast slow t =
    scaled_room_under surface_one one (omega arith) (surface_at_most_one k b) (attainment_at_most_one w fast slow t) tt

pub share_is : (surface attained : Pair) → at_most_b (scaled_b (as_bounds surface) (as_bounds attained) surface_to_share) (pos million) ≡ as_bounds (share_of surface attained)
unfolding share_of scaled_b
share_is surface attained = at_most_pair (scaled_p surface attained surface_to_share) million
