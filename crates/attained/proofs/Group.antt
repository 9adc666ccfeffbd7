-- For a caller that sums a cable's sources and asks for the share: the laws of a group, a cable in range and neighbours xs beside it, at most 48.
use mathlib.Core.Path.{◌≡◌, refl}
use mathlib.Core.List.{List, [], ◌∷◌}
use Prim.Native.Nat.{ℕ, ◌*◌, ◌≤◌, ◌<◌}
use lib.ListN.{length}
use native.Mathlib.Omega.{arith}
use Rattle.exact.specs.Share.{Source}
use Rattle.bounds.specs.Pair.{Pair, as_bounds, add_p}
use Rattle.bounds.specs.Promises.{QuotientRoom}
use Rattle.bounds.proofs.Pairs.{quotient_room}
use Rattle.model.specs.Scale.{beta_one, diffusion_end, exactly}
use Rattle.model.specs.Integral.{heating_integral}
use Rattle.model.specs.Share.{beta, surface_factor, attainment, share_of, cable_logarithm, cable_integral, source_logarithm, source_integral, with_logarithms, with_integrals, group_logarithm, group_integral, attained_share, Ranges}
use Rattle.model.proofs.Cable.{cable_stretch}
use Rattle.model.proofs.Group.{Beside, Close, AllBeside, none, more, all_close, logarithms_grow, group_close, group_logarithm_above_zero, group_logarithm_most}
use Rattle.series.proofs.UpTo.{pair_up_to}
use Rattle.attained.specs.Asked.{most_rate, most_sum, CableAsked, JoinAsked, ShareAsked}
use Rattle.attained.specs.Sums.{as_sums, with_source}
use Rattle.attained.specs.declared.Sums.{Sums}

-- ---- the cable by itself
pub cable_sums_are : (d l s t : ℕ) → as_sums (heating_integral (5 * d * d) (8000 * l * l) (8 * t * s) (cable_logarithm d l).high) (cable_logarithm d l) ≡ as_sums (cable_integral d l s t) (cable_logarithm d l)
unfolding cable_integral
cable_sums_are d l s t = refl

-- ---- from source to source: what is summed, j and n, and the sources left add up to the totals
pub record Summing (diffusion : ℕ) (j n : Pair) (rest : List Source) (heats logarithms : Pair) : Type 0 where
  pub diffusion_some : 0 < diffusion
  pub diffusion_small : diffusion < diffusion_end
  pub heats_are : with_integrals diffusion j rest ≡ heats
  pub logarithms_are : with_logarithms n rest ≡ logarithms
  pub close : Close j n
  pub beside : AllBeside rest
  pub most : logarithms.high ≤ most_sum

first_beside : {x : Source} {xs : List Source} → AllBeside (x ∷ xs) → Beside x
first_beside (more b r) = b

others_beside : {x : Source} {xs : List Source} → AllBeside (x ∷ xs) → AllBeside xs
others_beside (more b r) = r

module _ {diffusion : ℕ} {j n heats logarithms : Pair} {x : Source} {xs : List Source} (z : Summing diffusion j n (x ∷ xs) heats logarithms) where
  -- no sum passes the total that it grows to
  sum_most : n.high ≤ most_sum
  sum_most = let g = (logarithms_grow n (x ∷ xs)).1 in let t = z.most in omega (arith, rw z.logarithms_are at g)

  asked : JoinAsked (as_sums j n) x.near x.image diffusion
  asked =
      let b = first_beside z.beside in
      let c = z.close in
      let m = sum_most in
      record {
        near_least = b.some;
        image_least = b.far;
        image_most = b.small;
        diffusion_some = z.diffusion_some;
        diffusion_small = z.diffusion_small;
        heat_most = pair_up_to j (record { low = omega (arith, c.low_under); high = omega (arith, c.high_under) });
        logarithm_most = pair_up_to n (record { low = omega (arith, c.logarithm_order); high = m });
      }

  pub join_asked : {sums : Sums} → sums ≡ as_sums j n → JoinAsked sums x.near x.image diffusion
  join_asked e = rw e asked

  pub joined_sums_are : {sums r : Sums} → sums ≡ as_sums j n → r ≡ with_source diffusion sums x → r ≡ as_sums (add_p j (source_integral diffusion x)) (add_p n (source_logarithm x))
  joined_sums_are e q = rw (q, e) refl

  pub summing_goes_on : Summing diffusion (add_p j (source_integral diffusion x)) (add_p n (source_logarithm x)) xs heats logarithms
  unfolding with_integrals with_logarithms
  summing_goes_on =
      record {
        diffusion_some = z.diffusion_some;
        diffusion_small = z.diffusion_small;
        heats_are = z.heats_are;
        logarithms_are = z.logarithms_are;
        close = all_close j n z.diffusion_some z.diffusion_small (more (first_beside z.beside) none) z.close;
        beside = others_beside z.beside;
        most = z.most;
      }

pub summing_ends : {diffusion : ℕ} {j n heats logarithms : Pair} → Summing diffusion j n [] heats logarithms → (j ≡ heats) × (n ≡ logarithms)
unfolding with_integrals with_logarithms
summing_ends z = (z.heats_are, z.logarithms_are)

-- ---- the group
pub attained_is : (d l s k w fast slow t : ℕ) (xs : List Source) →
    as_bounds (share_of (surface_factor (exactly k) (beta (group_integral d l s t xs) (group_logarithm d l xs))) (attainment w fast slow t)) ≡ as_bounds (attained_share d l s k w fast slow t xs)
unfolding attained_share
attained_is d l s k w fast slow t xs = refl

module _ {d l s k w t : ℕ} (a : Ranges d l s k w t) where
  pub cable_asked : CableAsked d l (8 * t * s)
  cable_asked = let z = cable_stretch a in omega arith

  module _ {xs : List Source} (b : AllBeside xs) (few : length xs ≤ 48) where
    pub summing_starts : Summing (8 * t * s) (cable_integral d l s t) (cable_logarithm d l) xs (group_integral d l s t xs) (group_logarithm d l xs)
    unfolding with_integrals with_logarithms
    summing_starts =
        let z = cable_stretch a in
        record {
          diffusion_some = z.diffusion_some;
          diffusion_small = z.diffusion_small;
          heats_are = refl;
          logarithms_are = refl;
          close = group_close a none;
          beside = b;
          most = group_logarithm_most a b few;
        }

    pub group_room : QuotientRoom (as_bounds (group_integral d l s t xs)) (as_bounds (group_logarithm d l xs)) beta_one
    group_room =
        let m = group_logarithm_most a b few in
        let z = group_logarithm_above_zero a xs in
        let c = group_close a b in
        quotient_room (group_integral d l s t xs) (group_logarithm d l xs) z (omega (arith, c.logarithm_order)) (omega (arith, c.low_under)) (omega (arith, c.high_under))

    pub share_asked : {fast slow : ℕ} {sums : Sums} → sums ≡ as_sums (group_integral d l s t xs) (group_logarithm d l xs) → fast ≤ most_rate → slow ≤ most_rate →
        ShareAsked sums k w fast slow t
    share_asked e f g = rw e (record { room = group_room; k_most = a.k_most; attainment = omega arith })
