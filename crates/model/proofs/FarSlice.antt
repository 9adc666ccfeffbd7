-- The far slice, and where the slices between knots begin.
use mathlib.Core.Path.{◌≡◌, refl}
use mathlib.Core.Bool.{Bool, true, false}
use Prim.Native.Nat.{ℕ, ◌+◌, ◌*◌, ◌≤◌, ◌<◌, max}
use lib.Dec.{ltb}
use borrow.Author.Tests.{lt-ltb, le-ltb, ltb-true, ltb-false}
use native.Mathlib.Nat.{mul-le-mul_left}
use native.Mathlib.Omega.{arith}
use Rattle.bounds.specs.Pair.{Pair, scaled_p, at_most_p}
use Rattle.model.specs.Scale.{one, far_from}
use Rattle.model.specs.Exponential.{exp_pair}
use Rattle.model.specs.Integral.{within, slice_start, far_pair}
use Rattle.model.specs.Width.{Under}
use Rattle.model.proofs.Exponential.{exp_from_16_at_most_122}
use Rattle.model.proofs.Slice.{Spread}

pub slice_start_far : (near far diffusion : ℕ) → far_from * diffusion < far → slice_start near far diffusion ≡ max near (far_from * diffusion)
unfolding slice_start
slice_start_far near far diffusion h = rw (lt-ltb (far_from * diffusion) far h, slice_start) refl

pub slice_start_near : (near far diffusion : ℕ) → far ≤ far_from * diffusion → slice_start near far diffusion ≡ far
unfolding slice_start
slice_start_near near far diffusion h = rw (le-ltb (far_from * diffusion) far h, slice_start) refl

pub far_pair_far : (near far diffusion top : ℕ) → far_from * diffusion < far →
    far_pair near far diffusion top ≡ at_most_p (scaled_p (record { low = 0; high = top }) (exp_pair (max near (far_from * diffusion)) diffusion) one) top
unfolding far_pair
far_pair_far near far diffusion top h = rw (lt-ltb (far_from * diffusion) far h, far_pair) refl

pub far_pair_near : (near far diffusion top : ℕ) → far ≤ far_from * diffusion → ◌≡◌ {A = Pair} (far_pair near far diffusion top) (record { low = 0; high = 0 })
unfolding far_pair
far_pair_near near far diffusion top h = rw (le-ltb (far_from * diffusion) far h, far_pair) refl

pub far_pair_under_top : (near far diffusion top : ℕ) → Under top (far_pair near far diffusion top)
unfolding far_pair at_most_p
far_pair_under_top near far diffusion top = go (ltb (far_from * diffusion) far)
  where
    go : (b : Bool) →
        Under top (elim b [ true ↦ at_most_p (scaled_p (record { low = 0; high = top }) (exp_pair (max near (far_from * diffusion)) diffusion) one) top | false ↦ record { low = 0; high = 0 } ])
    go true = omega arith
    go false = omega arith

pub record StartInside (near far start : ℕ) : Type 0 where
  pub from : near ≤ start
  pub to : start ≤ far

pub slice_start_inside : (near far diffusion : ℕ) → near ≤ far → StartInside near far (slice_start near far diffusion)
unfolding slice_start
slice_start_inside near far diffusion h = go (ltb (far_from * diffusion) far) refl
  where
    go : (b : Bool) → ltb (far_from * diffusion) far ≡ b → StartInside near far (elim b [ true ↦ max near (far_from * diffusion) | false ↦ far ])
    go true e = let w = ltb-true (far_from * diffusion) far e in omega arith
    go false e = omega arith

-- the slices between knots have nothing beyond 16, or nothing at all
slice_start_most : (near far diffusion : ℕ) → near ≤ far → slice_start near far diffusion ≤ max near (far_from * diffusion)
unfolding slice_start
slice_start_most near far diffusion h = go (ltb (far_from * diffusion) far) refl
  where
    go : (b : Bool) → ltb (far_from * diffusion) far ≡ b → ◌≤◌ (elim b [ true ↦ max near (far_from * diffusion) | false ↦ far ]) (max near (far_from * diffusion))
    go true e = omega arith
    go false e = let w = ltb-false (far_from * diffusion) far e in omega arith

pub start_place : (near far diffusion : ℕ) → near ≤ far → within near (slice_start near far diffusion) (far_from * diffusion) ≡ slice_start near far diffusion
start_place near far diffusion h = go (slice_start_inside near far diffusion h).from (slice_start_most near far diffusion h)
  where
    go : {start : ℕ} → near ≤ start → start ≤ max near (far_from * diffusion) → within near start (far_from * diffusion) ≡ start
    go k l = omega arith

-- ---- its width
far_spread : (top : ℕ) (e : Pair) → e.high ≤ 122 → Spread (122 * top + one) (at_most_p (scaled_p (record { low = 0; high = top }) e one) top)
unfolding at_most_p scaled_p
far_spread top e h = let m = mul-le-mul_left top h in record { order = omega arith; width = omega arith }

pub far_pair_spread : (near far diffusion top : ℕ) → 0 < diffusion → Spread (122 * top + one) (far_pair near far diffusion top)
unfolding far_pair
far_pair_spread near far diffusion top z = go (ltb (far_from * diffusion) far)
  where
    edge : ℕ
    edge = max near (far_from * diffusion)

    go : (b : Bool) → Spread (122 * top + one) (elim b [ true ↦ at_most_p (scaled_p (record { low = 0; high = top }) (exp_pair edge diffusion) one) top | false ↦ record { low = 0; high = 0 } ])
    go true = far_spread top (exp_pair edge diffusion) (exp_from_16_at_most_122 edge diffusion z (omega arith))
    go false = record { order = omega arith; width = omega arith }
