-- Signed machine integers of 64 bits. A local holds bits, and an operation sees the integer that those bits stand for: `seen z` is what is
-- seen of the bits of z. Each law has the shape of a need that an operation leaves: its result fits, or what is seen of its result.
use mathlib.Core.Path.{◌≡◌, refl, ap, ◌∙◌}
use mathlib.Core.Bool.{true, false}
use Prim.Native.Nat.{ℕ, suc, ◌-◌, ◌^◌, ◌<◌}
use native.Mathlib.Omega.{arith}
use borrow.Author.Tests.{ltb-true}
use lib.Dec.{T}
use lib.IntN.{ℤ, pos, negsuc, neg_ℤ, nat_abs, ◌+ℤ◌, ◌-ℤ◌, ◌*ℤ◌, +ℤ_idl}
use lib.Signed.{lt_z, mag, non_neg}
use mir.Syntax.{w64}
use mir.Val.{SFits, Fits, to_z, of_z}
use mir.Facts.{to_z-of_z, to_z-neg, to_z_pos}
use Rattle.numbers.specs.Integer.{up, lesser, greater}
use Rattle.numbers.proofs.Integers.{lin_eq, add_lin, neg_up, neg_dn, size_neg}

abbrev pub seen : ℤ → ℤ
seen z = to_z w64 (of_z w64 z)

-- the result of a call comes with the bare bound
pub result_seen : (z : ℤ) → mag z < 2 ^ 63 → seen z ≡ z
result_seen z h = to_z-of_z {w = w64} {z = z} (record { sfits = h })

-- what is known of an argument as it is seen is known of it
pub seen_up : (z : ℤ) {n : ℕ} → SFits w64 z → n ≡ up (seen z) → n ≡ up z
seen_up z f e = rw (to_z-of_z f) at e

pub fits : (z : ℤ) → nat_abs z < 2 ^ 63 → SFits w64 z
fits (pos n) h = record { sfits = omega arith }
fits (negsuc n) h = record { sfits = omega arith }

-- ---- sum, product and negation

module _ (x y : ℤ) (fx : SFits w64 x) (fy : SFits w64 y) where
  pub add_fits : nat_abs (x +ℤ y) < 2 ^ 63 → SFits w64 (seen x +ℤ seen y)
  add_fits h = rw (to_z-of_z fx, to_z-of_z fy) (fits (x +ℤ y) h)

  pub add_seen : nat_abs (x +ℤ y) < 2 ^ 63 → seen (seen x +ℤ seen y) ≡ x +ℤ y
  add_seen h = rw (to_z-of_z fx, to_z-of_z fy) (to_z-of_z (fits (x +ℤ y) h))

  pub mul_fits : nat_abs (x *ℤ y) < 2 ^ 63 → SFits w64 (seen x *ℤ seen y)
  mul_fits h = rw (to_z-of_z fx, to_z-of_z fy) (fits (x *ℤ y) h)

  pub mul_seen : nat_abs (x *ℤ y) < 2 ^ 63 → seen (seen x *ℤ seen y) ≡ x *ℤ y
  mul_seen h = rw (to_z-of_z fx, to_z-of_z fy) (to_z-of_z (fits (x *ℤ y) h))

-- `-x` is 0 - x
module _ (x : ℤ) (h : nat_abs x < 2 ^ 63) where
  pub neg_fits : SFits w64 (pos 0 -ℤ seen x)
  neg_fits = rw (to_z-of_z (fits x h), +ℤ_idl (neg_ℤ x)) (fits (neg_ℤ x) (omega (arith, size_neg x)))

  pub neg_seen : seen (pos 0 -ℤ seen x) ≡ neg_ℤ x
  neg_seen = rw (to_z-of_z (fits x h), +ℤ_idl (neg_ℤ x)) (to_z-of_z (fits (neg_ℤ x) (omega (arith, size_neg x))))

-- ---- between a signed number and a natural one: a number below 0 is -1 - m, and `-1 - x` takes the one to the other

abbrev pub flipped : ℤ → ℤ
flipped (pos m) = negsuc m
flipped (negsuc m) = pos m

flipped_is : (z : ℤ) → negsuc 0 -ℤ z ≡ flipped z
flipped_is (pos m) =
    lin_eq (negsuc 0 -ℤ pos m) (negsuc m) (omega (arith, add_lin (negsuc 0) (neg_ℤ (pos m)), neg_up (pos m), neg_dn (pos m)))
flipped_is (negsuc m) = lin_eq (negsuc 0 -ℤ negsuc m) (pos m) (omega (arith, add_lin (negsuc 0) (neg_ℤ (negsuc m))))

flipped_fits : (z : ℤ) → SFits w64 z → SFits w64 (flipped z)
flipped_fits (pos m) f = record { sfits = f.sfits }
flipped_fits (negsuc m) f = record { sfits = f.sfits }

module _ {z : ℤ} (f : SFits w64 z) where
  pub flip_fits : SFits w64 (negsuc 0 -ℤ seen z)
  flip_fits = rw (to_z-of_z f, flipped_is z) (flipped_fits z f)

  pub flip_seen : seen (negsuc 0 -ℤ seen z) ≡ flipped z
  flip_seen = rw (to_z-of_z f, flipped_is z) (to_z-of_z (flipped_fits z f))

-- `!x` is -1 - x, whose bits are those that x does not have
pub flip_bits : (z : ℤ) → SFits w64 z → to_z w64 (18446744073709551615 - of_z w64 z) ≡ flipped z
flip_bits (pos n) f =
    let e : 18446744073709551615 - n ≡ 18446744073709551616 - suc n = omega arith in
    ap (λ (k : ℕ). to_z w64 k) e ∙ to_z-neg w64 n f.sfits
flip_bits (negsuc n) f =
    let e : 18446744073709551615 - (18446744073709551616 - suc n) ≡ n = omega (arith, f.sfits) in
    ap (λ (k : ℕ). to_z w64 k) e ∙ to_z_pos w64 f.sfits

-- a cast to an unsigned number asks that the number is not below 0 and that its size fits
pub natural_casts : (z : ℤ) → SFits w64 z → T (non_neg z) → T (non_neg z) × Fits w64 (nat_abs z)
natural_casts (pos n) f t = (tt, record { fits = omega (arith, f.sfits) })
natural_casts (negsuc n) f t = absurd t

pub natural_size : (z : ℤ) → T (non_neg z) → nat_abs z ≡ up z
natural_size (pos n) t = refl
natural_size (negsuc n) t = absurd t

pub flipped_casts : (z : ℤ) → SFits w64 z → lt_z z (pos 0) ≡ true → T (non_neg (flipped z)) × Fits w64 (nat_abs (flipped z))
flipped_casts (pos n) f e = absurd (omega (arith, ltb-true n 0 e))
flipped_casts (negsuc n) f e = (tt, record { fits = omega (arith, f.sfits) })

pub flipped_size : (z : ℤ) → lt_z z (pos 0) ≡ true → nat_abs (flipped z) ≡ mag z
flipped_size (pos n) e = absurd (omega (arith, ltb-true n 0 e))
flipped_size (negsuc n) e = refl

pub not_below : (z : ℤ) → lt_z z (pos 0) ≡ false → T (non_neg z)
not_below (pos n) e = tt
not_below (negsuc n) e = let z : ◌≡◌ {A = ℕ} 0 1 = cc in absurd (omega arith)
