-- How far the ends of a pair lie apart, through sums, products with an integer and quotients by a whole number; and what is at most or at least a
-- value, through sums with an integer and products with a whole number.
use mathlib.Core.Path.{ap}
use Prim.Native.Nat.{ℕ, suc, ◌+◌, ◌-◌, ◌*◌, ◌≤◌, ◌<◌}
use native.Mathlib.Nat.{add-mul, suc-mul, mul-le-mul_left}
use native.Mathlib.Omega.{arith}
use lib.Dec.{T, leb, le→leb}
use lib.IntN.{ℤ, pos, negsuc, neg_ℤ, nat_abs, suc_ℤ, pred_ℤ, ◌+ℤ◌, ◌-ℤ◌, ◌*ℤ◌, suc-pred}
use lib.Signed.{◌≤ℤ◌}
use Rattle.numbers.specs.Fraction.{◌≼◌, ◌∸◌, whole}
use Rattle.numbers.specs.Signed.{of_int}
use Rattle.numbers.specs.Integer.{up, dn}
use Rattle.numbers.specs.Rounding.{floor_z, ceil_z}
use Rattle.numbers.proofs.Integers.{le_lin, lin_le, lt_lin, add_lin, mul_lin, suc_lin, neg_up, neg_dn, lesser_both, greater_both}
use Rattle.numbers.proofs.Rounding.{floor_high, floor_greatest, ceil_low}
use Rattle.numbers.proofs.SignedFractions.{In, refl≼ₛ, trans≼ₛ, add≼ₛ, times_up, below_most, above_least}
use Rattle.numbers.proofs.SignedIntegers.{of_int≼, of_int_add, of_int_mul}
use Rattle.bounds.specs.Operations.{point_b, add_b, mul_b, divided_b}
use Rattle.bounds.specs.declared.Bounds.{Bounds}
use Rattle.exact.specs.Value.{Value, AtMost, AtLeast, ◌⊴◌, number, integer, ◌+ᵥ◌, ◌·ᵥ◌, ◌/ᵥ◌}
use Rattle.exact.proofs.Plain.{and_0, both}

-- ---- pairs

-- high is at most `width` above low
pub record Spread (width : ℕ) (b : Bounds) : Type 0 where
  pub narrow : b.high ≤ℤ (b.low +ℤ pos width)

pub spread_point : (z : ℤ) → Spread 0 (point_b z)
spread_point z = record { narrow = lin_le z (z +ℤ pos 0) (omega (arith, add_lin z (pos 0))) }

pub spread_more : {k l : ℕ} {b : Bounds} → k ≤ l → Spread k b → Spread l b
spread_more {k} {l} {b} h s =
    record { narrow = lin_le b.high (b.low +ℤ pos l) (omega (arith, le_lin s.narrow, add_lin b.low (pos k), add_lin b.low (pos l))) }

pub spread_add : {k l : ℕ} {a b : Bounds} → Spread k a → Spread l b → Spread (k + l) (add_b a b)
unfolding add_b
spread_add {k} {l} {a} {b} s t =
    record {
      narrow =
          lin_le (a.high +ℤ b.high) ((a.low +ℤ b.low) +ℤ pos (k + l))
          (omega (
            arith,
            le_lin s.narrow,
            le_lin t.narrow,
            add_lin a.low (pos k),
            add_lin b.low (pos l),
            add_lin a.high b.high,
            add_lin a.low b.low,
            add_lin (a.low +ℤ b.low) (pos (k + l)),
          ));
    }

near : (a b : ℤ) (k : ℕ) → a ≤ℤ (b +ℤ pos k) → up a + dn b ≤ up b + dn a + k
near a b k p = omega (arith, le_lin p, add_lin b (pos k))

-- two numbers within k of each other: their products with z are within k times the size of z
corner : (z a b : ℤ) (k : ℕ) → a ≤ℤ (b +ℤ pos k) → b ≤ℤ (a +ℤ pos k) → (z *ℤ a) ≤ℤ ((z *ℤ b) +ℤ pos (nat_abs z * k))
corner (pos n) a b k p q =
    lin_le (pos n *ℤ a) ((pos n *ℤ b) +ℤ pos (n * k))
    (omega (
      arith,
      mul_lin (pos n) a,
      mul_lin (pos n) b,
      add_lin (pos n *ℤ b) (pos (n * k)),
      mul-le-mul_left n (near a b k p),
    ))
corner (negsuc n) a b k p q =
    lin_le (negsuc n *ℤ a) ((negsuc n *ℤ b) +ℤ pos (suc n * k))
    (omega (
      arith,
      mul_lin (negsuc n) a,
      mul_lin (negsuc n) b,
      add_lin (negsuc n *ℤ b) (pos (suc n * k)),
      mul-le-mul_left (suc n) (near b a k q),
    ))

module _ (z : ℤ) {k : ℕ} {b : Bounds} (ordered : b.low ≤ℤ b.high) (s : Spread k b) where
  low_near : b.low ≤ℤ (b.high +ℤ pos k)
  low_near = lin_le b.low (b.high +ℤ pos k) (omega (arith, le_lin ordered, add_lin b.high (pos k)))

  same_near : (a : ℤ) → a ≤ℤ (a +ℤ pos k)
  same_near a = lin_le a (a +ℤ pos k) (omega (arith, add_lin a (pos k)))

  -- over each of the products, what is asked of the greatest and the least
  abbrev Near : ℤ → ℤ → Type 0
  Near y m = y ≤ℤ (m +ℤ pos (nat_abs z * k))

  over_least : (y : ℤ) → Near y (z *ℤ b.low) → Near y (z *ℤ b.high) → Near y (mul_b (point_b z) b).low
  unfolding mul_b
  over_least y p q = lesser_both (Near y) (lesser_both (Near y) p q) (lesser_both (Near y) p q)

  pub spread_times : Spread (nat_abs z * k) (mul_b (point_b z) b)
  unfolding mul_b
  spread_times =
      let low : Near (z *ℤ b.low) (mul_b (point_b z) b).low = over_least (z *ℤ b.low) (corner z b.low b.low k (same_near b.low) (same_near b.low)) (corner z b.low b.high k low_near s.narrow) in
      let high : Near (z *ℤ b.high) (mul_b (point_b z) b).low = over_least (z *ℤ b.high) (corner z b.high b.low k s.narrow low_near) (corner z b.high b.high k (same_near b.high) (same_near b.high)) in
      let P : ℤ → Type 0 = λ y. Near y (mul_b (point_b z) b).low in
      record { narrow = greater_both P (greater_both P low high) (greater_both P low high) }

-- ---- over a whole number

module _ {d : ℕ} (zd : 0 < d) where
  floor_near : (z : ℤ) → z ≤ℤ ((floor_z z d *ℤ pos d) +ℤ pos d)
  floor_near z =
      let f = floor_z z d in
      lin_le z ((f *ℤ pos d) +ℤ pos d)
      (omega (
        arith,
        lt_lin (floor_high zd z),
        mul_lin (suc_ℤ f) (pos d),
        mul_lin f (pos d),
        add_lin (f *ℤ pos d) (pos d),
        simp (add-mul, suc-mul) at (ap (λ (n : ℕ). n * d) (suc_lin f)),
      ))

  ceil_near : (z : ℤ) → (ceil_z z d *ℤ pos d) ≤ℤ (z +ℤ pos d)
  ceil_near z =
      let c = ceil_z z d in
      let p = pred_ℤ c in
      lin_le (c *ℤ pos d) (z +ℤ pos d)
      (omega (
        arith,
        lt_lin (ceil_low zd z),
        mul_lin c (pos d),
        mul_lin p (pos d),
        add_lin z (pos d),
        simp (add-mul, suc-mul) at (ap (λ (n : ℕ). n * d) (rw (suc-pred c) at (suc_lin p))),
      ))

  module _ {k : ℕ} {b : Bounds} (s : Spread k b) where
    -- rounding down and up adds less than the divisor each
    pub spread_divided : (pos d *ℤ ((divided_b b d).high -ℤ (divided_b b d).low)) ≤ℤ pos (2 * d + k)
    unfolding divided_b
    spread_divided =
        let c = ceil_z b.high d in
        let f = floor_z b.low d in
        lin_le (pos d *ℤ (c -ℤ f)) (pos (2 * d + k))
        (omega (
          arith,
          le_lin (ceil_near b.high),
          le_lin (floor_near b.low),
          le_lin s.narrow,
          add_lin b.high (pos d),
          add_lin (f *ℤ pos d) (pos d),
          add_lin b.low (pos k),
          mul_lin c (pos d),
          mul_lin f (pos d),
          mul_lin (pos d) (c -ℤ f),
          ap (λ (n : ℕ). d * n) (rw (neg_up f, neg_dn f) at (add_lin c (neg_ℤ f))),
        ))

  -- a spread of w divisors becomes one of w + 1
  pub spread_quotient : (w : ℕ) {b : Bounds} → Spread (w * d) b → Spread (w + 1) (divided_b b d)
  unfolding divided_b
  spread_quotient w {b} s =
      let c = ceil_z b.high d in
      let p = pred_ℤ c in
      let q = p -ℤ pos w in
      let reaches : (q *ℤ pos d) ≤ℤ b.low =
      lin_le (q *ℤ pos d) b.low
      (omega (
        arith,
        lt_lin (ceil_low zd b.high),
        le_lin s.narrow,
        add_lin b.low (pos (w * d)),
        mul_lin p (pos d),
        mul_lin q (pos d),
        ap (λ (n : ℕ). n * d) (rw (neg_up (pos w), neg_dn (pos w)) at (add_lin p (neg_ℤ (pos w)))),
      ))
      in
      record {
        narrow =
            lin_le c (floor_z b.low d +ℤ pos (w + 1))
            (omega (
              arith,
              le_lin (floor_greatest zd q reaches),
              add_lin (floor_z b.low d) (pos (w + 1)),
              rw (neg_up (pos w), neg_dn (pos w)) at (add_lin p (neg_ℤ (pos w))),
              rw (suc-pred c) at (suc_lin p),
            ));
      }

-- ---- at most and at least

pub most_below : {a b : ℤ} {x : Value} → b ≤ℤ a → AtMost (of_int a) x → AtMost (of_int b) x
most_below k h = record { most = λ n t. trans≼ₛ (of_int≼ k) (h.most n t) }

pub least_above : {a b : ℤ} {x : Value} → a ≤ℤ b → AtLeast (of_int a) x → AtLeast (of_int b) x
least_above k h = record { least = λ n t. trans≼ₛ (h.least n t) (of_int≼ k) }

pub most_add : (a z : ℤ) {x : Value} → AtMost (of_int a) x → AtMost (of_int (a +ℤ z)) (x +ᵥ integer z)
most_add a z {x} h = record { most = λ n t. trans≼ₛ (of_int_add a z).to (add≼ₛ (h.most n (and_0 (x.ok n) ((integer z).ok n) t)) (refl≼ₛ (of_int z))) }

pub least_add : (a z : ℤ) {x : Value} → AtLeast (of_int a) x → AtLeast (of_int (a +ℤ z)) (x +ᵥ integer z)
least_add a z {x} h = record { least = λ n t. trans≼ₛ (add≼ₛ (h.least n (and_0 (x.ok n) ((integer z).ok n) t)) (refl≼ₛ (of_int z))) (of_int_add a z).from }

module _ (n : ℕ) where
  not_below : (of_int (pos n)).minus ≼ (of_int (pos n)).plus
  not_below = record { cross = omega arith }

  only : In (of_int (pos n)) (of_int (pos n)) (of_int (pos n))
  only = record { from = refl≼ₛ (of_int (pos n)); to = refl≼ₛ (of_int (pos n)) }

  pub most_times : (a : ℤ) {x : Value} → x ⊴ x → AtMost (of_int a) x → AtMost (of_int (pos n *ℤ a)) (integer (pos n) ·ᵥ x)
  most_times a {x} sound h = record {
    most = λ k t.
        trans≼ₛ (of_int_mul (pos n) a).to
        (trans≼ₛ (times_up (of_int (pos n)) (of_int a) (x.high k) not_below (h.most k t))
        (below_most (of_int (pos n)) (of_int (pos n)) (x.low k) (x.high k) (of_int (pos n)) (x.high k) only (record { from = sound.apart k k t t; to = refl≼ₛ (x.high k) })));
  }

  pub least_times : (a : ℤ) {x : Value} → x ⊴ x → AtLeast (of_int a) x → AtLeast (of_int (pos n *ℤ a)) (integer (pos n) ·ᵥ x)
  least_times a {x} sound h = record {
    least = λ k t.
        trans≼ₛ (above_least (of_int (pos n)) (of_int (pos n)) (x.low k) (x.high k) (of_int (pos n)) (x.low k) only (record { from = refl≼ₛ (x.low k); to = sound.apart k k t t }))
        (trans≼ₛ (times_up (of_int (pos n)) (x.low k) (of_int a) not_below (h.least k t)) (of_int_mul (pos n) a).from);
  }

  -- no lower fraction of x exceeding an upper one of y, none of n·x exceeds one of n·y
  pub times⊴ : {x y : Value} → x ⊴ x → y ⊴ y → x ⊴ y → (integer (pos n) ·ᵥ x) ⊴ (integer (pos n) ·ᵥ y)
  times⊴ {x} {y} p q h = record {
    apart = λ k m s t.
        trans≼ₛ (above_least (of_int (pos n)) (of_int (pos n)) (x.low k) (x.high k) (of_int (pos n)) (x.low k) only (record { from = refl≼ₛ (x.low k); to = p.apart k k s s }))
        (trans≼ₛ (times_up (of_int (pos n)) (x.low k) (y.high m) not_below (h.apart k m s t))
        (below_most (of_int (pos n)) (of_int (pos n)) (y.low m) (y.high m) (of_int (pos n)) (y.high m) only (record { from = q.apart m m t t; to = refl≼ₛ (y.high m) })));
  }

-- ---- no order is lost where a value is divided by a whole number above 0
pub quotient_bounds : (d : ℕ) → 0 < d → (x : Value) (n : ℕ) → T (x.ok n) → T ((x /ᵥ number (whole d)).ok n)
unfolding ◌∸◌
quotient_bounds d zd x n t = both (x.ok n) (leb 1 (d * 1 - 0 * 1)) t (le→leb 1 (d * 1 - 0 * 1) (omega arith))
