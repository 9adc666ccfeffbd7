-- What the methods of `Bounds` ask and what they promise: which pair it is, and that it encloses.
use Rattle.std.specs.Prelude.{◌≡◌, ℕ, ◌+◌, ◌*◌, ◌^◌, ◌≤◌, ◌<◌, T, ℤ, pos, neg_ℤ, nat_abs, ◌+ℤ◌, ◌*ℤ◌, ◌≤ℤ◌, ◌<ℤ◌}
use Rattle.std.proofs.Math.IntN.{suc_ℤ, pred_ℤ}
use Rattle.std.specs.Int.Signed.{non_neg}
use Rattle.numbers.specs.Rounding.{floor_z, ceil_z}
use Rattle.bounds.specs.Pair.{as_pair}
use Rattle.bounds.specs.Operations.{point_b, add_b, neg_b, mul_b, scaled_b, quotient_b, times_b, divided_b, at_most_b}
use Rattle.bounds.specs.declared.Bounds.{Bounds}

-- The fraction x / m lies in the pair. There are no fractions in it: both sides are multiplied by m.
pub record In (b : Bounds) (x : ℤ) (m : ℕ) : Type 0 where
  pub from : (b.low *ℤ pos m) ≤ℤ x
  pub to : x ≤ℤ (b.high *ℤ pos m)

-- ---- what is asked

-- Neither end is larger in size than k.
pub record Sized (k : ℕ) (b : Bounds) : Type 0 where
  pub low : nat_abs b.low ≤ k
  pub high : nat_abs b.high ≤ k

-- The largest number of 64 bits, 2^63 - 1.
abbrev pub largest : ℕ
largest = 9223372036854775807

pub record NotBelow (b : Bounds) : Type 0 where
  pub low : T (non_neg b.low)
  pub high : T (non_neg b.high)

-- Both products stay below 2^63, and so does one more than the high one.
pub record ScaledRoom (a b : Bounds) (s : ℕ) : Type 0 where
  pub scale : 0 < s
  pub left : NotBelow a
  pub right : NotBelow b
  pub low : (as_pair a).low * (as_pair b).low < 2 ^ 63
  pub high : (as_pair a).high * (as_pair b).high + 1 < 2 ^ 63

pub record QuotientRoom (a b : Bounds) (s : ℕ) : Type 0 where
  pub left : NotBelow a
  pub right : NotBelow b
  pub from : 0 < (as_pair b).low
  pub to : 0 < (as_pair b).high
  pub low : (as_pair a).low * s < 2 ^ 63
  pub high : (as_pair a).high * s + 1 < 2 ^ 63

pub record TimesRoom (a : Bounds) (n : ℕ) : Type 0 where
  pub factor : n ≤ largest
  pub products : Sized largest (times_b a n)

pub record DividedRoom (a : Bounds) (d : ℕ) : Type 0 where
  pub divisor : 0 < d
  pub high : nat_abs a.high ≤ largest

-- ---- what is promised

pub record Point (z : ℤ) (r : Bounds) : Type 0 where
  pub is : r ≡ point_b z
  pub encloses : In r z 1

pub record Sum (a b r : Bounds) : Type 0 where
  pub is : r ≡ add_b a b
  pub encloses : (x y : ℤ) (m : ℕ) → In a x m → In b y m → In r (x +ℤ y) m

pub record Negation (a r : Bounds) : Type 0 where
  pub is : r ≡ neg_b a
  pub encloses : (x : ℤ) (m : ℕ) → In a x m → In r (neg_ℤ x) m

pub record Product (a b r : Bounds) : Type 0 where
  pub is : r ≡ mul_b a b
  pub encloses : (x y : ℤ) (m n : ℕ) → In a x m → In b y n → In r (x *ℤ y) (m * n)

-- What lies in a pair that is not below 0 is a natural number over another.
pub record ScaledProduct (a b : Bounds) (s : ℕ) (r : Bounds) : Type 0 where
  pub is : r ≡ scaled_b a b s
  pub encloses : (x y m n : ℕ) → In a (pos x) m → In b (pos y) n → In r (pos (x * y)) (s * (m * n))

-- (x / m) · s / (y / n)
pub record Quotient (a b : Bounds) (s : ℕ) (r : Bounds) : Type 0 where
  pub is : r ≡ quotient_b a b s
  pub encloses : (x y m n : ℕ) → In a (pos x) m → In b (pos y) n → In r (pos (x * n * s)) (m * y)

pub record Multiple (a : Bounds) (n : ℕ) (r : Bounds) : Type 0 where
  pub is : r ≡ times_b a n
  pub encloses : (x : ℤ) (m : ℕ) → In a x m → In r (x *ℤ pos n) m

pub record Divided (a : Bounds) (d : ℕ) (r : Bounds) : Type 0 where
  pub is : r ≡ divided_b a d
  pub encloses : (x : ℤ) (m : ℕ) → In a x m → In r x (d * m)

-- Every number of the pair that is at most t stays in it.
pub record Cut (a : Bounds) (t : ℤ) (r : Bounds) : Type 0 where
  pub is : r ≡ at_most_b a t
  pub encloses : (x : ℤ) (m : ℕ) → In a x m → x ≤ℤ (t *ℤ pos m) → In r x m

-- The greatest whole number at most n / d.
pub record Floor (n : ℤ) (d : ℕ) (r : ℤ) : Type 0 where
  pub is : r ≡ floor_z n d
  pub at_most : (r *ℤ pos d) ≤ℤ n
  pub next_above : n <ℤ (suc_ℤ r *ℤ pos d)

-- The least whole number at least n / d.
pub record Ceiling (n : ℤ) (d : ℕ) (r : ℤ) : Type 0 where
  pub is : r ≡ ceil_z n d
  pub at_least : n ≤ℤ (r *ℤ pos d)
  pub next_below : (pred_ℤ r *ℤ pos d) <ℤ n
