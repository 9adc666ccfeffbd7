-- On pairs of natural numbers each operation of bounds is the natural one, so that a caller goes from bounds to natural floors by rewriting.
use mathlib.Core.Path.{◌≡◌, refl, ap}
use mathlib.Core.Bool.{Bool, true, false, cond}
use Prim.Native.Nat.{ℕ, ◌+◌, ◌-◌, ◌*◌, ◌^◌, ◌≤◌, ◌<◌, min}
use native.Mathlib.Omega.{arith}
use borrow.Author.Tests.{ltb-true, ltb-false}
use lib.Dec.{ltb}
use lib.IntN.{pos, neg_ℤ, ◌-ℤ◌}
use Rattle.numbers.specs.Integer.{lesser}
use Rattle.numbers.specs.Rounding.{floor_z}
use Rattle.numbers.proofs.Integers.{lin_eq, add_lin, neg_up, neg_dn}
use Rattle.numbers.proofs.Rounding.{ceil_natural}
use Rattle.bounds.specs.Pair.{Pair, as_bounds, add_p, less_p, scaled_p, quotient_p, times_p, divided_p, at_most_p}
use Rattle.bounds.specs.Operations.{point_b, add_b, neg_b, scaled_b, quotient_b, times_b, divided_b, at_most_b}
use Rattle.bounds.specs.Promises.{Sized, largest, NotBelow, ScaledRoom, QuotientRoom, TimesRoom, DividedRoom}
use Rattle.bounds.proofs.Enclosure.{same_ends}

-- ---- each operation

pub add_pair : (p q : Pair) → add_b (as_bounds p) (as_bounds q) ≡ as_bounds (add_p p q)
unfolding add_b add_p
add_pair p q = refl

pub scaled_pair : (p q : Pair) (s : ℕ) → scaled_b (as_bounds p) (as_bounds q) s ≡ as_bounds (scaled_p p q s)
unfolding scaled_b scaled_p
scaled_pair p q s = refl

pub quotient_pair : (p q : Pair) (s : ℕ) → quotient_b (as_bounds p) (as_bounds q) s ≡ as_bounds (quotient_p p q s)
unfolding quotient_b quotient_p
quotient_pair p q s = refl

pub times_pair : (p : Pair) (n : ℕ) → times_b (as_bounds p) n ≡ as_bounds (times_p p n)
unfolding times_b times_p
times_pair p n = refl

pub divided_pair : (p : Pair) {d : ℕ} → 0 < d → divided_b (as_bounds p) d ≡ as_bounds (divided_p p d)
unfolding divided_b divided_p floor_z
divided_pair p h = same_ends refl (ceil_natural p.high h)

lesser_natural : (a t : ℕ) → lesser (pos a) (pos t) ≡ pos (min a t)
unfolding lesser
lesser_natural a t = by (ltb a t) refl
  where
    by : (c : Bool) → ltb a t ≡ c → cond c (pos a) (pos t) ≡ pos (min a t)
    by true e = ap pos (omega (arith, ltb-true a t e))
    by false e = ap pos (omega (arith, ltb-false a t e))

pub at_most_pair : (p : Pair) (t : ℕ) → at_most_b (as_bounds p) (pos t) ≡ as_bounds (at_most_p p t)
unfolding at_most_b at_most_p
at_most_pair p t = same_ends (lesser_natural p.low t) (lesser_natural p.high t)

difference : (c n : ℕ) → n ≤ c → pos c -ℤ pos n ≡ pos (c - n)
difference c n h =
    lin_eq (pos c -ℤ pos n) (pos (c - n)) (omega (arith, add_lin (pos c) (neg_ℤ (pos n)), neg_up (pos n), neg_dn (pos n)))

-- c - x is the sum of c and -x
pub less_pair : (c : ℕ) (p : Pair) → p.low ≤ c → p.high ≤ c → add_b (point_b (pos c)) (neg_b (as_bounds p)) ≡ as_bounds (less_p c p)
unfolding add_b neg_b less_p
less_pair c p l h = same_ends (difference c p.high h) (difference c p.low l)

-- ---- pairs of natural numbers meet what a method asks

pub pair_sized : (p : Pair) {k : ℕ} → p.low ≤ k → p.high ≤ k → Sized k (as_bounds p)
pair_sized p l h = record { low = l; high = h }

pub add_room : (p q : Pair) → p.low + q.low ≤ largest → p.high + q.high ≤ largest → Sized largest (add_b (as_bounds p) (as_bounds q))
unfolding add_p
add_room p q l h = rw (add_pair p q) (pair_sized (add_p p q) l h)

pub less_room : (c : ℕ) (p : Pair) → c ≤ largest → p.low ≤ c → p.high ≤ c → Sized largest (add_b (point_b (pos c)) (neg_b (as_bounds p)))
unfolding less_p
less_room c p m l h = rw (less_pair c p l h) (pair_sized (less_p c p) (omega arith) (omega arith))

pair_not_below : (p : Pair) → NotBelow (as_bounds p)
pair_not_below p = record { low = tt; high = tt }

pub scaled_room : (p q : Pair) {s : ℕ} → 0 < s → p.low * q.low < 2 ^ 63 → p.high * q.high + 1 < 2 ^ 63 → ScaledRoom (as_bounds p) (as_bounds q) s
scaled_room p q s l h =
    record { scale = s; left = pair_not_below p; right = pair_not_below q; low = l; high = h }

pub quotient_room : (p q : Pair) {s : ℕ} → 0 < q.low → 0 < q.high → p.low * s < 2 ^ 63 → p.high * s + 1 < 2 ^ 63 → QuotientRoom (as_bounds p) (as_bounds q) s
quotient_room p q f t l h =
    record { left = pair_not_below p; right = pair_not_below q; from = f; to = t; low = l; high = h }

pub times_room : (p : Pair) (n : ℕ) → n ≤ largest → p.low * n ≤ largest → p.high * n ≤ largest → TimesRoom (as_bounds p) n
unfolding times_p
times_room p n f l h = record { factor = f; products = rw (times_pair p n) (pair_sized (times_p p n) l h) }

pub divided_room : (p : Pair) {d : ℕ} → 0 < d → p.high ≤ largest → DividedRoom (as_bounds p) d
divided_room p d h = record { divisor = d; high = h }
