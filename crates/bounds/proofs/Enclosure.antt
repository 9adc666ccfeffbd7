-- Each operation encloses, and so each function that returns what the definition says keeps its promise.
use mathlib.Core.Path.{◌≡◌, refl, ap}
use Prim.Native.Nat.{ℕ, ◌+◌, ◌*◌, ◌/◌, ◌≤◌, ◌<◌}
use native.Mathlib.Omega.{arith}
use native.Mathlib.Nat.{div-mul-le_self, lt-div-mul-add, mul-le-mul, mul-le-mul_left, mul-le-mul_right}
use lib.Dec.{T}
use lib.IntN.{ℤ, pos, negsuc, neg_ℤ, ◌+ℤ◌, ◌*ℤ◌, *ℤ_comm}
use lib.Signed.{◌≤ℤ◌, non_neg}
use Rattle.numbers.specs.Integer.{up, dn}
use Rattle.numbers.specs.Rounding.{floor_z, ceil_z}
use Rattle.numbers.proofs.Integers.{le_lin, lin_le, add_lin, neg_up, neg_dn, mul_lin, ≤ℤ_trans, lesser_left, lesser_right, greater_left, greater_right, lesser_both, product_over, product_under, *ℤ_mono_pos, *ℤ_assoc}
use Rattle.numbers.proofs.Rounding.{floor_low, floor_high, ceil_low, ceil_high}
use Rattle.bounds.specs.Pair.{Pair, as_bounds, as_pair, scaled_p, quotient_p}
use Rattle.bounds.specs.Operations.{point_b, add_b, neg_b, mul_b, scaled_b, quotient_b, times_b, divided_b, at_most_b}
use Rattle.bounds.specs.Promises.{In, NotBelow, ScaledRoom, QuotientRoom, Point, Sum, Negation, Product, ScaledProduct, Quotient, Multiple, Divided, Cut, Floor, Ceiling}
use Rattle.bounds.specs.declared.Bounds.{Bounds}

pub same_ends : {l l' h h' : ℤ} → l ≡ l' → h ≡ h' → ◌≡◌ {A = Bounds} (record { low = l; high = h }) (record { low = l'; high = h' })
same_ends p q = cc

-- ---- a fraction in a pair, in natural numbers

in_low : {b : Bounds} {x : ℤ} {m : ℕ} → In b x m → up b.low * m + dn x ≤ up x + dn b.low * m
in_low {b} {x} {m} i = omega (arith, le_lin i.from, mul_lin b.low (pos m))

in_high : {b : Bounds} {x : ℤ} {m : ℕ} → In b x m → up x + dn b.high * m ≤ up b.high * m + dn x
in_high {b} {x} {m} i = omega (arith, le_lin i.to, mul_lin b.high (pos m))

inside : (b : Bounds) (x : ℤ) (m : ℕ) → up b.low * m + dn x ≤ up x + dn b.low * m → up x + dn b.high * m ≤ up b.high * m + dn x → In b x m
inside b x m h k =
    record {
      from = lin_le (b.low *ℤ pos m) x (omega (arith, mul_lin b.low (pos m)));
      to = lin_le x (b.high *ℤ pos m) (omega (arith, mul_lin b.high (pos m)));
    }

-- a natural fraction in a pair of natural numbers
pub in_pair : (p : Pair) (x m : ℕ) → p.low * m ≤ x → x ≤ p.high * m → In (as_bounds p) (pos x) m
in_pair p x m h k = inside (as_bounds p) (pos x) m (omega arith) (omega arith)

pub pair_low : (p : Pair) {x m : ℕ} → In (as_bounds p) (pos x) m → p.low * m ≤ x
pair_low p i = omega (arith, in_low i)

pub pair_high : (p : Pair) {x m : ℕ} → In (as_bounds p) (pos x) m → x ≤ p.high * m
pair_high p i = omega (arith, in_high i)

pub over_one : (b : Bounds) (x : ℤ) → b.low ≤ℤ x → x ≤ℤ b.high → In b x 1
over_one b x l h = inside b x 1 (omega (arith, le_lin l)) (omega (arith, le_lin h))

-- ---- point, sum, negation

pub point : {z : ℤ} {r : Bounds} → r ≡ point_b z → Point z r
point {z} {r} e = record { is = e; encloses = rw e (inside (point_b z) z 1 (omega arith) (omega arith)) }

pub add_in : {a b : Bounds} {x y : ℤ} {m : ℕ} → In a x m → In b y m → In (add_b a b) (x +ℤ y) m
unfolding add_b
add_in {a} {b} {x} {y} {m} i j =
    let at : (z w : ℤ) → (up (z +ℤ w) + (dn z + dn w)) * m ≡ (dn (z +ℤ w) + (up z + up w)) * m =
    λ z w. ap (λ (n : ℕ). n * m) (add_lin z w)
    in
    inside (add_b a b) (x +ℤ y) m (omega (arith, in_low i, in_low j, add_lin x y, at a.low b.low))
    (omega (arith, in_high i, in_high j, add_lin x y, at a.high b.high))

pub sum : {a b r : Bounds} → r ≡ add_b a b → Sum a b r
sum e = record { is = e; encloses = λ x y m i j. rw e (add_in i j) }

pub neg_in : {a : Bounds} {x : ℤ} {m : ℕ} → In a x m → In (neg_b a) (neg_ℤ x) m
unfolding neg_b
neg_in {a} {x} {m} i =
    let at : (z : ℤ) → (up (neg_ℤ z) * m ≡ dn z * m) × (dn (neg_ℤ z) * m ≡ up z * m) =
    λ z. (ap (λ (n : ℕ). n * m) (neg_up z), ap (λ (n : ℕ). n * m) (neg_dn z))
    in
    inside (neg_b a) (neg_ℤ x) m (omega (arith, in_high i, neg_up x, neg_dn x, at a.high))
    (omega (arith, in_low i, neg_up x, neg_dn x, at a.low))

pub negation : {a r : Bounds} → r ≡ neg_b a → Negation a r
negation e = record { is = e; encloses = λ x m i. rw e (neg_in i) }

-- ---- product

regroup : (a b : ℤ) (m n : ℕ) → (a *ℤ pos m) *ℤ (b *ℤ pos n) ≡ (a *ℤ b) *ℤ pos (m * n)
regroup a b m n =
    rw (*ℤ_assoc a (pos m) (b *ℤ pos n), ← *ℤ_assoc (pos m) b (pos n), *ℤ_comm (pos m) b, *ℤ_assoc b (pos m) (pos n), *ℤ_assoc a b (pos (m * n)))

at_scale : (k : ℕ) {a b : ℤ} → a ≤ℤ b → (a *ℤ pos k) ≤ℤ (b *ℤ pos k)
at_scale k {a} {b} h = rw (*ℤ_comm a (pos k), *ℤ_comm b (pos k)) (*ℤ_mono_pos k h)

-- the order of two products holds of the ends at the scales m and n
module _ (m n : ℕ) (z p q : ℤ) where
  at_most_scaled : z ≤ℤ (p *ℤ q) → (z *ℤ pos (m * n)) ≤ℤ ((p *ℤ pos m) *ℤ (q *ℤ pos n))
  at_most_scaled h = rw (regroup p q m n) (at_scale (m * n) h)

  at_least_scaled : (p *ℤ q) ≤ℤ z → ((p *ℤ pos m) *ℤ (q *ℤ pos n)) ≤ℤ (z *ℤ pos (m * n))
  at_least_scaled h = rw (regroup p q m n) (at_scale (m * n) h)

pub mul_in : {a b : Bounds} {x y : ℤ} {m n : ℕ} → In a x m → In b y n → In (mul_b a b) (x *ℤ y) (m * n)
unfolding mul_b
mul_in {a} {b} {x} {y} {m} {n} i j =
    let low = at_most_scaled m n (mul_b a b).low in
    let high = at_least_scaled m n (mul_b a b).high in
    record {
      from =
          product_over ((mul_b a b).low *ℤ pos (m * n)) i.from i.to j.from j.to
          (low a.low b.low (≤ℤ_trans (lesser_left _ _) (lesser_left _ _)))
          (low a.low b.high (≤ℤ_trans (lesser_left _ _) (lesser_right _ _)))
          (low a.high b.low (≤ℤ_trans (lesser_right _ _) (lesser_left _ _)))
          (low a.high b.high (≤ℤ_trans (lesser_right _ _) (lesser_right _ _)));
      to =
          product_under ((mul_b a b).high *ℤ pos (m * n)) i.from i.to j.from j.to
          (high a.low b.low (≤ℤ_trans (greater_left _ _) (greater_left _ _)))
          (high a.low b.high (≤ℤ_trans (greater_right _ _) (greater_left _ _)))
          (high a.high b.low (≤ℤ_trans (greater_left _ _) (greater_right _ _)))
          (high a.high b.high (≤ℤ_trans (greater_right _ _) (greater_right _ _)));
    }

pub product : {a b r : Bounds} → r ≡ mul_b a b → Product a b r
product e = record { is = e; encloses = λ x y m n i j. rw e (mul_in i j) }

-- ---- products and quotients at a scale, of pairs not below 0

-- a pair not below 0 is that of its natural numbers
pub natural_ends : {b : Bounds} → NotBelow b → as_bounds (as_pair b) ≡ b
natural_ends {b} h = same_ends (natural_end b.low h.low) (natural_end b.high h.high)
  where
    natural_end : (z : ℤ) → T (non_neg z) → pos (up z) ≡ z
    natural_end (pos n) t = refl
    natural_end (negsuc n) t = absurd t

-- (l·l' / s)·s·m·n ≤ x·y where l·m ≤ x and l'·n ≤ y, and the mirror
scaled_pair_in : (p q : Pair) {s : ℕ} → 0 < s → (x y m n : ℕ) → In (as_bounds p) (pos x) m → In (as_bounds q) (pos y) n → In (as_bounds (scaled_p p q s)) (pos (x * y)) (s * (m * n))
unfolding scaled_p
scaled_pair_in p q {s} h x y m n i j =
    in_pair (scaled_p p q s) (x * y) (s * (m * n))
    (omega (arith, mul-le-mul (pair_low p i) (pair_low q j), mul-le-mul_right (m * n) (div-mul-le_self (p.low * q.low) s)))
    (omega (arith, mul-le-mul (pair_high p i) (pair_high q j), mul-le-mul_right (m * n) (lt-div-mul-add {a = p.high * q.high} h)))

pub scaled_in : {a b : Bounds} {s : ℕ} → ScaledRoom a b s → (x y m n : ℕ) → In a (pos x) m → In b (pos y) n → In (scaled_b a b s) (pos (x * y)) (s * (m * n))
unfolding scaled_b
scaled_in {a} {b} {s} g x y m n i j =
    scaled_pair_in (as_pair a) (as_pair b) g.scale x y m n (rw (natural_ends g.left) i) (rw (natural_ends g.right) j)

pub scaled_product : {a b r : Bounds} {s : ℕ} → ScaledRoom a b s → r ≡ scaled_b a b s → ScaledProduct a b s r
scaled_product g e = record { is = e; encloses = λ x y m n i j. rw e (scaled_in g x y m n i j) }

-- (l·s / h')·m·y ≤ x·n·s where l·m ≤ x and y ≤ h'·n, and the mirror
quotient_pair_in : (p q : Pair) (s : ℕ) → 0 < q.low → (x y m n : ℕ) → In (as_bounds p) (pos x) m → In (as_bounds q) (pos y) n → In (as_bounds (quotient_p p q s)) (pos (x * n * s)) (m * y)
unfolding quotient_p
quotient_pair_in p q s h x y m n i j =
    let l = p.low * s / q.high in
    let u = p.high * s / q.low + 1 in
    in_pair (quotient_p p q s) (x * n * s) (m * y)
    (omega (
      arith,
      mul-le-mul_left (l * m) (pair_high q j),
      mul-le-mul_right (m * n) (div-mul-le_self (p.low * s) q.high),
      mul-le-mul_right (n * s) (pair_low p i),
    ))
    (omega (
      arith,
      mul-le-mul_left (u * m) (pair_low q j),
      mul-le-mul_right (m * n) (lt-div-mul-add {a = p.high * s} h),
      mul-le-mul_right (n * s) (pair_high p i),
    ))

pub quotient_in : {a b : Bounds} {s : ℕ} → QuotientRoom a b s → (x y m n : ℕ) → In a (pos x) m → In b (pos y) n → In (quotient_b a b s) (pos (x * n * s)) (m * y)
unfolding quotient_b
quotient_in {a} {b} {s} g x y m n i j =
    quotient_pair_in (as_pair a) (as_pair b) s g.from x y m n (rw (natural_ends g.left) i) (rw (natural_ends g.right) j)

pub quotient : {a b r : Bounds} {s : ℕ} → QuotientRoom a b s → r ≡ quotient_b a b s → Quotient a b s r
quotient g e = record { is = e; encloses = λ x y m n i j. rw e (quotient_in g x y m n i j) }

-- ---- multiples, parts and cuts

pub times_in : {a : Bounds} {x : ℤ} {m : ℕ} (n : ℕ) → In a x m → In (times_b a n) (x *ℤ pos n) m
unfolding times_b
times_in {a} {x} {m} n i =
    let at : (z : ℤ) → (up (z *ℤ pos n) + (up z * 0 + dn z * n)) * m ≡ (dn (z *ℤ pos n) + (up z * n + dn z * 0)) * m =
    λ z. ap (λ (k : ℕ). k * m) (mul_lin z (pos n))
    in
    inside (times_b a n) (x *ℤ pos n) m (omega (arith, mul-le-mul_right n (in_low i), mul_lin x (pos n), at a.low))
    (omega (arith, mul-le-mul_right n (in_high i), mul_lin x (pos n), at a.high))

pub multiple : {a r : Bounds} {n : ℕ} → r ≡ times_b a n → Multiple a n r
multiple {n} e = record { is = e; encloses = λ x m i. rw e (times_in n i) }

pub divided_in : {a : Bounds} {x : ℤ} {m d : ℕ} → 0 < d → In a x m → In (divided_b a d) x (d * m)
unfolding divided_b
divided_in {a} {x} {m} {d} h i =
    let low = floor_z a.low d in
    let high = ceil_z a.high d in
    let below : up low * d + dn a.low ≤ up a.low + dn low * d = omega (arith, le_lin (floor_low h a.low), mul_lin low (pos d)) in
    let above : up a.high + dn high * d ≤ up high * d + dn a.high = omega (arith, le_lin (ceil_high h a.high), mul_lin high (pos d)) in
    inside (divided_b a d) x (d * m) (omega (arith, mul-le-mul_right m below, in_low i)) (omega (arith, mul-le-mul_right m above, in_high i))

pub divided : {a r : Bounds} {d : ℕ} → 0 < d → r ≡ divided_b a d → Divided a d r
divided h e = record { is = e; encloses = λ x m i. rw e (divided_in h i) }

pub at_most_in : {a : Bounds} {x : ℤ} {m : ℕ} (t : ℤ) → In a x m → x ≤ℤ (t *ℤ pos m) → In (at_most_b a t) x m
unfolding at_most_b
at_most_in {a} {x} {m} t i k =
    record {
      from = ≤ℤ_trans (at_scale m (lesser_left a.low t)) i.from;
      to = lesser_both (λ (z : ℤ). x ≤ℤ (z *ℤ pos m)) i.to k;
    }

pub cut : {a r : Bounds} {t : ℤ} → r ≡ at_most_b a t → Cut a t r
cut {t} e = record { is = e; encloses = λ x m i k. rw e (at_most_in t i k) }

-- ---- rounded division

pub floor : {n r : ℤ} {d : ℕ} → 0 < d → r ≡ floor_z n d → Floor n d r
floor {n} h e = record { is = e; at_most = rw e (floor_low h n); next_above = rw e (floor_high h n) }

pub ceiling : {n r : ℤ} {d : ℕ} → 0 < d → r ≡ ceil_z n d → Ceiling n d r
ceiling {n} h e = record { is = e; at_least = rw e (ceil_high h n); next_below = rw e (ceil_low h n) }
