-- A prover for polynomials over the natural numbers by computation: order, coefficient by coefficient.
use Prim.Native.Nat.{ℕ, zero, suc, ◌+◌, ◌*◌, ◌^◌, ◌≤◌, compare, Ordering, zero-le}
use mathlib.Core.Path.{◌≡◌, refl, sym, ◌∙◌, ap, ap₂, subst₂}
use mathlib.Core.List.{List, [], ◌∷◌}
use native.Mathlib.Nat.{le_trans, add-le-add, mul-le-mul_right, add_assoc, add_left_comm, mul-one, one-mul, mul-zero, zero-mul, add-zero, zero-add, mul-add, add-mul, mul-mul-mul_comm, pow-zero, pow-succ'}
use lib.Pow.{pow-add}
use mathlib.Core.Bool.{Bool, true, false}
use lib.Dec.{T, compare_is_eq, leb, leb→le, eqb→eq}
use native.Mathlib.Omega.{arith}

-- ---- expressions
pub data Ex : Type 0 where
  var : ℕ → Ex
  num : ℕ → Ex
  ◌:+◌ : Ex → Ex → Ex
  ◌:*◌ : Ex → Ex → Ex

infixl 6 ◌:+◌
infixl 7 ◌:*◌
abbrev pub at : List ℕ → ℕ → ℕ
at [] i = 1
at (x ∷ ρ) zero = x
at (x ∷ ρ) (suc i) = at ρ i

abbrev pub eval : List ℕ → Ex → ℕ
eval ρ (var i) = at ρ i
eval ρ (num k) = k
eval ρ (a :+ b) = eval ρ a + eval ρ b
eval ρ (a :* b) = eval ρ a * eval ρ b

-- ---- a monomial: the list of its exponents
abbrev pub hd : List ℕ → ℕ
hd [] = 1
hd (x ∷ ρ) = x

abbrev pub tl : List ℕ → List ℕ
tl [] = []
tl (x ∷ ρ) = ρ

abbrev pub mon : List ℕ → List ℕ → ℕ
mon ρ [] = 1
mon ρ (e ∷ m) = hd ρ ^ e * mon (tl ρ) m

abbrev pub prod : List ℕ → List ℕ → List ℕ
prod [] n = n
prod (a ∷ m) [] = a ∷ m
prod (a ∷ m) (b ∷ n) = (a + b) ∷ prod m n

abbrev pub lead : ℕ → List ℕ
lead zero = 1 ∷ []
lead (suc i) = 0 ∷ lead i

abbrev pub after : Ordering → Ordering → Ordering
after Ordering.lt o = Ordering.lt
after Ordering.eq o = o
after Ordering.gt o = Ordering.gt

abbrev pub cmp : List ℕ → List ℕ → Ordering
cmp [] [] = Ordering.eq
cmp [] (b ∷ n) = Ordering.lt
cmp (a ∷ m) [] = Ordering.gt
cmp (a ∷ m) (b ∷ n) = after (compare a b) (cmp m n)

-- ---- a polynomial: its terms, the monomials rising
pub data Poly : Type 0 where
  none : Poly
  term : ℕ → List ℕ → Poly → Poly

abbrev pub total : List ℕ → Poly → ℕ
total ρ none = 0
total ρ (term c m s) = c * mon ρ m + total ρ s

abbrev pub put : ℕ → List ℕ → Poly → Poly
put c m none = term c m none
put c m (term d n s) = elim (cmp m n) [ Ordering.lt ↦ term c m (term d n s) | Ordering.eq ↦ term (c + d) n s | Ordering.gt ↦ term d n (put c m s) ]

abbrev pub plus : Poly → Poly → Poly
plus none t = t
plus (term c m s) t = put c m (plus s t)

-- c times the monomial m times s, put into t
abbrev pub scaled : ℕ → List ℕ → Poly → Poly → Poly
scaled c m none t = t
scaled c m (term d n s) t = put (c * d) (prod m n) (scaled c m s t)

abbrev pub times : Poly → Poly → Poly
times none t = none
times (term c m s) t = scaled c m t (times s t)

abbrev pub norm : Ex → Poly
norm (var i) = term 1 (lead i) none
norm (num k) = term k [] none
norm (a :+ b) = plus (norm a) (norm b)
norm (a :* b) = times (norm a) (norm b)

-- ---- it is sound
pow_one : (x : ℕ) → x ^ 1 ≡ x
pow_one x = pow-succ' x 0 ∙ ap (λ t. x * t) (pow-zero x) ∙ mul-one x

mon_lead : (ρ : List ℕ) (i : ℕ) → mon ρ (lead i) ≡ at ρ i
mon_lead [] zero = refl
mon_lead (x ∷ ρ) zero = mul-one (x ^ 1) ∙ pow_one x
mon_lead [] (suc i) = one-mul (mon [] (lead i)) ∙ mon_lead [] i
mon_lead (x ∷ ρ) (suc i) = ap (λ t. t * mon ρ (lead i)) (pow-zero x) ∙ one-mul (mon ρ (lead i)) ∙ mon_lead ρ i

mon_prod : (ρ m n : List ℕ) → mon ρ (prod m n) ≡ mon ρ m * mon ρ n
mon_prod ρ [] n = sym (one-mul (mon ρ n))
mon_prod ρ (a ∷ m) [] = sym (mul-one (hd ρ ^ a * mon (tl ρ) m))
mon_prod ρ (a ∷ m) (b ∷ n) = ap₂ ◌*◌ (pow-add (hd ρ) a b) (mon_prod (tl ρ) m n) ∙ mul-mul-mul_comm (hd ρ ^ a) (hd ρ ^ b) (mon (tl ρ) m) (mon (tl ρ) n)

-- equal by `cmp` is equal
both_eq : (o p : Ordering) → T (compare_is_eq (after o p)) → T (compare_is_eq o) × T (compare_is_eq p)
both_eq Ordering.lt p h = absurd h
both_eq Ordering.eq p h = (tt, h)
both_eq Ordering.gt p h = absurd h

cmp_eq : (m n ρ : List ℕ) → T (compare_is_eq (cmp m n)) → mon ρ m ≡ mon ρ n
cmp_eq [] [] ρ h = refl
cmp_eq [] (b ∷ n) ρ h = absurd h
cmp_eq (a ∷ m) [] ρ h = absurd h
cmp_eq (a ∷ m) (b ∷ n) ρ h =
    let e = both_eq (compare a b) (cmp m n) h in
    ap₂ ◌*◌ (ap (λ x. hd ρ ^ x) (eqb→eq a b e.0)) (cmp_eq m n (tl ρ) e.1)

put_by : (o : Ordering) (c : ℕ) (m : List ℕ) (d : ℕ) (n : List ℕ) (s s' : Poly) (ρ : List ℕ) → (T (compare_is_eq o) → mon ρ m ≡ mon ρ n) → total ρ s' ≡ c * mon ρ m + total ρ s → total ρ (elim o [ Ordering.lt ↦ term c m (term d n s) | Ordering.eq ↦ term (c + d) n s | Ordering.gt ↦ term d n s' ]) ≡ c * mon ρ m + (d * mon ρ n + total ρ s)
put_by Ordering.lt c m d n s s' ρ e ih = refl
put_by Ordering.eq c m d n s s' ρ e ih = ap (λ x. x + total ρ s) (add-mul c d (mon ρ n)) ∙ add_assoc (c * mon ρ n) (d * mon ρ n) (total ρ s) ∙ ap (λ x. c * x + (d * mon ρ n + total ρ s)) (sym (e tt))
put_by Ordering.gt c m d n s s' ρ e ih = ap (λ x. d * mon ρ n + x) ih ∙ add_left_comm (d * mon ρ n) (c * mon ρ m) (total ρ s)

total_put : (c : ℕ) (m : List ℕ) (s : Poly) (ρ : List ℕ) → total ρ (put c m s) ≡ c * mon ρ m + total ρ s
total_put c m none ρ = refl
total_put c m (term d n s) ρ = put_by (cmp m n) c m d n s (put c m s) ρ (cmp_eq m n ρ) (total_put c m s ρ)

total_plus : (s t : Poly) (ρ : List ℕ) → total ρ (plus s t) ≡ total ρ s + total ρ t
total_plus none t ρ = sym (zero-add (total ρ t))
total_plus (term c m s) t ρ = total_put c m (plus s t) ρ ∙ ap (λ x. c * mon ρ m + x) (total_plus s t ρ) ∙ sym (add_assoc (c * mon ρ m) (total ρ s) (total ρ t))

total_scaled : (c : ℕ) (m : List ℕ) (s t : Poly) (ρ : List ℕ) → total ρ (scaled c m s t) ≡ c * mon ρ m * total ρ s + total ρ t
total_scaled c m none t ρ = sym (ap (λ x. x + total ρ t) (mul-zero (c * mon ρ m)) ∙ zero-add (total ρ t))
total_scaled c m (term d n s) t ρ =
    total_put (c * d) (prod m n) (scaled c m s t) ρ
    ∙ ap₂ ◌+◌ (ap (λ x. c * d * x) (mon_prod ρ m n) ∙ mul-mul-mul_comm c d (mon ρ m) (mon ρ n)) (total_scaled c m s t ρ)
    ∙ sym (add_assoc (c * mon ρ m * (d * mon ρ n)) (c * mon ρ m * total ρ s) (total ρ t))
    ∙ ap (λ x. x + total ρ t) (sym (mul-add (c * mon ρ m) (d * mon ρ n) (total ρ s)))

total_times : (s t : Poly) (ρ : List ℕ) → total ρ (times s t) ≡ total ρ s * total ρ t
total_times none t ρ = sym (zero-mul (total ρ t))
total_times (term c m s) t ρ = total_scaled c m t (times s t) ρ ∙ ap (λ x. c * mon ρ m * total ρ t + x) (total_times s t ρ) ∙ sym (add-mul (c * mon ρ m) (total ρ s) (total ρ t))

pub norm_sound : (ρ : List ℕ) (e : Ex) → total ρ (norm e) ≡ eval ρ e
norm_sound ρ (var i) = add-zero (1 * mon ρ (lead i)) ∙ one-mul (mon ρ (lead i)) ∙ mon_lead ρ i
norm_sound ρ (num k) = add-zero (k * 1) ∙ mul-one k
norm_sound ρ (a :+ b) = total_plus (norm a) (norm b) ρ ∙ ap₂ ◌+◌ (norm_sound ρ a) (norm_sound ρ b)
norm_sound ρ (a :* b) = total_times (norm a) (norm b) ρ ∙ ap₂ ◌*◌ (norm_sound ρ a) (norm_sound ρ b)

-- ---- one polynomial is below another, coefficient by coefficient: on closed expressions this computes to `true`
abbrev pub seek : ℕ → List ℕ → (Poly → Bool) → Poly → Bool
seek c m k none = elim c [ zero ↦ k none | suc c' ↦ false ]
seek c m k (term d n t) = elim (cmp m n) [ Ordering.lt ↦ elim c [ zero ↦ k (term d n t) | suc c' ↦ false ] | Ordering.eq ↦ elim (leb c d) [ true ↦ k t | false ↦ false ] | Ordering.gt ↦ seek c m k t ]

abbrev pub below : Poly → Poly → Bool
below none = λ t. true
below (term c m s) = seek c m (below s)

if_zero : (c x y z : ℕ) (b : Bool) → (T b → y ≤ z) → T (elim c [ zero ↦ b | suc c' ↦ false ]) → c * x + y ≤ z
if_zero zero x y z b k h = omega (arith, k h)
if_zero (suc c) x y z b k h = absurd h

if_le : (o : Bool) (c d x y z : ℕ) (b : Bool) → (T o → c ≤ d) → (T b → y ≤ z) → T (elim o [ true ↦ b | false ↦ false ]) → c * x + y ≤ d * x + z
if_le true c d x y z b e k h = add-le-add (mul-le-mul_right x (e tt)) (k h)
if_le false c d x y z b e k h = absurd h

seek_by : (o : Ordering) (c : ℕ) (m : List ℕ) (k : Poly → Bool) (d : ℕ) (n : List ℕ) (t : Poly) (b : Bool) (ρ : List ℕ) (y : ℕ) → (T (compare_is_eq o) → mon ρ m ≡ mon ρ n) → ((t : Poly) → T (k t) → y ≤ total ρ t) → (T b → c * mon ρ m + y ≤ total ρ t) → T (elim o [ Ordering.lt ↦ elim c [ zero ↦ k (term d n t) | suc c' ↦ false ] | Ordering.eq ↦ elim (leb c d) [ true ↦ k t | false ↦ false ] | Ordering.gt ↦ b ]) → c * mon ρ m + y ≤ d * mon ρ n + total ρ t
seek_by Ordering.lt c m k d n t b ρ y e kk ih h = if_zero c (mon ρ m) y (d * mon ρ n + total ρ t) (k (term d n t)) (kk (term d n t)) h
seek_by Ordering.eq c m k d n t b ρ y e kk ih h = rw (e tt) (if_le (leb c d) c d (mon ρ n) y (total ρ t) (k t) (leb→le c d) (kk t) h)
seek_by Ordering.gt c m k d n t b ρ y e kk ih h = le_trans (ih h) (omega arith)

seek_le : (c : ℕ) (m : List ℕ) (k : Poly → Bool) (ρ : List ℕ) (y : ℕ) → ((t : Poly) → T (k t) → y ≤ total ρ t) → (t : Poly) → T (seek c m k t) → c * mon ρ m + y ≤ total ρ t
seek_le c m k ρ y kk none h = if_zero c (mon ρ m) y 0 (k none) (kk none) h
seek_le c m k ρ y kk (term d n t) h = seek_by (cmp m n) c m k d n t (seek c m k t) ρ y (cmp_eq m n ρ) kk (seek_le c m k ρ y kk t) h

below_le : (ρ : List ℕ) (s t : Poly) → T (below s t) → total ρ s ≤ total ρ t
below_le ρ none t h = zero-le
below_le ρ (term c m s) t h = seek_le c m (below s) ρ (total ρ s) (below_le ρ s) t h

-- ---- what a user calls. The test computes to `Unit` on closed expressions: its proof is `tt`
pub poly_le : (ρ : List ℕ) (p q : Ex) → T (below (norm p) (norm q)) → eval ρ p ≤ eval ρ q
poly_le ρ p q h = subst₂ (λ (x y : ℕ). x ≤ y) (norm_sound ρ p) (norm_sound ρ q) (below_le ρ (norm p) (norm q) h)
