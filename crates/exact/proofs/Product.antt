-- The product of two partial sums against the partial sum at a sum of exponents: the binomial theorem for x^k/k!.
use Prim.Native.Nat.{ℕ, zero, suc, ◌+◌}
use mathlib.Core.List.{[], ◌∷◌}
use native.Mathlib.Nat.{zero-lt-suc, zero-add, suc-add}
use native.Mathlib.Omega.{arith}
use Rattle.numbers.specs.Fraction.{Frac, ◌≼◌, ◌≈◌, ◌per◌, whole, 1F, ◌⊕◌, ◌⊗◌}
use Rattle.numbers.proofs.Fractions.{refl≼, trans≼, mul≼, refl≈, sym≈, trans≈, add≈, mul≈, per_times, whole_next}
use Rattle.numbers.proofs.FractionProver.{qv, qn, ◌+'◌, ◌*'◌, q_le, q_eq, le, eq, q_from, q_eqfrom}
use Rattle.exact.specs.Exponential.{term, exp_sum}

abbrev next : (ℕ → Frac) → ℕ → Frac
next a i = a (suc i)

-- the sum of a i · b j over i + j = k
abbrev conv : (ℕ → Frac) → (ℕ → Frac) → ℕ → Frac
conv a b zero = a 0 ⊗ b 0
conv a b (suc k) = a 0 ⊗ b (suc k) ⊕ conv (next a) b k

-- sums from 0 to n
abbrev upto : (ℕ → Frac) → ℕ → Frac
upto a zero = a 0
upto a (suc n) = upto a n ⊕ a (suc n)

upto_first : (a : ℕ → Frac) (n : ℕ) → upto a (suc n) ≈ a 0 ⊕ upto (next a) n
upto_first a zero = refl≈ _
upto_first a (suc n) = q_eqfrom (upto a (suc n) ∷ a 0 ∷ upto (next a) n ∷ a (suc (suc n)) ∷ []) (eq (qn 1) (qn 0) (qv 0) (qv 1 +' qv 2) ∷ []) (qv 0 +' qv 3) (qv 1 +' (qv 2 +' qv 3)) tt tt (upto_first a n)

abbrev triangle : (ℕ → Frac) → (ℕ → Frac) → ℕ → Frac
triangle a b n = upto (conv a b) n

triangle_first : (a b : ℕ → Frac) (n : ℕ) → triangle a b (suc n) ≈ a 0 ⊗ upto b (suc n) ⊕ triangle (next a) b n
triangle_first a b zero = q_eq (a 0 ∷ b 0 ∷ b 1 ∷ a 1 ∷ []) (qv 0 *' qv 1 +' (qv 0 *' qv 2 +' qv 3 *' qv 1)) (qv 0 *' (qv 1 +' qv 2) +' qv 3 *' qv 1) tt tt
triangle_first a b (suc n) = q_eqfrom (triangle a b (suc n) ∷ a 0 ∷ upto b (suc n) ∷ triangle (next a) b n ∷ b (suc (suc n)) ∷ conv (next a) b (suc n) ∷ [])
    (eq (qn 1) (qn 0) (qv 0) (qv 1 *' qv 2 +' qv 3) ∷ [])
    (qv 0 +' (qv 1 *' qv 4 +' qv 5)) (qv 1 *' (qv 2 +' qv 4) +' (qv 3 +' qv 5)) tt tt (triangle_first a b n)

triangle_above : (a b : ℕ → Frac) (n : ℕ) → triangle a b n ≼ upto a n ⊗ upto b n
triangle_above a b zero = refl≼ _
triangle_above a b (suc n) = q_from (triangle a b (suc n) ∷ a 0 ∷ upto b n ∷ triangle (next a) b n ∷ b (suc n) ∷ upto (next a) n ∷ upto a (suc n) ∷ [])
    (eq (qn 1) (qn 0) (qv 0) (qv 1 *' (qv 2 +' qv 4) +' qv 3) ∷ le (qn 1) (qv 3) (qv 5 *' qv 2) ∷ eq (qn 0) (qv 2 +' qv 4) (qv 6) (qv 1 +' qv 5) ∷ [])
    (qv 0) (qv 6 *' (qv 2 +' qv 4)) tt (triangle_first a b n) (triangle_above (next a) b n) (upto_first a n)

upto_on : (b : ℕ → Frac) (k m : ℕ) → upto b m ≼ upto b (k + m)
upto_on b zero m = rw zero-add (refl≼ (upto b m))
upto_on b (suc k) m = rw suc-add (trans≼ (upto_on b k m) (q_le (upto b (k + m) ∷ b (suc (k + m)) ∷ []) (qv 0) (qv 0 +' qv 1) tt))

triangle_first_le : (a b : ℕ → Frac) (m : ℕ) → a 0 ⊗ upto b m ≼ triangle a b m
triangle_first_le a b zero = refl≼ _
triangle_first_le a b (suc m) = q_from (triangle a b (suc m) ∷ a 0 ∷ upto b (suc m) ∷ triangle (next a) b m ∷ []) (eq (qn 0) (qn 1) (qv 0) (qv 1 *' qv 2 +' qv 3) ∷ []) (qv 1 *' qv 2) (qv 0) tt (triangle_first a b m)

triangle_below : (a b : ℕ → Frac) (n m : ℕ) → upto a n ⊗ upto b m ≼ triangle a b (n + m)
triangle_below a b zero m = rw zero-add (triangle_first_le a b m)
triangle_below a b (suc n) m = rw suc-add (q_from (upto a (suc n) ∷ a 0 ∷ upto (next a) n ∷ upto b m ∷ upto b (suc (n + m)) ∷ triangle (next a) b (n + m) ∷ triangle a b (suc (n + m)) ∷ [])
    (eq (qv 3) (qn 0) (qv 0) (qv 1 +' qv 2) ∷ le (qv 1) (qv 3) (qv 4) ∷ le (qn 1) (qv 2 *' qv 3) (qv 5) ∷ eq (qn 0) (qn 1) (qv 6) (qv 1 *' qv 4 +' qv 5) ∷ [])
    (qv 0 *' qv 3) (qv 6) tt (upto_first a n) (rw suc-add at (upto_on b (suc n) m)) (triangle_below (next a) b n m) (triangle_first a b (n + m)))

conv_cong : {a a' b b' : ℕ → Frac} → ((i : ℕ) → a i ≈ a' i) → ((i : ℕ) → b i ≈ b' i) → (k : ℕ) → conv a b k ≈ conv a' b' k
conv_cong h g zero = mul≈ (h 0) (g 0)
conv_cong {a} {a'} {b} {b'} h g (suc k) = add≈ (mul≈ (h 0) (g (suc k))) (conv_cong {a = next a} {a' = next a'} {b = b} {b' = b'} (λ i. h (suc i)) g k)

conv_add : (a c b : ℕ → Frac) (k : ℕ) → conv (λ i. a i ⊕ c i) b k ≈ conv a b k ⊕ conv c b k
conv_add a c b zero = q_eq (a 0 ∷ c 0 ∷ b 0 ∷ []) ((qv 0 +' qv 1) *' qv 2) (qv 0 *' qv 2 +' qv 1 *' qv 2) tt tt
conv_add a c b (suc k) = q_eqfrom (a 0 ∷ c 0 ∷ b (suc k) ∷ conv (λ i. a (suc i) ⊕ c (suc i)) b k ∷ conv (next a) b k ∷ conv (next c) b k ∷ [])
    (eq (qn 1) (qn 0) (qv 3) (qv 4 +' qv 5) ∷ [])
    ((qv 0 +' qv 1) *' qv 2 +' qv 3) (qv 0 *' qv 2 +' qv 4 +' (qv 1 *' qv 2 +' qv 5)) tt tt (conv_add (next a) (next c) b k)

conv_scale : (x y : Frac) (a b : ℕ → Frac) (k : ℕ) → conv (λ i. x ⊗ a i) (λ i. y ⊗ b i) k ≈ x ⊗ y ⊗ conv a b k
conv_scale x y a b zero = q_eq (x ∷ y ∷ a 0 ∷ b 0 ∷ []) (qv 0 *' qv 2 *' (qv 1 *' qv 3)) (qv 0 *' qv 1 *' (qv 2 *' qv 3)) tt tt
conv_scale x y a b (suc k) = q_eqfrom (x ∷ y ∷ a 0 ∷ b (suc k) ∷ conv (λ i. x ⊗ a (suc i)) (λ i. y ⊗ b i) k ∷ conv (next a) b k ∷ [])
    (eq (qn 1) (qn 0) (qv 4) (qv 0 *' qv 1 *' qv 5) ∷ [])
    (qv 0 *' qv 2 *' (qv 1 *' qv 3) +' qv 4) (qv 0 *' qv 1 *' (qv 2 *' qv 3 +' qv 5)) tt tt (conv_scale x y (next a) b k)

-- the formal derivative, and its product rule
abbrev D : (ℕ → Frac) → ℕ → Frac
D a i = whole (suc i) ⊗ a (suc i)

D-next : (a : ℕ → Frac) (i : ℕ) → D a (suc i) ≈ D (next a) i ⊕ a (suc (suc i))
D-next a i = omega arith

conv_d_next : (a b : ℕ → Frac) (k : ℕ) → conv (next (D a)) b k ≈ conv (D (next a)) b k ⊕ conv (next (next a)) b k
conv_d_next a b k = trans≈ (conv_cong {a = next (D a)} {a' = λ i. D (next a) i ⊕ a (suc (suc i))} {b = b} {b' = b} (D-next a) (λ i. refl≈ (b i)) k) (conv_add (D (next a)) (next (next a)) b k)

leibniz : (a b : ℕ → Frac) (k : ℕ) → whole (suc k) ⊗ conv a b (suc k) ≈ conv (D a) b k ⊕ conv a (D b) k
leibniz a b zero = q_eq (a 0 ∷ a 1 ∷ b 0 ∷ b 1 ∷ []) (qn 1 *' (qv 0 *' qv 3 +' qv 1 *' qv 2)) (qn 1 *' qv 1 *' qv 2 +' qv 0 *' (qn 1 *' qv 3)) tt tt
leibniz a b (suc k) = q_eqfrom
    (whole (suc (suc k)) ∷ whole (suc k) ∷ a 0 ∷ b (suc (suc k)) ∷ a 1 ∷ b (suc k) ∷ conv (next (next a)) b k ∷ conv (next (D a)) b k ∷ conv (D (next a)) b k ∷ conv (next a) (D b) k ∷ [])
    (eq (qv 4 *' qv 5 +' qv 6) (qn 0) (qv 0) (qv 1 +' qn 1)
    ∷ eq (qn 1) (qn 0) (qv 1 *' (qv 4 *' qv 5 +' qv 6)) (qv 8 +' qv 9)
    ∷ eq (qn 0) (qn 1) (qv 7) (qv 8 +' qv 6) ∷ [])
    (qv 0 *' (qv 2 *' qv 3 +' (qv 4 *' qv 5 +' qv 6))) (qn 1 *' qv 4 *' qv 5 +' qv 7 +' (qv 2 *' (qv 0 *' qv 3) +' qv 9)) tt tt
    (whole_next (suc k)) (leibniz (next a) b k) (conv_d_next a b k)

term_d : (x : Frac) (i : ℕ) → D (term x) i ≈ x ⊗ term x i
term_d x i = q_eqfrom (whole (suc i) ∷ term x i ∷ x ∷ (1 per (suc i)) ∷ []) (eq (qv 1 *' qv 2) (qn 0) (qv 3 *' qv 0) (qn 1) ∷ []) (qv 0 *' (qv 1 *' qv 2 *' qv 3)) (qv 2 *' qv 1) tt tt (per_times 1 (suc i) (zero-lt-suc i))

by_one : (a : Frac) → a ≈ 1F ⊗ a
by_one a = q_eq (a ∷ []) (qv 0) (qn 1 *' qv 0) tt tt

left_d : (x y : Frac) (k : ℕ) → conv (D (term x)) (term y) k ≈ x ⊗ 1F ⊗ conv (term x) (term y) k
left_d x y k = trans≈ (conv_cong {a = D (term x)} {a' = λ i. x ⊗ term x i} {b = term y} {b' = λ i. 1F ⊗ term y i} (term_d x) (λ i. by_one (term y i)) k) (conv_scale x 1F (term x) (term y) k)

right_d : (x y : Frac) (k : ℕ) → conv (term x) (D (term y)) k ≈ 1F ⊗ y ⊗ conv (term x) (term y) k
right_d x y k = trans≈ (conv_cong {a = term x} {a' = λ i. 1F ⊗ term x i} {b = D (term y)} {b' = λ i. y ⊗ term y i} (λ i. by_one (term x i)) (term_d y) k) (conv_scale 1F y (term x) (term y) k)

-- the binomial theorem: (x + y)^k/k! is the sum of x^i/i! · y^j/j! over i + j = k
pub binomial : (x y : Frac) (k : ℕ) → conv (term x) (term y) k ≈ term (x ⊕ y) k
binomial x y zero = q_eq [] (qn 1 *' qn 1) (qn 1) tt tt
binomial x y (suc k) = q_eqfrom
    (whole (suc k) ∷ (1 per (suc k)) ∷ conv (term x) (term y) (suc k) ∷ conv (term x) (term y) k ∷ term (x ⊕ y) k ∷ x ∷ y ∷ conv (D (term x)) (term y) k ∷ conv (term x) (D (term y)) k ∷ [])
    (eq (qn 0) (qv 2) (qv 1 *' qv 0) (qn 1)
    ∷ eq (qv 1) (qn 0) (qv 0 *' qv 2) (qv 7 +' qv 8)
    ∷ eq (qv 1) (qn 0) (qv 7) (qv 5 *' qn 1 *' qv 3)
    ∷ eq (qv 1) (qn 0) (qv 8) (qn 1 *' qv 6 *' qv 3)
    ∷ eq (qv 1 *' (qv 5 +' qv 6)) (qn 0) (qv 3) (qv 4) ∷ [])
    (qv 2) (qv 4 *' (qv 5 +' qv 6) *' qv 1) tt tt
    (per_times 1 (suc k) (zero-lt-suc k)) (leibniz (term x) (term y) k) (left_d x y k) (right_d x y k) (binomial x y k)

exp_sum_upto : (x : Frac) (n : ℕ) → exp_sum x n ≈ upto (term x) n
exp_sum_upto x zero = refl≈ 1F
exp_sum_upto x (suc n) = add≈ (exp_sum_upto x n) (refl≈ (term x (suc n)))

exp_sum_triangle : (x y : Frac) (n : ℕ) → exp_sum (x ⊕ y) n ≈ triangle (term x) (term y) n
exp_sum_triangle x y zero = sym≈ (binomial x y 0)
exp_sum_triangle x y (suc n) = add≈ (exp_sum_triangle x y n) (sym≈ (binomial x y (suc n)))

-- E_n(x + y) ≤ E_n(x)·E_n(y), and E_n(x)·E_m(y) ≤ E_(n+m)(x + y)
pub sum_product_above : (x y : Frac) (n : ℕ) → exp_sum (x ⊕ y) n ≼ exp_sum x n ⊗ exp_sum y n
sum_product_above x y n = trans≼ (exp_sum_triangle x y n).to (trans≼ (triangle_above (term x) (term y) n) (mul≼ (exp_sum_upto x n).from (exp_sum_upto y n).from))

pub sum_product_below : (x y : Frac) (n m : ℕ) → exp_sum x n ⊗ exp_sum y m ≼ exp_sum (x ⊕ y) (n + m)
sum_product_below x y n m = trans≼ (mul≼ (exp_sum_upto x n).to (exp_sum_upto y m).to) (trans≼ (triangle_below (term x) (term y) n m) (exp_sum_triangle x y (n + m)).from)
