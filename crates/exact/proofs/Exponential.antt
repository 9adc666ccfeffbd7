-- The laws of the partial sums of e^x and of the fractions of e^(−x).
use Prim.Native.Nat.{ℕ, zero, suc, ◌+◌, ◌*◌, ◌<◌}
use mathlib.Core.List.{[], ◌∷◌}
use mathlib.Core.Bool.{Bool, true, false}
use lib.Dec.{T}
use native.Mathlib.Nat.{mul-pos, zero-lt-suc, zero-add, suc-add, add_comm}
use native.Mathlib.Omega.{arith}
use Rattle.numbers.specs.Fraction.{Frac, ◌≼◌, ◌≈◌, ◌per◌, whole, 0F, 1F, ◌⊗◌, ◌÷◌, power, sum}
use Rattle.numbers.proofs.Fractions.{refl≼, trans≼, zero≼, add≼, mul≼, above, test_is, test_of, trans≈, add≈, per_times, whole≼, one_above, ÷-times, ÷≼, ≼÷, ÷≼of}
use Rattle.numbers.proofs.FractionProver.{qv, qn, ◌+'◌, ◌*'◌, q_le, q_eq, le, eq, q_from, q_eqfrom}
use Rattle.exact.specs.Exponential.{term, exp_sum, exp_sum_over, enough, exp_low, exp_high}

pub term≼ : {x y : Frac} (j : ℕ) → x ≼ y → term x j ≼ term y j
term≼ zero h = refl≼ 1F
term≼ (suc j) h = mul≼ (mul≼ (term≼ j h) h) (refl≼ (1 per (suc j)))

pub exp_sum≼ : {x y : Frac} (n : ℕ) → x ≼ y → exp_sum x n ≼ exp_sum y n
exp_sum≼ zero h = refl≼ 1F
exp_sum≼ (suc n) h = add≼ (exp_sum≼ n h) (term≼ (suc n) h)

pub halves : (y : Frac) (n : ℕ) → whole 2 ⊗ y ≼ whole (suc n) → whole 2 ⊗ term y (suc n) ≼ term y n
halves y n h = q_from (term y n ∷ y ∷ (1 per (suc n)) ∷ whole (suc n) ∷ []) (le (qv 0 *' qv 2) (qn 2 *' qv 1) (qv 3) ∷ eq (qv 0) (qn 0) (qv 2 *' qv 3) (qn 1) ∷ []) (qn 2 *' (qv 0 *' qv 1 *' qv 2)) (qv 0) tt h (per_times 1 (suc n) (zero-lt-suc n))

over_falls : (y : Frac) (n : ℕ) → whole 2 ⊗ y ≼ whole (suc (suc n)) → exp_sum_over y (suc n) ≼ exp_sum_over y n
over_falls y n h = q_from (exp_sum y n ∷ term y (suc n) ∷ term y (suc (suc n)) ∷ []) (le (qn 1) (qn 2 *' qv 2) (qv 1) ∷ []) (qv 0 +' qv 1 +' qn 2 *' qv 2) (qv 0 +' qn 2 *' qv 1) tt (halves y (suc n) h)

pub over_falls_on : (y : Frac) (k n : ℕ) → whole 2 ⊗ y ≼ whole n → exp_sum_over y (k + n) ≼ exp_sum_over y n
over_falls_on y zero n h = rw zero-add (refl≼ (exp_sum_over y n))
over_falls_on y (suc k) n h = rw suc-add (trans≼ (over_falls y (k + n) (trans≼ h (whole≼ (omega arith)))) (over_falls_on y k n h))

sum_rises_on : (y : Frac) (k n : ℕ) → exp_sum y n ≼ exp_sum y (k + n)
sum_rises_on y zero n = rw zero-add (refl≼ (exp_sum y n))
sum_rises_on y (suc k) n = rw suc-add (trans≼ (sum_rises_on y k n) (q_le (exp_sum y (k + n) ∷ term y (suc (k + n)) ∷ []) (qv 0) (qv 0 +' qv 1) tt))

pub sum_below_over : (y : Frac) (n : ℕ) → exp_sum y n ≼ exp_sum_over y n
sum_below_over y n = q_le (exp_sum y n ∷ term y (suc n) ∷ []) (qv 0) (qv 0 +' qn 2 *' qv 1) tt

-- E_m(x) ≤ E_n(y) + 2·y^(n+1)/(n+1)! for x ≤ y and n ≥ 2y, whatever m is
pub sum_over : {x y : Frac} (m n : ℕ) → x ≼ y → whole 2 ⊗ y ≼ whole n → exp_sum x m ≼ exp_sum_over y n
sum_over {x} {y} m n h k = trans≼ (exp_sum≼ m h) (trans≼ (rw (add_comm n m) at (sum_rises_on y n m)) (trans≼ (sum_below_over y (m + n)) (over_falls_on y m n k)))

pub one_exp_sum : (x : Frac) (n : ℕ) → 1F ≼ exp_sum x n
one_exp_sum x zero = refl≼ 1F
one_exp_sum x (suc n) = trans≼ (one_exp_sum x n) (q_le (exp_sum x n ∷ term x (suc n) ∷ []) (qv 0) (qv 0 +' qv 1) tt)

pub exp_sum_above : (x : Frac) (n : ℕ) → 0 < (exp_sum x n).num
exp_sum_above x n = above one_above (one_exp_sum x n)

pub exp_sum_over_above : (x : Frac) (n : ℕ) → 0 < (exp_sum_over x n).num
exp_sum_over_above x n = above (exp_sum_above x n) (sum_below_over x n)

-- each of the two sums times its reciprocal
pub exp_sum_inv : (x : Frac) (n : ℕ) → (1F ÷ exp_sum x n) ⊗ exp_sum x n ≈ 1F
exp_sum_inv x n = ÷-times 1F (exp_sum x n) (exp_sum_above x n)

pub exp_sum_over_inv : (x : Frac) (n : ℕ) → (1F ÷ exp_sum_over x n) ⊗ exp_sum_over x n ≈ 1F
exp_sum_over_inv x n = ÷-times 1F (exp_sum_over x n) (exp_sum_over_above x n)

-- the test n ≥ 2x
pub enough_is : (x : Frac) (n : ℕ) → T (enough x n) → whole 2 ⊗ x ≼ whole n
enough_is x n = test_is (whole 2 ⊗ x) (whole n)

pub enough_of : (x : Frac) (n : ℕ) → whole 2 ⊗ x ≼ whole n → T (enough x n)
enough_of x n h = test_of h

-- ---- no lower fraction of e^(−y) exceeds an upper one of e^(−x), for x ≤ y
inv_one : {a : Frac} → 1F ≼ a → 1F ÷ a ≼ 1F
inv_one h = ÷≼ one_above (refl≼ 1F) h

over_one : (x : Frac) (n : ℕ) → 1F ÷ exp_sum_over x n ≼ 1F
over_one x n = inv_one (trans≼ (one_exp_sum x n) (sum_below_over x n))

pub low_high : {x y : Frac} (n m : ℕ) → x ≼ y → exp_low y n ≼ exp_high x m
low_high {x} {y} n m h = go (enough y n) (enough x m) (enough_is y n)
  where
    go : (b c : Bool) → (T b → whole 2 ⊗ y ≼ whole n) → ◌≼◌ (elim b [ true ↦ 1F ÷ exp_sum_over y n | false ↦ 0F ]) (elim c [ true ↦ 1F ÷ exp_sum x m | false ↦ 1F ])
    go true true k = ÷≼ (exp_sum_above x m) (refl≼ 1F) (sum_over m n h (k tt))
    go true false k = over_one y n
    go false true k = zero≼ (1F ÷ exp_sum x m)
    go false false k = zero≼ 1F

pub low_one : (x : Frac) (n : ℕ) → exp_low x n ≼ 1F
low_one x n = go (enough x n)
  where
    go : (b : Bool) → ◌≼◌ (elim b [ true ↦ 1F ÷ exp_sum_over x n | false ↦ 0F ]) 1F
    go true = over_one x n
    go false = zero≼ 1F

pub high_one : (x : Frac) (n : ℕ) → exp_high x n ≼ 1F
high_one x n = go (enough x n)
  where
    go : (b : Bool) → ◌≼◌ (elim b [ true ↦ 1F ÷ exp_sum x n | false ↦ 1F ]) 1F
    go true = inv_one (one_exp_sum x n)
    go false = refl≼ 1F

-- at one order the lower fraction of e^(−x) falls as x rises (the upper one does not)
over≼ : {x y : Frac} (n : ℕ) → x ≼ y → exp_sum_over x n ≼ exp_sum_over y n
over≼ n h = add≼ (exp_sum≼ n h) (mul≼ (refl≼ (whole 2)) (term≼ (suc n) h))

pub low_falls : {x y : Frac} (n : ℕ) → x ≼ y → exp_low y n ≼ exp_low x n
low_falls {x} {y} n h = go (enough y n) (enough_is y n) (enough x n) (λ k. enough_of x n (trans≼ (mul≼ (refl≼ (whole 2)) h) k))
  where
    go : (b : Bool) → (T b → whole 2 ⊗ y ≼ whole n) → (c : Bool) → (whole 2 ⊗ y ≼ whole n → T c) → ◌≼◌ (elim b [ true ↦ 1F ÷ exp_sum_over y n | false ↦ 0F ]) (elim c [ true ↦ 1F ÷ exp_sum_over x n | false ↦ 0F ])
    go true k true l = ÷≼ (exp_sum_over_above x n) (refl≼ 1F) (over≼ n h)
    go true k false l = absurd (l (k tt))
    go false k true l = zero≼ (1F ÷ exp_sum_over x n)
    go false k false l = zero≼ 0F

-- ---- e^(−0) is 1
pub term_zero : (n : ℕ) → term 0F (suc n) ≼ 0F
term_zero n = q_le (term 0F n ∷ (1 per (suc n)) ∷ []) (qv 0 *' qn 0 *' qv 1) (qn 0) tt

pub exp_sum_zero : (n : ℕ) → exp_sum 0F n ≼ 1F
exp_sum_zero zero = refl≼ 1F
exp_sum_zero (suc n) = trans≼ (add≼ (exp_sum_zero n) (term_zero n)) (q_le [] (qn 1 +' qn 0) (qn 1) tt)

pub low_zero : (n : ℕ) → 1F ≼ exp_low 0F n
low_zero n = go (enough 0F n) (enough_of 0F n (q_le (whole n ∷ []) (qn 2 *' qn 0) (qv 0) tt))
  where
    at_most : exp_sum_over 0F n ≼ 1F
    at_most = trans≼ (add≼ (exp_sum_zero n) (mul≼ (refl≼ (whole 2)) (term_zero n))) (q_le [] (qn 1 +' qn 2 *' qn 0) (qn 1) tt)

    go : (b : Bool) → T b → ◌≼◌ 1F (elim b [ true ↦ 1F ÷ exp_sum_over 0F n | false ↦ 0F ])
    go true h = ÷≼ {c = 1F} (exp_sum_over_above 0F n) (refl≼ 1F) at_most
    go false h = absurd h

-- ---- the literal power over the literal factorial
abbrev pub factorial : ℕ → ℕ
factorial zero = 1
factorial (suc j) = suc j * factorial j

pub factorial_above : (j : ℕ) → 0 < factorial j
factorial_above zero = omega arith
factorial_above (suc j) = mul-pos (zero-lt-suc j) (factorial_above j)

whole_times : (a b : ℕ) → whole (a * b) ≈ whole a ⊗ whole b
whole_times a b = omega arith

term_times : (x : Frac) (j : ℕ) → term x j ⊗ whole (factorial j) ≈ power x j
term_times x zero = q_eq [] (qn 1 *' qn 1) (qn 1) tt tt
term_times x (suc j) = q_eqfrom (term x j ∷ x ∷ (1 per (suc j)) ∷ whole (factorial (suc j)) ∷ whole (suc j) ∷ whole (factorial j) ∷ power x j ∷ [])
    (eq (qv 0 *' qv 1 *' qv 2) (qn 0) (qv 3) (qv 4 *' qv 5) ∷ eq (qv 0 *' qv 1 *' qv 5) (qn 0) (qv 2 *' qv 4) (qn 1) ∷ eq (qv 1) (qn 0) (qv 0 *' qv 5) (qv 6) ∷ []) (qv 0 *' qv 1 *' qv 2 *' qv 3) (qv 6 *' qv 1) tt tt
    (whole_times (suc j) (factorial j)) (per_times 1 (suc j) (zero-lt-suc j)) (term_times x j)

pub term_literal : (x : Frac) (j : ℕ) → term x j ≈ power x j ÷ whole (factorial j)
term_literal x j = record {
  to = ≼÷ (term x j) (whole (factorial j)) (power x j) (factorial_above j) (term_times x j).to;
  from = ÷≼of (term x j) (whole (factorial j)) (power x j) (factorial_above j) (term_times x j).from;
}

pub exp_sum_literal : (x : Frac) (n : ℕ) → exp_sum x n ≈ sum (λ j. power x j ÷ whole (factorial j)) (suc n)
exp_sum_literal x zero = trans≈ (term_literal x 0) (q_eq ((power x 0 ÷ whole (factorial 0)) ∷ []) (qv 0) (qn 0 +' qv 0) tt tt)
exp_sum_literal x (suc n) = add≈ (exp_sum_literal x n) (term_literal x (suc n))
