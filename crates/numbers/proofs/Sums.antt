-- The laws of sums of fractions.
use Prim.Native.Nat.{ℕ, zero, suc, ◌+◌, ◌<◌}
use mathlib.Core.List.{[], ◌∷◌}
use native.Mathlib.Nat.{add-zero, add-suc}
use native.Mathlib.Omega.{arith}
use Rattle.numbers.specs.Fraction.{Frac, ◌≼◌, ◌≈◌, ◌⊕◌, ◌⊗◌, whole, 0F, sum}
use Rattle.numbers.proofs.Fractions.{refl≼, add≼, whole_next}
use Rattle.numbers.proofs.FractionProver.{qv, qn, ◌+'◌, ◌*'◌, q_eq, q_eqfrom, eq}

pub sum≼ : (f g : ℕ → Frac) (n : ℕ) → ((i : ℕ) → i < n → f i ≼ g i) → sum f n ≼ sum g n
sum≼ f g zero h = refl≼ 0F
sum≼ f g (suc n) h = add≼ (sum≼ f g n (λ i p. h i (omega arith))) (h n (omega arith))

pub sum≈ : (f g : ℕ → Frac) (n : ℕ) → ((i : ℕ) → i < n → f i ≈ g i) → sum f n ≈ sum g n
sum≈ f g n h = record { to = sum≼ f g n (λ i p. (h i p).to); from = sum≼ g f n (λ i p. (h i p).from) }

pub sum_scale : (c : Frac) (f : ℕ → Frac) (n : ℕ) → sum (λ i. c ⊗ f i) n ≈ c ⊗ sum f n
sum_scale c f zero = q_eq (c ∷ []) (qn 0) (qv 0 *' qn 0) tt tt
sum_scale c f (suc n) = q_eqfrom (sum (λ i. c ⊗ f i) n ∷ c ∷ sum f n ∷ f n ∷ []) (eq (qn 1) (qn 0) (qv 0) (qv 1 *' qv 2) ∷ []) (qv 0 +' qv 1 *' qv 3) (qv 1 *' (qv 2 +' qv 3)) tt tt (sum_scale c f n)

pub sum_same : (c : Frac) (n : ℕ) → sum (λ i. c) n ≈ whole n ⊗ c
sum_same c zero = q_eq (c ∷ []) (qn 0) (qn 0 *' qv 0) tt tt
sum_same c (suc n) = q_eqfrom (c ∷ sum (λ i. c) n ∷ whole n ∷ whole (suc n) ∷ []) (eq (qn 1) (qn 0) (qv 1) (qv 2 *' qv 0) ∷ eq (qn 0) (qv 0) (qv 3) (qv 2 +' qn 1) ∷ []) (qv 1 +' qv 0) (qv 3 *' qv 0) tt tt (sum_same c n) (whole_next n)

pub sum_split : (f : ℕ → Frac) (a b : ℕ) → sum f (a + b) ≈ sum f a ⊕ sum (λ i. f (a + i)) b
sum_split f a zero = rw add-zero (q_eq (sum f a ∷ []) (qv 0) (qv 0 +' qn 0) tt tt)
sum_split f a (suc b) = rw add-suc (q_eqfrom (sum f (a + b) ∷ sum f a ∷ sum (λ i. f (a + i)) b ∷ f (a + b) ∷ []) (eq (qn 1) (qn 0) (qv 0) (qv 1 +' qv 2) ∷ []) (qv 0 +' qv 3) (qv 1 +' (qv 2 +' qv 3)) tt tt (sum_split f a b))
