-- Sums over equal parts: a right sum over one stretch is at most a left sum over another, where the heights are so part by part.
use Prim.Native.Nat.{ℕ, zero, suc, ◌+◌, ◌*◌, ◌/◌, ◌≤◌, ◌<◌}
use mathlib.Core.Path.{◌≡◌, ap, subst}
use mathlib.Core.List.{[], ◌∷◌}
use native.Mathlib.Nat.{mul-pos, zero-lt-suc, suc-mul, zero-mul, mul_comm, div-mul-le_self, lt-div-mul-add}
use native.Mathlib.Omega.{arith}
use lib.Arith.{digits_div}
use Rattle.numbers.specs.Fraction.{Frac, ◌≼◌, ◌≈◌, ◌per◌, whole, 0F, 1F, ◌⊕◌, ◌⊗◌, ◌÷◌, sum}
use Rattle.numbers.proofs.Fractions.{trans≼, above, refl≈, per_times, per≼, ÷-times}
use Rattle.numbers.proofs.FractionProver.{qv, qn, ◌+'◌, ◌*'◌, q_le, q_eq, le, eq, q_from, q_cancel, q_eqfrom}
use Rattle.numbers.proofs.Sums.{sum≼, sum≈, sum_scale, sum_same, sum_split}
use Rattle.exact.specs.Cutting.{cut_at}

-- i/n, for i up to n
pub per_one : (i n : ℕ) → 0 < n → i ≤ n → i per n ≼ 1F
per_one i n z h = per≼ i n 1 1 z (zero-lt-suc 0) (omega arith)

per_step : (i n : ℕ) → (suc i) per n ≈ i per n ⊕ 1 per n
per_step i zero = omega arith
per_step i (suc n) = omega arith

pub per_meet : (j m : ℕ) → 0 < m → (i n : ℕ) → 0 < n → j * n < suc i * m → j per m ≼ (suc i) per n
per_meet j m y i n z h = per≼ j m (suc i) n y z (omega arith)

-- ---- the places
module _ (p w : Frac) where
  pub cut_above : (i n : ℕ) → 0 < p.num → 0 < (cut_at p w i n).num
  cut_above i n h = above h (q_le (p ∷ w ∷ (i per n) ∷ []) (qv 0) (qv 0 +' qv 1 *' qv 2) tt)

  pub cut_start : (i n : ℕ) → p ≼ cut_at p w i n
  cut_start i n = q_le (p ∷ w ∷ (i per n) ∷ []) (qv 0) (qv 0 +' qv 1 *' qv 2) tt

  pub cut_end : (i n : ℕ) → 0 < n → i ≤ n → cut_at p w i n ≼ p ⊕ w
  cut_end i n z h = q_from (p ∷ w ∷ (i per n) ∷ []) (le (qv 1) (qv 2) (qn 1) ∷ []) (qv 0 +' qv 1 *' qv 2) (qv 0 +' qv 1) tt (per_one i n z h)

  pub cut_next : (i n : ℕ) → cut_at p w (suc i) n ≈ cut_at p w i n ⊕ w ⊗ 1 per n
  cut_next i n = q_eqfrom (p ∷ w ∷ ((suc i) per n) ∷ (i per n) ∷ (1 per n) ∷ []) (eq (qv 1) (qn 0) (qv 2) (qv 3 +' qv 4) ∷ []) (qv 0 +' qv 1 *' qv 2) (qv 0 +' qv 1 *' qv 3 +' qv 1 *' qv 4) tt tt (per_step i n)

  pub cut_up : (i n : ℕ) → cut_at p w i n ≼ cut_at p w (suc i) n
  cut_up i n = trans≼ (q_le (cut_at p w i n ∷ w ∷ (1 per n) ∷ []) (qv 0) (qv 0 +' qv 1 *' qv 2) tt) (cut_next i n).from

  pub cut_first : (n : ℕ) → cut_at p w 0 n ≼ p
  cut_first n = q_from (p ∷ w ∷ (0 per n) ∷ []) (le (qv 1) (qv 2) (qn 0) ∷ []) (qv 0 +' qv 1 *' qv 2) (qv 0) tt (none n)
    where
      none : (n : ℕ) → 0 per n ≼ 0F
      none zero = omega arith
      none (suc n) = omega arith

  pub cut_last : (n : ℕ) → 0 < n → p ⊕ w ≼ cut_at p w n n
  cut_last n z = q_from (p ∷ w ∷ (n per n) ∷ []) (le (qv 1) (qn 1) (qv 2) ∷ []) (qv 0 +' qv 1) (qv 0 +' qv 1 *' qv 2) tt (per≼ 1 1 n n (zero-lt-suc 0) z (omega arith))

-- ---- n parts against m parts, over n·m cells
path≈ : {a b : Frac} → a ≡ b → a ≈ b
path≈ {a} p = subst (λ x. a ≈ x) p (refl≈ a)

regroup : (F : ℕ → Frac) (m : ℕ) → 0 < m → (n : ℕ) → sum (λ c. F (c / m)) (n * m) ≈ whole m ⊗ sum F n
regroup F m z zero = rw zero-mul (q_eq (whole m ∷ []) (qn 0) (qv 0 *' qn 0) tt tt)
regroup F m z (suc n) = rw (suc-mul n m) (q_eqfrom
    (sum (λ c. F (c / m)) (n * m + m) ∷ sum (λ c. F (c / m)) (n * m) ∷ sum (λ i. F ((n * m + i) / m)) m ∷ whole m ∷ F n ∷ sum F n ∷ sum (λ i. F n) m ∷ [])
    (eq (qn 1) (qn 0) (qv 0) (qv 1 +' qv 2) ∷ eq (qn 1) (qn 0) (qv 1) (qv 3 *' qv 5) ∷ eq (qn 1) (qn 0) (qv 2) (qv 6) ∷ eq (qn 1) (qn 0) (qv 6) (qv 3 *' qv 4) ∷ [])
    (qv 0) (qv 3 *' (qv 5 +' qv 4)) tt tt
    (sum_split (λ c. F (c / m)) (n * m) m) (regroup F m z n)
    (sum≈ (λ i. F ((n * m + i) / m)) (λ i. F n) m (λ i p. path≈ (ap F (digits_div n p)))) (sum_same (F n) m))

-- what is below part by part, wherever two parts meet, is below in sum
pub cut : (L U : ℕ → Frac) (n m : ℕ) → 0 < n → 0 < m → ((i j : ℕ) → j * n < suc i * m → L i ≼ U j) → whole m ⊗ sum L n ≼ whole n ⊗ sum U m
cut L U n m zn zm h = trans≼ (regroup L m zm n).from (trans≼ fine (rw (mul_comm m n) at (regroup U n zn m).to))
  where
    meet : (c : ℕ) → c / n * n < suc (c / m) * m
    meet c = omega (arith, div-mul-le_self c n, lt-div-mul-add {a = c} zm)

    fine : sum (λ c. L (c / m)) (n * m) ≼ sum (λ c. U (c / n)) (n * m)
    fine = sum≼ (λ c. L (c / m)) (λ c. U (c / n)) (n * m) (λ c p. h (c / m) (c / n) (meet c))

-- ---- two stretches, the second nearer to 0, with the same ratio of their ends
cell : {a b : Frac} (v v' P P' : Frac) (zP : 0 < P.num) (zP' : 0 < P'.num) → a ≼ b → v ⊗ P' ≼ v' ⊗ P → v ⊗ (a ÷ P) ≼ v' ⊗ (b ÷ P')
cell {a} {b} v v' P P' zP zP' h k = q_cancel (a ∷ b ∷ v ∷ v' ∷ P ∷ P' ∷ (a ÷ P) ∷ (b ÷ P') ∷ [])
    (eq (qv 2 *' qv 5) (qn 0) (qv 6 *' qv 4) (qv 0) ∷ le (qv 2 *' qv 5) (qv 0) (qv 1) ∷ le (qv 1) (qv 2 *' qv 5) (qv 3 *' qv 4) ∷ eq (qn 0) (qv 3 *' qv 4) (qv 7 *' qv 5) (qv 1) ∷ [])
    (qv 4 *' qv 5) (qv 2 *' qv 6) (qv 3 *' qv 7) tt (mul-pos zP zP') (÷-times a P zP) h k (÷-times b P' zP')

module _ (p w p' w' : Frac) (zp : 0 < p.num) (zp' : 0 < p'.num) (hr : w ⊗ p' ≼ w' ⊗ p) where
  pub sums_apart : (n m : ℕ) (z : 0 < n) (y : 0 < m) (a b : ℕ → Frac) → ((i j : ℕ) → j * n < suc i * m → a i ≼ b j)
      → w ⊗ (1 per n) ⊗ sum (λ i. (a i ÷ (cut_at p w (suc i) n))) n ≼ w' ⊗ (1 per m) ⊗ sum (λ j. (b j ÷ (cut_at p' w' j m))) m
  sums_apart n m z y a b h = q_from (w ∷ w' ∷ (1 per n) ∷ (1 per m) ∷ sum L n ∷ sum U m ∷ whole n ∷ whole m ∷ sum (λ i. w ⊗ L i) n ∷ sum (λ j. w' ⊗ U j) m ∷ [])
      (eq (qn 0) (qv 2) (qv 8) (qv 0 *' qv 4) ∷ eq (qn 0) (qv 2 *' qv 8) (qv 3 *' qv 7) (qn 1) ∷ le (qv 2 *' qv 3) (qv 7 *' qv 8) (qv 6 *' qv 9) ∷ eq (qv 3 *' qv 9) (qn 0) (qv 2 *' qv 6) (qn 1) ∷ eq (qv 3) (qn 0) (qv 9) (qv 1 *' qv 5) ∷ [])
      (qv 0 *' qv 2 *' qv 4) (qv 1 *' qv 3 *' qv 5) tt
      (sum_scale w L n) (per_times 1 m y) (cut (λ i. w ⊗ L i) (λ j. w' ⊗ U j) n m z y meet) (per_times 1 n z) (sum_scale w' U m)
    where
      L : ℕ → Frac
      L i = a i ÷ (cut_at p w (suc i) n)

      U : ℕ → Frac
      U j = b j ÷ (cut_at p' w' j m)

      meet : (i j : ℕ) → j * n < suc i * m → w ⊗ L i ≼ w' ⊗ U j
      meet i j k = cell w w' (cut_at p w (suc i) n) (cut_at p' w' j m) (cut_above p w (suc i) n zp) (cut_above p' w' j m zp') (h i j k)
          (q_from (p ∷ w ∷ p' ∷ w' ∷ (j per m) ∷ ((suc i) per n) ∷ []) (le (qn 1) (qv 1 *' qv 2) (qv 3 *' qv 0) ∷ le (qv 1 *' qv 3) (qv 4) (qv 5) ∷ []) (qv 1 *' (qv 2 +' qv 3 *' qv 4)) (qv 3 *' (qv 0 +' qv 1 *' qv 5)) tt hr (per_meet j m y i n z k))
