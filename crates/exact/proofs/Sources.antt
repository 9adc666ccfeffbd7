-- A neighbour's integral and logarithm in plain values, and their sums over a list of neighbours: the laws that β's numerator and divisor have of one source, by
-- induction over the list.
use Prim.Native.Nat.{ℕ, ◌*◌, ◌≤◌, ◌<◌}
use mathlib.Core.List.{List, [], ◌∷◌}
use lib.Dec.{T}
use native.Mathlib.Nat.{mul-le-mul_right}
use native.Mathlib.Omega.{arith}
use Rattle.numbers.specs.Fraction.{Frac, ◌≼◌, ◌≈◌, ◌per◌, 1F, ◌⊕◌, ◌⊗◌, ◌∸◌}
use Rattle.numbers.proofs.Fractions.{refl≼, trans≼, sym≈, trans≈, mul≈, per_is, per_above, per≼, one_above}
use Rattle.numbers.proofs.FractionProver.{qv, qn, ◌+'◌, ◌*'◌, q_le, le, eq, q_from, q_eqfrom}
use Rattle.numbers.proofs.Subtraction.{less_on, less_exact}
use Rattle.exact.specs.Value.{from_one}
use Rattle.exact.specs.Share.{Source, seconds, source_end}
use Rattle.exact.proofs.Plain.{Plain, ◌⊴ₚ◌, both, and_0, add_p, add⊴ₚ}
use Rattle.exact.proofs.PlainFine.{FineP, fine_p_add}
use Rattle.exact.proofs.Parts.{integral_p, ln_p, integral⊴ₚ, ln⊴ₚ, integral⊴ln, fine_p_integral, fine_p_ln}

-- ---- a stretch from p to q = p·r: its width is p times r − 1
pub span_of_ratio : (p q r : Frac) → p ⊕ (q ∸ p) ≈ q → 1F ⊕ (r ∸ 1F) ≈ r → p ⊗ r ≈ q → q ∸ p ≈ (r ∸ 1F) ⊗ p
span_of_ratio p q r h k e = q_eqfrom (p ∷ q ∷ r ∷ (q ∸ p) ∷ (r ∸ 1F) ∷ [])
    (eq (qn 1) (qn 0) (qv 0 +' qv 3) (qv 1) ∷ eq (qn 0) (qn 1) (qv 0 *' qv 2) (qv 1) ∷ eq (qn 0) (qv 0) (qn 1 +' qv 4) (qv 2) ∷ []) (qv 3) (qv 4 *' qv 0) tt tt h e k

-- two stretches of one ratio, the second nearer to 0
pub spans_fall : (p p' v w w' : Frac) → w ≈ v ⊗ p → w' ≈ v ⊗ p' → p' ≼ p → w' ≼ w
spans_fall p p' v w w' e e' h = q_from (p ∷ p' ∷ w ∷ w' ∷ v ∷ [])
    (eq (qn 1) (qn 0) (qv 3) (qv 4 *' qv 1) ∷ le (qv 4) (qv 1) (qv 0) ∷ eq (qn 0) (qn 1) (qv 2) (qv 4 *' qv 0) ∷ []) (qv 3) (qv 2) tt e' h e

pub spans_alike : (p p' v w w' : Frac) → w ≈ v ⊗ p → w' ≈ v ⊗ p' → w ⊗ p' ≼ w' ⊗ p
spans_alike p p' v w w' e e' = q_from (p ∷ p' ∷ w ∷ w' ∷ v ∷ [])
    (eq (qn 0) (qv 0) (qv 3) (qv 4 *' qv 1) ∷ eq (qv 1) (qn 0) (qv 2) (qv 4 *' qv 0) ∷ []) (qv 2 *' qv 1) (qv 3 *' qv 0) tt e' e

-- ---- one neighbour
pub record Apart (x : Source) : Type 0 where
  pub some : 0 < x.near
  pub order : x.near ≤ x.image

abbrev pub source_span : ℕ → ℕ → Source → Frac
source_span s m x = source_end s m x.image ∸ source_end s m x.near

abbrev pub source_beyond : Source → Frac
source_beyond x = x.image per x.near ∸ 1F

abbrev pub source_heating_p : ℕ → ℕ → Source → Plain
source_heating_p s m x = integral_p (source_end s m x.near) (source_span s m x)

abbrev pub source_log_p : Source → Plain
source_log_p x = ln_p 1F (source_beyond x)

-- a time after which something is asked of a soil
abbrev pub Soil : ℕ → ℕ → Type 0
Soil s m = 0 < 4 * seconds m * s

module _ (s : ℕ) (m : ℕ) (t : Soil s m) (x : Source) (a : Apart x) where
  pub source_near_above : 0 < (source_end s m x.near).num
  source_near_above = per_above (4 * seconds m * s) (omega (arith, a.some)) t

  source_far_is : source_end s m x.near ⊗ x.image per x.near ≈ source_end s m x.image
  source_far_is = trans≈ (mul≈ (per_is (1000 * x.near) (4 * seconds m * s) t) (per_is x.image x.near a.some)) (trans≈ (go t a.some) (sym≈ (per_is (1000 * x.image) (4 * seconds m * s) t)))
    where
      go : (y : 0 < 4 * seconds m * s) (z : 0 < x.near) → ◌≈◌ ((record { num = 1000 * x.near; den = 4 * seconds m * s; pos = y }) ⊗ (record { num = x.image; den = x.near; pos = z })) (record { num = 1000 * x.image; den = 4 * seconds m * s; pos = y })
      go y z = omega arith

  -- m²/c² − 1 and the stretch are not cut off
  pub source_ratio_uncut : 1F ⊕ source_beyond x ≈ x.image per x.near
  source_ratio_uncut = record { to = less_exact (per≼ 1 1 x.image x.near (omega arith) a.some (omega (arith, a.order))); from = less_on (x.image per x.near) 1F }

  pub source_span_uncut : source_end s m x.near ⊕ source_span s m x ≈ source_end s m x.image
  source_span_uncut = record {
    to = less_exact (per≼ (1000 * x.near) (4 * seconds m * s) (1000 * x.image) (4 * seconds m * s) t t (mul-le-mul_right (4 * seconds m * s) (omega (arith, a.order))));
    from = less_on (source_end s m x.image) (source_end s m x.near);
  }

  pub source_span_is : source_span s m x ≈ source_beyond x ⊗ source_end s m x.near
  source_span_is = span_of_ratio (source_end s m x.near) (source_end s m x.image) (x.image per x.near) source_span_uncut source_ratio_uncut source_far_is

  pub source_heating⊴log : source_heating_p s m x ⊴ₚ source_log_p x
  source_heating⊴log = integral⊴ln (source_end s m x.near) (source_span s m x) 1F (source_beyond x) source_near_above one_above
      (q_from (source_end s m x.near ∷ source_span s m x ∷ source_beyond x ∷ []) (eq (qn 1) (qn 0) (qv 1) (qv 2 *' qv 0) ∷ []) (qv 1 *' qn 1) (qv 2 *' qv 0) tt source_span_is)

  pub fine_source_heating_p : FineP (source_heating_p s m x)
  fine_source_heating_p = fine_p_integral (source_end s m x.near) (source_span s m x) source_near_above

pub source_log⊴ₚ : (x : Source) → source_log_p x ⊴ₚ source_log_p x
source_log⊴ₚ x = ln⊴ₚ 1F (source_beyond x) 1F (source_beyond x) one_above one_above (refl≼ (source_beyond x ⊗ 1F))

-- two minute counts
module _ (s : ℕ) (m m' : ℕ) (t : Soil s m) (t' : Soil s m') (h : m ≤ m') (x : Source) (a : Apart x) where
  source_near_falls : source_end s m' x.near ≼ source_end s m x.near
  source_near_falls = per≼ (1000 * x.near) (4 * seconds m' * s) (1000 * x.near) (4 * seconds m * s) t' t (omega (arith, mul-le-mul_right (240000 * s * x.near) h))

  pub source_heating_rises_p : source_heating_p s m x ⊴ₚ source_heating_p s m' x
  source_heating_rises_p =
      let p = source_end s m x.near in
      let p' = source_end s m' x.near in
      let e = source_span_is s m t x a in
      let e' = source_span_is s m' t' x a in
      integral⊴ₚ p (source_span s m x) p' (source_span s m' x) (source_near_above s m t x a) (source_near_above s m' t' x a)
      (spans_alike p p' (source_beyond x) (source_span s m x) (source_span s m' x) e e') source_near_falls (spans_fall p p' (source_beyond x) (source_span s m x) (source_span s m' x) e e' source_near_falls)

-- ---- any list of neighbours, on what the cable has
pub data AllApart : List Source → Type 0 where
  none : AllApart []
  more : {x : Source} {xs : List Source} → Apart x → AllApart xs → AllApart (x ∷ xs)

abbrev pub heating_on : ℕ → ℕ → Plain → List Source → Plain
heating_on s m own [] = own
heating_on s m own (x ∷ xs) = heating_on s m (add_p own (source_heating_p s m x)) xs

abbrev pub log_on : Plain → List Source → Plain
log_on own [] = own
log_on own (x ∷ xs) = log_on (add_p own (source_log_p x)) xs

pub log_on⊴ₚ : {own : Plain} (xs : List Source) → own ⊴ₚ own → log_on own xs ⊴ₚ log_on own xs
log_on⊴ₚ [] h = h
log_on⊴ₚ {own = own} (x ∷ xs) h = log_on⊴ₚ {own = add_p own (source_log_p x)} xs (add⊴ₚ h (source_log⊴ₚ x))

pub fine_log_on : {own : Plain} (xs : List Source) → FineP own → FineP (log_on own xs)
fine_log_on [] f = f
fine_log_on {own = own} (x ∷ xs) f = fine_log_on {own = add_p own (ln_p 1F (source_beyond x))} xs (fine_p_add f (fine_p_ln 1F (source_beyond x) one_above))

-- what is at most the cable's own lower fraction is at most that of the sum
more_is_no_less : {f : Frac} (a b : Frac) → f ≼ a → f ≼ a ⊕ b
more_is_no_less a b h = trans≼ h (q_le (a ∷ b ∷ []) (qv 0) (qv 0 +' qv 1) tt)

pub log_on_least : (own : Plain) {f : Frac} (n : ℕ) (xs : List Source) → f ≼ own.low n → f ≼ (log_on own xs).low n
log_on_least own n [] h = h
log_on_least own n (x ∷ xs) h = log_on_least (add_p own (source_log_p x)) n xs (more_is_no_less (own.low n) ((source_log_p x).low n) h)

pub log_on_ok : (own : Plain) (n : ℕ) (xs : List Source) → T (from_one n) → T (own.ok n) → T ((log_on own xs).ok n)
log_on_ok own n [] t h = h
log_on_ok own n (x ∷ xs) t h = log_on_ok (add_p own (source_log_p x)) n xs t (both (own.ok n) (from_one n) h t)

pub log_on_own : (own : Plain) (n : ℕ) (xs : List Source) → T ((log_on own xs).ok n) → T (own.ok n)
log_on_own own n [] h = h
log_on_own own n (x ∷ xs) h = and_0 (own.ok n) (from_one n) (log_on_own (add_p own (source_log_p x)) n xs h)

module _ (s : ℕ) (m : ℕ) where
  pub fine_heating_on : Soil s m → {own : Plain} {xs : List Source} → AllApart xs → FineP own → FineP (heating_on s m own xs)
  fine_heating_on t none f = f
  fine_heating_on t {own = own} (more {x = x} {xs = xs} a r) f = fine_heating_on t {own = add_p own (source_heating_p s m x)} r (fine_p_add f (fine_source_heating_p s m t x a))

  pub heating_on⊴log_on : Soil s m → {own log : Plain} {xs : List Source} → AllApart xs → own ⊴ₚ log → heating_on s m own xs ⊴ₚ log_on log xs
  heating_on⊴log_on t none h = h
  heating_on⊴log_on t {own = own} {log = log} (more {x = x} {xs = xs} a r) h = heating_on⊴log_on t {own = add_p own (source_heating_p s m x)} r (add⊴ₚ h (source_heating⊴log s m t x a))

  pub heating_on_least : (own : Plain) {f : Frac} (n : ℕ) (xs : List Source) → f ≼ own.low n → f ≼ (heating_on s m own xs).low n
  heating_on_least own n [] h = h
  heating_on_least own n (x ∷ xs) h = heating_on_least (add_p own (source_heating_p s m x)) n xs (more_is_no_less (own.low n) ((source_heating_p s m x).low n) h)

  pub heating_on_ok : (own : Plain) (n : ℕ) (xs : List Source) → T (from_one n) → T (own.ok n) → T ((heating_on s m own xs).ok n)
  heating_on_ok own n [] t h = h
  heating_on_ok own n (x ∷ xs) t h = heating_on_ok (add_p own (source_heating_p s m x)) n xs t (both (own.ok n) (from_one n) h t)

pub heating_on_rises : (s m m' : ℕ) → Soil s m → Soil s m' → m ≤ m' → {own own' : Plain} {xs : List Source} → AllApart xs → own ⊴ₚ own' → heating_on s m own xs ⊴ₚ heating_on s m' own' xs
heating_on_rises s m m' t t' h none k = k
heating_on_rises s m m' t t' h {own = own} {own' = own'} (more {x = x} {xs = xs} a r) k = heating_on_rises s m m' t t' h {own = add_p own (source_heating_p s m x)} r (add⊴ₚ k (source_heating_rises_p s m m' t t' h x a))
