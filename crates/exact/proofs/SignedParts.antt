-- The laws of the values e^(−x), J from p to q and ln r of specs/Value.antt, and what sums of slices are to J and to ln r.
-- A list of slices runs from its near end to its far end; a program that sums from the far end has summed `total` of the slices behind a place.
use Prim.Native.Nat.{◌<◌}
use mathlib.Core.List.{List, [], ◌∷◌, ◌++◌}
use Rattle.numbers.specs.Fraction.{Frac, ◌≼◌, ◌≈◌, 0F, 1F, ◌⊕◌, ◌⊗◌, ◌∸◌}
use Rattle.numbers.specs.Signed.{of_frac}
use Rattle.numbers.proofs.Fractions.{refl≼, trans≼, above, one_above}
use Rattle.numbers.proofs.FractionProver.{qv, qn, ◌+'◌, ◌*'◌, le, eq, q_from}
use Rattle.numbers.proofs.Subtraction.{less_on, less_exact}
use Rattle.numbers.proofs.SignedFractions.{of_frac≼}
use Rattle.exact.specs.Value.{AtMost, AtLeast, ◌⊴◌, Fine, exp_neg, integral, ln}
use Rattle.exact.proofs.Values.{lift, lift⊴, at_least_join, at_most_join, fine_lift}
use Rattle.exact.proofs.Parts.{ln_p, from_one_is, exp⊴ₚ, integral⊴ₚ, ln⊴ₚ, integral⊴ln, fine_p_integral, fine_p_ln}
use Rattle.exact.proofs.Certified.{Above}
use Rattle.exact.proofs.Slices.{Slice, All, more, Adjacent, next, total, near_far, to_same}
use Rattle.exact.proofs.Enclosure.{low_area, high_area, Lower, Upper, heat_exponent, integral_over}
use Rattle.exact.proofs.LogarithmSlices.{ln_exponent, ln_under, ln_over}
use Rattle.exact.proofs.FarSlice.{far_under, far_slice}

-- ---- no lower fraction exceeds an upper one
pub exp_falls : {x y : Frac} → x ≼ y → exp_neg y ⊴ exp_neg x
exp_falls h = lift⊴ (exp⊴ₚ h)

pub integral_apart : (p q : Frac) → 0 < p.num → integral p q ⊴ integral p q
integral_apart p q zp = lift⊴ (integral⊴ₚ p (q ∸ p) p (q ∸ p) zp zp (refl≼ ((q ∸ p) ⊗ p)) (refl≼ p) (refl≼ (q ∸ p)))

pub ln_apart : (r : Frac) → ln r ⊴ ln r
ln_apart r = lift⊴ (ln⊴ₚ 1F (r ∸ 1F) 1F (r ∸ 1F) one_above one_above (refl≼ ((r ∸ 1F) ⊗ 1F)))

-- ---- from some order on bounds at most e apart
pub fine_integral : (p q : Frac) → 0 < p.num → Fine (integral p q)
fine_integral p q zp = fine_lift (fine_p_integral p (q ∸ p) zp)

pub fine_ln : (r : Frac) → Fine (ln r)
fine_ln r = fine_lift (fine_p_ln 1F (r ∸ 1F) one_above)

-- ---- ln over a stretch from p, w wide, and ln r for r at least, or at most, (p + w)/p
pub ln_stretch⊴ : (p w r : Frac) → 0 < p.num → p ⊕ w ≼ p ⊗ r → lift (ln_p p w) ⊴ ln r
ln_stretch⊴ p w r zp h = lift⊴ (ln⊴ₚ p w 1F (r ∸ 1F) zp one_above
    (q_from (p ∷ w ∷ r ∷ (r ∸ 1F) ∷ []) (le (qn 1) (qv 0 +' qv 1) (qv 0 *' qv 2) ∷ le (qv 0) (qv 2) (qn 1 +' qv 3) ∷ []) (qv 1 *' qn 1) (qv 3 *' qv 0) tt h (less_on r 1F)))

pub ln⊴stretch : (p w r : Frac) → 0 < p.num → 1F ≼ r → p ⊗ r ≼ p ⊕ w → ln r ⊴ lift (ln_p p w)
ln⊴stretch p w r zp z h = lift⊴ (ln⊴ₚ 1F (r ∸ 1F) p w one_above zp
    (q_from (p ∷ w ∷ r ∷ (r ∸ 1F) ∷ []) (le (qn 1) (qv 0 *' qv 2) (qv 0 +' qv 1) ∷ le (qv 0) (qn 1 +' qv 3) (qv 2) ∷ []) (qv 3 *' qv 0) (qv 1 *' qn 1) tt h (less_exact z)))

-- J is at most ln of at least its ratio
pub integral⊴ln_ratio : (p q r : Frac) → 0 < p.num → p ≼ q → q ≼ p ⊗ r → integral p q ⊴ ln r
integral⊴ln_ratio p q r zp h k = lift⊴ (integral⊴ln p (q ∸ p) 1F (r ∸ 1F) zp one_above
    (q_from (p ∷ q ∷ r ∷ (q ∸ p) ∷ (r ∸ 1F) ∷ []) (le (qn 1) (qv 0 +' qv 3) (qv 1) ∷ le (qn 1) (qv 1) (qv 0 *' qv 2) ∷ le (qv 0) (qv 2) (qn 1 +' qv 4) ∷ []) (qv 3 *' qn 1) (qv 4 *' qv 0) tt (less_exact h) k (less_on r 1F)))

-- ---- slices from p to x, and beyond x up to q nothing below, U·Λ above
-- the place at which the slices of a list that begins at p end
abbrev pub reached : Frac → List Slice → Frac
reached p [] = p
reached p (s ∷ ss) = reached s.far ss

behind : {p x : Frac} (ss ts : List Slice) → Adjacent p (ss ++ ts) x → Adjacent (reached p ss) ts x
behind [] ts a = a
behind (s ∷ ss) ts (next e a) = behind ss ts a

all_behind : {P : Slice → Type 0} (ss ts : List Slice) → All P (ss ++ ts) → All P ts
all_behind [] ts o = o
all_behind (s ∷ ss) ts (more o os) = all_behind ss ts os

reached_from : {p x : Frac} (ss ts : List Slice) → Adjacent p (ss ++ ts) x → p ≼ reached p ss
reached_from [] ts a = refl≼ _
reached_from {p} (s ∷ ss) ts (next e a) = trans≼ (q_from (p ∷ s.width ∷ s.far ∷ []) (eq (qn 1) (qn 0) (qv 0 +' qv 1) (qv 2) ∷ []) (qv 0) (qv 2) tt e) (reached_from ss ts a)

module _ (p x q : Frac) (ss ts : List Slice) (zp : 0 < p.num) (adj : Adjacent p (ss ++ ts) x) (hx : x ≼ q) where
  -- the near end of the slices `ts`, those summed so far
  abbrev near : Frac
  near = reached p ss

  near_above : 0 < near.num
  near_above = above zp (reached_from ss ts adj)

  to_far : x ≼ near ⊕ (q ∸ near)
  to_far = trans≼ hx (less_on q near)

  -- what is summed of the lower bounds is at most the integral from there to the far end ..
  pub summed_at_most : All (Lower heat_exponent) (ss ++ ts) → AtMost (of_frac (total (low_area heat_exponent) ts)) (integral near q)
  summed_at_most os = far_under near (q ∸ near) x 0F near_above ts (behind ss ts adj) to_far (all_behind ss ts os)

  -- .. and what is summed of the upper bounds at least, Λ being at least the logarithm over any range that holds x to the far end
  pub summed_at_least : All (Upper heat_exponent) (ss ++ ts) → (U p0 w0 Λ : Frac) → 0 < p0.num → Above U x → p0 ≼ x → q ≼ p0 ⊕ w0 → AtLeast (of_frac Λ) (lift (ln_p p0 w0))
      → AtLeast (of_frac (total (high_area heat_exponent) ts ⊕ U ⊗ Λ)) (integral near q)
  summed_at_least os U p0 w0 Λ z0 a hp hq l = far_slice near (q ∸ near) x U near_above ts (behind ss ts adj) to_far a (all_behind ss ts os) p0 w0 Λ z0 hp (trans≼ (less_exact near_below) hq) l
    where
      near_below : near ≼ q
      near_below = trans≼ (near_far (behind ss ts adj)) hx

-- slices that reach the far end q: no far slice
pub slices_at_least : (p q : Frac) (ss : List Slice) → 0 < p.num → Adjacent p ss q → All (Upper heat_exponent) ss → AtLeast (of_frac (total (high_area heat_exponent) ss)) (integral p q)
slices_at_least p q ss zp adj os = record { least = λ n s. of_frac≼ (integral_over p (q ∸ p) zp ss (to_same adj (record { to = less_on q p; from = less_exact (near_far adj) })) n (from_one_is n s) os) }

-- slices with the exponent 0 from p to p·r, against ln r
module _ (p r : Frac) (ss : List Slice) (zp : 0 < p.num) (z : 1F ≼ r) (adj : Adjacent p ss (p ⊗ r)) where
  abbrev span : Frac
  span = (p ⊗ r) ∸ p

  span_whole : p ⊗ r ≈ p ⊕ span
  span_whole = record { to = less_on (p ⊗ r) p; from = less_exact (near_far adj) }

  pub ln_slices_at_most : All (Lower ln_exponent) ss → AtMost (of_frac (total (low_area ln_exponent) ss)) (ln r)
  ln_slices_at_most os = at_most_join (ln_stretch⊴ p span r zp span_whole.from) (fine_lift (fine_p_ln p span zp))
      (record { most = λ n s. of_frac≼ (ln_under p span zp ss (to_same adj span_whole) n (from_one_is n s) os) })

  pub ln_slices_at_least : All (Upper ln_exponent) ss → AtLeast (of_frac (total (high_area ln_exponent) ss)) (ln r)
  ln_slices_at_least os = at_least_join (ln⊴stretch p span r zp z span_whole.to) (fine_lift (fine_p_ln p span zp))
      (record { least = λ n s. of_frac≼ (ln_over p span zp ss (to_same adj span_whole) n (from_one_is n s) os) })
