-- A list of slices from the near end to the far end: the area beyond a place u, and how it changes with u.
-- A program that adds slices from the far end toward the near end puts each at the head of the list: its running sum is `total` of the list so far.
use Prim.Native.Nat.{ℕ, zero, suc, ◌<◌}
use mathlib.Core.List.{List, [], ◌∷◌, ◌++◌}
use mathlib.Core.Logic.{◌⊎◌, inl, inr}
use native.Mathlib.Omega.{arith}
use Rattle.numbers.specs.Fraction.{Frac, ◌≼◌, ◌≈◌, 0F, ◌⊕◌, ◌⊗◌, ◌∸◌, sum}
use Rattle.numbers.proofs.Fractions.{refl≼, trans≼, add≼, mul≼, either, refl≈, trans≈, add≈}
use Rattle.numbers.proofs.FractionProver.{qv, qn, ◌+'◌, ◌*'◌, q_le, q_eq, le, eq, q_from, q_eqfrom}
use Rattle.numbers.proofs.Subtraction.{less_on, less_least, less_none, less_mono, left_max, max_least, max_mono}

-- how a slice is bounded: by the series at its far end y (1/y, the two certified bounds of e^(-y), the last term taken), or by two heights throughout
pub data Kind : Type 0 where
  series : Frac → Frac → Frac → ℕ → Kind
  level : Frac → Frac → Kind

-- a slice: its far end, its width, its kind
pub record Slice : Type 0 where
  pub far : Frac
  pub width : Frac
  pub kind : Kind

pub data All (P : Slice → Type 0) : List Slice → Type 0 where
  none : All P []
  more : {s : Slice} {ss : List Slice} → P s → All P ss → All P (s ∷ ss)

-- the slices follow one another from x to q
pub data Adjacent : Frac → List Slice → Frac → Type 0 where
  end : {x q : Frac} → x ≈ q → Adjacent x [] q
  next : {x : Frac} {s : Slice} {ss : List Slice} {q : Frac} → x ⊕ s.width ≈ s.far → Adjacent s.far ss q → Adjacent x (s ∷ ss) q

-- what the program adds up
abbrev pub total : (Slice → Frac → Frac) → List Slice → Frac
total F [] = 0F
total F (s ∷ ss) = F s s.width ⊕ total F ss

-- the part of it beyond u: a slice counts from the greater of u and its near end
abbrev pub area : (Slice → Frac → Frac) → List Slice → Frac → Frac
area F [] u = 0F
area F (s ∷ ss) u = F s (s.far ∸ u) ⊕ area F ss (u ⊕ (s.far ∸ u))

-- the greatest of u and all far ends
abbrev pub top : List Slice → Frac → Frac
top [] u = u
top (s ∷ ss) u = top ss (u ⊕ (s.far ∸ u))

pub top_mono : (ss : List Slice) {u v : Frac} → u ≼ v → top ss u ≼ top ss v
top_mono [] h = h
top_mono (s ∷ ss) h = top_mono ss (max_mono s.far h)

pub top_left : (ss : List Slice) (u : Frac) → u ≼ top ss u
top_left [] u = refl≼ u
top_left (s ∷ ss) u = trans≼ (left_max u s.far) (top_left ss (u ⊕ (s.far ∸ u)))

pub covers : {x q : Frac} {ss : List Slice} → Adjacent x ss q → (u : Frac) → x ≼ u → q ≼ top ss u
covers (end e) u h = trans≼ e.from h
covers (next {x} {s} {ss} {q} e r) u h = covers r (u ⊕ (s.far ∸ u)) (less_on s.far u)

pub near_far : {x q : Frac} {ss : List Slice} → Adjacent x ss q → x ≼ q
near_far (end e) = e.to
near_far (next {x} {s} {ss} {q} e r) = trans≼ (q_from (x ∷ s.width ∷ s.far ∷ []) (eq (qn 1) (qn 0) (qv 0 +' qv 1) (qv 2) ∷ []) (qv 0) (qv 2) tt e) (near_far r)

pub top_bound : {x q : Frac} {ss : List Slice} → Adjacent x ss q → (u d : Frac) → u ≼ d → q ≼ d → top ss u ≼ d
top_bound (end e) u d h k = h
top_bound (next {x} {s} {ss} {q} e r) u d h k = top_bound r (u ⊕ (s.far ∸ u)) d (max_least h (trans≼ (near_far r) k)) k

-- Under and over, with a bound H of the heights fixed: area + H·u rises with u where all heights from v on are at most H ..
module _ (F : Slice → Frac → Frac) (Ok : Slice → Type 0) (H v : Frac)
    (step : (s : Slice) → Ok s → (u w : Frac) → v ≼ u → u ≼ w → F s (s.far ∸ u) ⊕ H ⊗ (s.far ∸ w) ≼ F s (s.far ∸ w) ⊕ H ⊗ (s.far ∸ u)) where
  pub glue_under : {ss : List Slice} → All Ok ss → (u w : Frac) → v ≼ u → u ≼ w → area F ss u ⊕ H ⊗ u ≼ area F ss w ⊕ H ⊗ w
  glue_under none u w h k = q_from (H ∷ u ∷ w ∷ []) (le (qv 0) (qv 1) (qv 2) ∷ []) (qn 0 +' qv 0 *' qv 1) (qn 0 +' qv 0 *' qv 2) tt k
  glue_under (more {s} {ss} o os) u w h k = q_from (H ∷ u ∷ w ∷ (s.far ∸ u) ∷ (s.far ∸ w) ∷ F s (s.far ∸ u) ∷ F s (s.far ∸ w) ∷ area F ss (u ⊕ (s.far ∸ u)) ∷ area F ss (w ⊕ (s.far ∸ w)) ∷ [])
      (le (qn 1) (qv 5 +' qv 0 *' qv 4) (qv 6 +' qv 0 *' qv 3) ∷ le (qn 1) (qv 7 +' qv 0 *' (qv 1 +' qv 3)) (qv 8 +' qv 0 *' (qv 2 +' qv 4)) ∷ [])
      (qv 5 +' qv 7 +' qv 0 *' qv 1) (qv 6 +' qv 8 +' qv 0 *' qv 2) tt
      (step s o u w h k) (glue_under os (u ⊕ (s.far ∸ u)) (w ⊕ (s.far ∸ w)) (trans≼ h (left_max u s.far)) (max_mono s.far k))

-- each slice keeps Ok from its near end, x being that of the first
pub data Chain (Ok : Frac → Slice → Type 0) : Frac → List Slice → Type 0 where
  done : {x : Frac} → Chain Ok x []
  link : {x : Frac} {s : Slice} {ss : List Slice} → Ok x s → Chain Ok (x ⊕ (s.far ∸ x)) ss → Chain Ok x (s ∷ ss)

-- area falls as u rises
module _ (F : Slice → Frac → Frac) (rises : (s : Slice) (a b : Frac) → a ≼ b → F s a ≼ F s b) where
  pub area_falls : (ss : List Slice) {u w : Frac} → u ≼ w → area F ss w ≼ area F ss u
  area_falls [] h = refl≼ 0F
  area_falls (s ∷ ss) {u} {w} h = add≼ (rises s (s.far ∸ w) (s.far ∸ u) (less_mono s.far h)) (area_falls ss (max_mono s.far h))

  -- .. and falls where all heights up to v are at least H, the slices reaching v
  module _ (Ok : Frac → Slice → Type 0) (H v : Frac)
      (step : (x : Frac) (s : Slice) → Ok x s → (u w : Frac) → x ≼ u → u ≼ w → w ≼ v → F s (s.far ∸ w) ⊕ H ⊗ (s.far ∸ u) ≼ F s (s.far ∸ u) ⊕ H ⊗ (s.far ∸ w)) where
    pub glue_over : {x : Frac} {ss : List Slice} → Chain Ok x ss → (u w : Frac) → x ≼ u → u ≼ w → (w ≼ v) ⊎ (w ≼ u) → v ≼ top ss u → area F ss w ⊕ H ⊗ w ≼ area F ss u ⊕ H ⊗ u
    glue_over done u w h k d t = go d
      where
        go : (w ≼ v) ⊎ (w ≼ u) → 0F ⊕ H ⊗ w ≼ 0F ⊕ H ⊗ u
        go (inl d) = add≼ (refl≼ 0F) (mul≼ (refl≼ H) (trans≼ d t))
        go (inr d) = add≼ (refl≼ 0F) (mul≼ (refl≼ H) d)
    glue_over (link {x} {s} {ss} o os) u w h k d t = go d (λ e. glue_over os (u ⊕ (s.far ∸ u)) (w ⊕ (s.far ∸ w)) (max_mono s.far h) (max_mono s.far k) e t)
      where
        where_now : w ≼ v → s.far ≼ v ⊎ v ≼ s.far → (w ⊕ (s.far ∸ w) ≼ v) ⊎ (w ⊕ (s.far ∸ w) ≼ u ⊕ (s.far ∸ u))
        where_now d (inl f) = inl (max_least d f)
        where_now d (inr f) = inr (trans≼ (max_least (trans≼ d f) (refl≼ s.far)) (less_on s.far u))

        go : (w ≼ v) ⊎ (w ≼ u) → ((w ⊕ (s.far ∸ w) ≼ v) ⊎ (w ⊕ (s.far ∸ w) ≼ u ⊕ (s.far ∸ u)) → area F ss (w ⊕ (s.far ∸ w)) ⊕ H ⊗ (w ⊕ (s.far ∸ w)) ≼ area F ss (u ⊕ (s.far ∸ u)) ⊕ H ⊗ (u ⊕ (s.far ∸ u)))
            → area F (s ∷ ss) w ⊕ H ⊗ w ≼ area F (s ∷ ss) u ⊕ H ⊗ u
        go (inr d) rest = add≼ (area_falls (s ∷ ss) k) (mul≼ (refl≼ H) d)
        go (inl d) rest = q_from (H ∷ u ∷ w ∷ (s.far ∸ u) ∷ (s.far ∸ w) ∷ F s (s.far ∸ u) ∷ F s (s.far ∸ w) ∷ area F ss (u ⊕ (s.far ∸ u)) ∷ area F ss (w ⊕ (s.far ∸ w)) ∷ [])
            (le (qn 1) (qv 6 +' qv 0 *' qv 3) (qv 5 +' qv 0 *' qv 4) ∷ le (qn 1) (qv 8 +' qv 0 *' (qv 2 +' qv 4)) (qv 7 +' qv 0 *' (qv 1 +' qv 3)) ∷ [])
            (qv 6 +' qv 8 +' qv 0 *' qv 2) (qv 5 +' qv 7 +' qv 0 *' qv 1) tt
            (step x s o u w h k d) (rest (where_now d (either s.far v)))

-- the area from the near end on is the program's total
pub rest_in : {x w y u : Frac} → x ⊕ w ≈ y → x ≼ u → y ∸ u ≼ w
rest_in {x} {w} {y} {u} e h = less_least y u w (trans≼ e.from (add≼ h (refl≼ w)))

rest_all : {x w y u : Frac} → x ⊕ w ≈ y → u ≼ x → w ≼ y ∸ u
rest_all {x} {w} {y} {u} e h = q_from (x ∷ w ∷ y ∷ u ∷ (y ∸ u) ∷ []) (eq (qn 1) (qn 0) (qv 0 +' qv 1) (qv 2) ∷ le (qn 1) (qv 2) (qv 3 +' qv 4) ∷ le (qn 1) (qv 3) (qv 0) ∷ []) (qv 1) (qv 4) tt e (less_on y u) h

module _ (F : Slice → Frac → Frac) (rises : (s : Slice) (a b : Frac) → a ≼ b → F s a ≼ F s b) where
  pub total_area : {x q : Frac} {ss : List Slice} → Adjacent x ss q → (u : Frac) → u ≼ x → total F ss ≼ area F ss u
  total_area (end e) u h = refl≼ 0F
  total_area (next {x} {s} {ss} {q} e r) u h = add≼ (rises s s.width (s.far ∸ u) (rest_all e h)) (total_area r (u ⊕ (s.far ∸ u)) (max_least (trans≼ h (before e)) (refl≼ s.far)))
    where
      before : x ⊕ s.width ≈ s.far → x ≼ s.far
      before e = q_from (x ∷ s.width ∷ s.far ∷ []) (eq (qn 1) (qn 0) (qv 0 +' qv 1) (qv 2) ∷ []) (qv 0) (qv 2) tt e

  pub area_total : {x q : Frac} {ss : List Slice} → Adjacent x ss q → (u : Frac) → x ≼ u → area F ss u ≼ total F ss
  area_total (end e) u h = refl≼ 0F
  area_total (next {x} {s} {ss} {q} e r) u h = add≼ (rises s (s.far ∸ u) s.width (rest_in e h)) (area_total r (u ⊕ (s.far ∸ u)) (less_on s.far u))

-- nothing lies beyond the last far end
pub area_none : (F : Slice → Frac → Frac) → ((s : Slice) (a : Frac) → a ≼ 0F → F s a ≼ 0F) → (ss : List Slice) (u : Frac) → top ss u ≼ u → area F ss u ≼ 0F
area_none F z [] u h = refl≼ 0F
area_none F z (s ∷ ss) u h = trans≼ (add≼ (z s (s.far ∸ u) (less_none (trans≼ (less_on s.far u) (trans≼ (top_left ss (u ⊕ (s.far ∸ u))) h)))) (area_none F z ss (u ⊕ (s.far ∸ u)) (trans≼ h (left_max u s.far)))) (q_le [] (qn 0 +' qn 0) (qn 0) tt)

-- ---- telescoping
pub tele_under : (b H : ℕ → Frac) (δ : Frac) (n : ℕ) → ((i : ℕ) → i < n → b i ≼ b (suc i) ⊕ δ ⊗ H i) → b 0 ≼ δ ⊗ sum H n ⊕ b n
tele_under b H δ zero h = q_le (b 0 ∷ δ ∷ []) (qv 0) (qv 1 *' qn 0 +' qv 0) tt
tele_under b H δ (suc n) h = q_from (b 0 ∷ δ ∷ sum H n ∷ b n ∷ b (suc n) ∷ H n ∷ [])
    (le (qn 1) (qv 0) (qv 1 *' qv 2 +' qv 3) ∷ le (qn 1) (qv 3) (qv 4 +' qv 1 *' qv 5) ∷ []) (qv 0) (qv 1 *' (qv 2 +' qv 5) +' qv 4) tt
    (tele_under b H δ n (λ i p. h i (omega arith))) (h n (omega arith))

pub tele_over : (b H : ℕ → Frac) (δ : Frac) (n : ℕ) → ((i : ℕ) → i < n → b (suc i) ⊕ δ ⊗ H i ≼ b i) → δ ⊗ sum H n ⊕ b n ≼ b 0
tele_over b H δ zero h = q_le (b 0 ∷ δ ∷ []) (qv 1 *' qn 0 +' qv 0) (qv 0) tt
tele_over b H δ (suc n) h = q_from (b 0 ∷ δ ∷ sum H n ∷ b n ∷ b (suc n) ∷ H n ∷ [])
    (le (qn 1) (qv 1 *' qv 2 +' qv 3) (qv 0) ∷ le (qn 1) (qv 4 +' qv 1 *' qv 5) (qv 3) ∷ []) (qv 1 *' (qv 2 +' qv 5) +' qv 4) (qv 0) tt
    (tele_over b H δ n (λ i p. h i (omega arith))) (h n (omega arith))

-- ---- one list after another
pub from_same : {a b q : Frac} {ss : List Slice} → a ≈ b → Adjacent b ss q → Adjacent a ss q
from_same h (end e) = end (trans≈ h e)
from_same h (next {x} {s} {ss} {q} e r) = next (trans≈ (add≈ h (refl≈ s.width)) e) r

pub to_same : {a b q : Frac} {ss : List Slice} → Adjacent a ss b → b ≈ q → Adjacent a ss q
to_same (end e) h = end (trans≈ e h)
to_same (next e r) h = next e (to_same r h)

pub adjacent_both : {a x q : Frac} {ss ts : List Slice} → Adjacent a ss x → Adjacent x ts q → Adjacent a (ss ++ ts) q
adjacent_both (end e) r = from_same e r
adjacent_both (next e s) r = next e (adjacent_both s r)

pub all_both : {P : Slice → Type 0} {ss ts : List Slice} → All P ss → All P ts → All P (ss ++ ts)
all_both none r = r
all_both (more o s) r = more o (all_both s r)

pub total_both : (F : Slice → Frac → Frac) (ss ts : List Slice) → total F (ss ++ ts) ≈ total F ss ⊕ total F ts
total_both F [] ts = q_eq (total F ts ∷ []) (qv 0) (qn 0 +' qv 0) tt tt
total_both F (s ∷ ss) ts = q_eqfrom (F s s.width ∷ total F (ss ++ ts) ∷ total F ss ∷ total F ts ∷ []) (eq (qn 1) (qn 0) (qv 1) (qv 2 +' qv 3) ∷ []) (qv 0 +' qv 1) (qv 0 +' qv 2 +' qv 3) tt tt (total_both F ss ts)
