-- The sums of the slices' bounds against the fractions of J, at every order: the lower total is at most every upper fraction, the upper total at
-- least every lower one.
use Prim.Native.Nat.{ℕ, suc, ◌<◌}
use mathlib.Core.List.{List, [], ◌∷◌}
use mathlib.Core.Logic.{◌⊎◌, inl, inr}
use native.Mathlib.Omega.{arith}
use Rattle.numbers.specs.Fraction.{Frac, ◌≼◌, ◌≈◌, ◌per◌, 0F, 1F, ◌⊕◌, ◌⊗◌, ◌÷◌, ◌∸◌, sum}
use Rattle.numbers.proofs.Fractions.{refl≼, trans≼, add≼, mul≼, either, ≼÷, ÷≼of}
use Rattle.numbers.proofs.FractionProver.{qv, qn, ◌+'◌, ◌*'◌, q_le, le, eq, q_from}
use Rattle.numbers.proofs.Subtraction.{less_on, less_least, less_exact, less_none, less_mono, rearrange}
use Rattle.exact.specs.Exponential.{exp_low, exp_high}
use Rattle.exact.specs.Cutting.{cut_at, left_sum, right_sum, integral_high, integral_low}
use Rattle.exact.proofs.Cutting.{cut_above, cut_start, cut_end, cut_next, cut_up, cut_first, cut_last}
use Rattle.exact.proofs.Certified.{Below, Above, below_high, above_low, below_mono, above_mono}
use Rattle.exact.proofs.SliceSeries.{slice_sum, slice_sum_over, slice_area, slice_area_over, Short, exponent≼, below_at, above_at, area_tangent, area_over_tangent, area≼, area_over≼, short_mono, area_zero}
use Rattle.exact.proofs.Slices.{Kind, series, level, Slice, All, none, more, Adjacent, end, next, total, area, covers, top_bound, glue_under, Chain, done, link, glue_over, total_area, area_total, area_none, tele_under, tele_over}

-- the two areas of a slice over its last ζ
abbrev pub kind_low : (Frac → Frac) → Kind → Frac → Frac
kind_low X (series r L U k) ζ = L ⊗ r ⊗ slice_area X r ζ k
kind_low X (level l h) ζ = l ⊗ ζ

abbrev pub kind_high : (Frac → Frac) → Kind → Frac → Frac
kind_high X (series r L U k) ζ = U ⊗ r ⊗ slice_area_over X r ζ k
kind_high X (level l h) ζ = h ⊗ ζ

abbrev pub low_area : (Frac → Frac) → Slice → Frac → Frac
low_area X s ζ = kind_low X s.kind ζ

abbrev pub high_area : (Frac → Frac) → Slice → Frac → Frac
high_area X s ζ = kind_high X s.kind ζ

-- what a slice of a lower total must keep: a level is at most the height at its far end ..
pub data LowerKind (X : Frac → Frac) (far : Frac) : Kind → Type 0 where
  series_low : {r L U : Frac} {k : ℕ} → r ⊗ far ≈ 1F → Below L (X far) → LowerKind X far (series r L U k)
  level_low : {l h : Frac} → Below (l ⊗ far) (X far) → LowerKind X far (level l h)

-- .. and of an upper total: a level is at least the height at its near end
pub data UpperKind (X : Frac → Frac) (far width : Frac) : Kind → Type 0 where
  series_high : {r L U : Frac} {k : ℕ} → r ⊗ far ≈ 1F → Above U (X far) → Short X far width k → UpperKind X far width (series r L U k)
  level_high : {l h : Frac} (near : Frac) → near ⊕ width ≼ far → Above (h ⊗ near) (X near) → UpperKind X far width (level l h)

abbrev pub Lower : (Frac → Frac) → Slice → Type 0
Lower X s = LowerKind X s.far s.kind

abbrev pub Upper : (Frac → Frac) → Slice → Type 0
Upper X s = UpperKind X s.far s.width s.kind

-- the fractions of the integral of e^(−X u)/u: those of J for X u = u, and at least as wide as those of ln for X u = 0
abbrev pub slice_low : (Frac → Frac) → Frac → Frac → ℕ → Frac
slice_low X p w n = right_sum (λ u. exp_low (X u) n ÷ u) p w n

abbrev pub slice_high : (Frac → Frac) → Frac → Frac → ℕ → Frac
slice_high X p w n = left_sum (λ u. exp_high (X u) n ÷ u) p w n

module _ (τ : Frac) (X : Frac → Frac) (hom : (a : Frac) → X a ≈ τ ⊗ a) where
  -- ---- one slice between two places: the first at distance a from the far end, the second at distance b
  under_kind : (v : Frac) (zv : 0 < v.num) (n : ℕ) (far a b : Frac) {κ : Kind} → LowerKind X far κ → b ≼ a → (v ⊕ a ≼ far) ⊎ (a ≼ 0F)
      → kind_low X κ a ⊕ (exp_high (X v) n ÷ v) ⊗ b ≼ kind_low X κ b ⊕ (exp_high (X v) n ÷ v) ⊗ a
  under_kind v zv n far a b (series_low {r} {L} {U} {k} e o) d (inl f) = q_from (L ∷ r ∷ slice_area X r a k ∷ slice_area X r b k ∷ slice_sum X r a k ∷ (exp_high (X v) n ÷ v) ∷ a ∷ b ∷ [])
      (le (qv 0 *' qv 1) (qv 2 +' qv 4 *' qv 7) (qv 3 +' qv 4 *' qv 6) ∷ le (qn 1) (qv 0 *' qv 4 *' qv 1 *' qv 6 +' qv 5 *' qv 7) (qv 0 *' qv 4 *' qv 1 *' qv 7 +' qv 5 *' qv 6) ∷ [])
      (qv 0 *' qv 1 *' qv 2 +' qv 5 *' qv 7) (qv 0 *' qv 1 *' qv 3 +' qv 5 *' qv 6) tt
      (area_tangent τ X hom r a b k)
      (rearrange {h = L ⊗ slice_sum X r a k ⊗ r} {H = (exp_high (X v) n ÷ v)} {b = b} {a = a} (≼÷ (L ⊗ slice_sum X r a k ⊗ r) v (exp_high (X v) n) zv (below_high (below_at τ X hom r far v a L k e f o) n)) d)
  under_kind v zv n far a b (series_low {r} {L} {U} {k} e o) d (inr f) = q_from (L ∷ r ∷ slice_area X r a k ∷ slice_area X r b k ∷ (exp_high (X v) n ÷ v) ∷ a ∷ b ∷ [])
      (le (qv 0 *' qv 1) (qv 2) (qn 0) ∷ le (qv 4) (qv 6) (qv 5) ∷ [])
      (qv 0 *' qv 1 *' qv 2 +' qv 4 *' qv 6) (qv 0 *' qv 1 *' qv 3 +' qv 4 *' qv 5) tt
      (area_zero X r a k f) d
  under_kind v zv n far a b (level_low {l = h} o) d (inl f) = trans≼ (rearrange {h = h} {H = (exp_high (X v) n ÷ v)} {b = b} {a = a} (≼÷ h v (exp_high (X v) n) zv (below_high (below_mono (mul≼ (refl≼ h) (before f)) (exponent≼ τ X hom (before f)) o) n)) d) (refl≼ _)
    where
      before : v ⊕ a ≼ far → v ≼ far
      before f = trans≼ (q_le (v ∷ a ∷ []) (qv 0) (qv 0 +' qv 1) tt) f
  under_kind v zv n far a b (level_low {l = h} o) d (inr f) = q_from (h ∷ (exp_high (X v) n ÷ v) ∷ a ∷ b ∷ []) (le (qv 0) (qv 2) (qn 0) ∷ le (qv 1) (qv 3) (qv 2) ∷ []) (qv 0 *' qv 2 +' qv 1 *' qv 3) (qv 0 *' qv 3 +' qv 1 *' qv 2) tt f d

  step_under : (v : Frac) (zv : 0 < v.num) (n : ℕ) (s : Slice) → Lower X s → (u w : Frac) → v ≼ u → u ≼ w
      → low_area X s (s.far ∸ u) ⊕ (exp_high (X v) n ÷ v) ⊗ (s.far ∸ w) ≼ low_area X s (s.far ∸ w) ⊕ (exp_high (X v) n ÷ v) ⊗ (s.far ∸ u)
  step_under v zv n s o u w h k = under_kind v zv n s.far (s.far ∸ u) (s.far ∸ w) o (less_mono s.far k) (go (either u s.far))
    where
      go : u ≼ s.far ⊎ s.far ≼ u → (v ⊕ (s.far ∸ u) ≼ s.far) ⊎ (s.far ∸ u ≼ 0F)
      go (inl f) = inl (trans≼ (add≼ h (refl≼ (s.far ∸ u))) (less_exact f))
      go (inr f) = inr (less_none f)

  over_kind : (v : Frac) (zv : 0 < v.num) (n : ℕ) (far width x a b : Frac) {κ : Kind} → UpperKind X far width κ → far ≼ x ⊕ width → x ≼ v → b ≼ width → b ≼ a → far ≼ v ⊕ b
      → kind_high X κ b ⊕ (exp_low (X v) n ÷ v) ⊗ a ≼ kind_high X κ a ⊕ (exp_low (X v) n ÷ v) ⊗ b
  over_kind v zv n far width x a b (series_high {r} {L} {U} {k} e o s) m i j d f = q_from (U ∷ r ∷ slice_area_over X r a k ∷ slice_area_over X r b k ∷ slice_sum_over X r b k ∷ (exp_low (X v) n ÷ v) ∷ a ∷ b ∷ [])
      (le (qv 0 *' qv 1) (qv 3 +' qv 4 *' qv 6) (qv 2 +' qv 4 *' qv 7) ∷ le (qn 1) (qv 5 *' qv 6 +' qv 0 *' qv 4 *' qv 1 *' qv 7) (qv 5 *' qv 7 +' qv 0 *' qv 4 *' qv 1 *' qv 6) ∷ [])
      (qv 0 *' qv 1 *' qv 3 +' qv 5 *' qv 6) (qv 0 *' qv 1 *' qv 2 +' qv 5 *' qv 7) tt
      (area_over_tangent τ X hom r b a k)
      (rearrange {h = (exp_low (X v) n ÷ v)} {H = U ⊗ slice_sum_over X r b k ⊗ r} {b = b} {a = a} (÷≼of (U ⊗ slice_sum_over X r b k ⊗ r) v (exp_low (X v) n) zv (above_low (above_at τ X hom r far v b U k e f (short_mono τ X hom j s) o) n)) d)
  over_kind v zv n far width x a b (level_high {h = h} near g o) m i j d f = q_from (h ∷ (exp_low (X v) n ÷ v) ∷ a ∷ b ∷ []) (le (qn 1) (qv 1 *' qv 2 +' qv 0 *' qv 3) (qv 1 *' qv 3 +' qv 0 *' qv 2) ∷ []) (qv 0 *' qv 3 +' qv 1 *' qv 2) (qv 0 *' qv 2 +' qv 1 *' qv 3) tt
      (rearrange {h = (exp_low (X v) n ÷ v)} {H = h} {b = b} {a = a} (÷≼of h v (exp_low (X v) n) zv (above_low (above_mono (mul≼ (refl≼ h) after) (exponent≼ τ X hom after) o) n)) d)
    where
      after : near ≼ v
      after = q_from (near ∷ width ∷ far ∷ x ∷ v ∷ []) (le (qn 1) (qv 0 +' qv 1) (qv 2) ∷ le (qn 1) (qv 2) (qv 3 +' qv 1) ∷ le (qn 1) (qv 3) (qv 4) ∷ []) (qv 0) (qv 4) tt g m i

  -- a slice whose near end is at most x
  pub record From (x : Frac) (s : Slice) : Type 0 where
    pub near : s.far ≼ x ⊕ s.width
    pub upper : Upper X s

  step_over : (v : Frac) (zv : 0 < v.num) (n : ℕ) (x : Frac) (s : Slice) → From x s → (u w : Frac) → x ≼ u → u ≼ w → w ≼ v
      → high_area X s (s.far ∸ w) ⊕ (exp_low (X v) n ÷ v) ⊗ (s.far ∸ u) ≼ high_area X s (s.far ∸ u) ⊕ (exp_low (X v) n ÷ v) ⊗ (s.far ∸ w)
  step_over v zv n x s o u w h k d = over_kind v zv n s.far s.width x (s.far ∸ u) (s.far ∸ w) o.upper o.near (trans≼ h (trans≼ k d))
      (less_least s.far w s.width (trans≼ o.near (add≼ (trans≼ h k) (refl≼ s.width)))) (less_mono s.far k) (trans≼ (less_on s.far w) (add≼ d (refl≼ (s.far ∸ w))))

  low_rises : (κ : Kind) {a b : Frac} → a ≼ b → kind_low X κ a ≼ kind_low X κ b
  low_rises (series r L U k) h = mul≼ (refl≼ (L ⊗ r)) (area≼ τ X hom r k h)
  low_rises (level l t) h = mul≼ (refl≼ l) h

  high_rises : (κ : Kind) {a b : Frac} → a ≼ b → kind_high X κ a ≼ kind_high X κ b
  high_rises (series r L U k) h = mul≼ (refl≼ (U ⊗ r)) (area_over≼ τ X hom r k h)
  high_rises (level l t) h = mul≼ (refl≼ t) h

  low_none : (κ : Kind) (a : Frac) → a ≼ 0F → kind_low X κ a ≼ 0F
  low_none (series r L U k) a h = q_from (L ∷ r ∷ slice_area X r a k ∷ []) (le (qv 0 *' qv 1) (qv 2) (qn 0) ∷ []) (qv 0 *' qv 1 *' qv 2) (qn 0) tt (area_zero X r a k h)
  low_none (level t u) a h = q_from (t ∷ a ∷ []) (le (qv 0) (qv 1) (qn 0) ∷ []) (qv 0 *' qv 1) (qn 0) tt h

  low_area_rises : (s : Slice) (a b : Frac) → a ≼ b → low_area X s a ≼ low_area X s b
  low_area_rises s a b h = low_rises s.kind h

  high_area_rises : (s : Slice) (a b : Frac) → a ≼ b → high_area X s a ≼ high_area X s b
  high_area_rises s a b h = high_rises s.kind h

  low_area_none : (s : Slice) (a : Frac) → a ≼ 0F → low_area X s a ≼ 0F
  low_area_none s a h = low_none s.kind a h

  chain_of_lem : {x q : Frac} {ss : List Slice} → Adjacent x ss q → All (Upper X) ss → (u : Frac) → x ≼ u → Chain From u ss
  chain_of_lem (end e) none u h = done
  chain_of_lem (next {x} {s} {ss} {q} e r) (more o os) u h = link (record { near = trans≼ e.from (add≼ h (refl≼ s.width)); upper = o }) (chain_of_lem r os (u ⊕ (s.far ∸ u)) (less_on s.far u))

  -- the slices may begin before p and end beyond p + w
  module _ (p w : Frac) (zp : 0 < p.num) (n : ℕ) (z : 0 < n) where
    abbrev pu : ℕ → Frac
    pu i = cut_at p w i n

    zu : (i : ℕ) → 0 < (pu i).num
    zu i = cut_above p w i n zp

    pub over_in : {x q : Frac} {ss : List Slice} → Adjacent x ss q → x ≼ p → p ⊕ w ≼ q → All (Upper X) ss → slice_low X p w n ≼ total (high_area X) ss
    over_in {x} {q} {ss} adj hx hq os = q_from (total (high_area X) ss ∷ b 0 ∷ b n ∷ w ∷ (1 per n) ∷ sum H n ∷ [])
        (le (qn 1) (qv 1) (qv 0) ∷ le (qn 1) (qv 3 *' qv 4 *' qv 5 +' qv 2) (qv 1) ∷ []) (qv 3 *' qv 4 *' qv 5) (qv 0) tt
        (area_total (high_area X) high_area_rises adj (pu 0) (begins 0)) (tele_over b H (w ⊗ (1 per n)) n each)
      where
        begins : (i : ℕ) → x ≼ pu i
        begins i = trans≼ hx (cut_start p w i n)

        b : ℕ → Frac
        b i = area (high_area X) ss (pu i)

        H : ℕ → Frac
        H i = (exp_low (X (pu (suc i))) n ÷ pu (suc i))

        each : (i : ℕ) → i < n → b (suc i) ⊕ w ⊗ (1 per n) ⊗ H i ≼ b i
        each i l = q_from (b i ∷ b (suc i) ∷ w ∷ (1 per n) ∷ H i ∷ pu i ∷ pu (suc i) ∷ [])
            (le (qn 1) (qv 1 +' qv 4 *' qv 6) (qv 0 +' qv 4 *' qv 5) ∷ eq (qn 0) (qv 4) (qv 6) (qv 5 +' qv 2 *' qv 3) ∷ []) (qv 1 +' qv 2 *' qv 3 *' qv 4) (qv 0) tt
            (glue_over (high_area X) high_area_rises From (H i) (pu (suc i)) (step_over (pu (suc i)) (zu (suc i)) n) (chain_of_lem adj os x (refl≼ x)) (pu i) (pu (suc i)) (begins i) (cut_up p w i n)
            (inl (refl≼ (pu (suc i)))) (trans≼ (cut_end p w (suc i) n z l) (trans≼ hq (covers adj (pu i) (begins i))))) (cut_next p w i n)

  module _ (p w : Frac) (zp : 0 < p.num) (ss : List Slice) (adj : Adjacent p ss (p ⊕ w)) (n : ℕ) (z : 0 < n) where
    abbrev pl : ℕ → Frac
    pl i = cut_at p w i n

    za : (i : ℕ) → 0 < (pl i).num
    za i = cut_above p w i n zp

    pub total_under : All (Lower X) ss → total (low_area X) ss ≼ slice_high X p w n
    total_under os = q_from (total (low_area X) ss ∷ b 0 ∷ b n ∷ w ∷ (1 per n) ∷ sum H n ∷ [])
        (le (qn 1) (qv 0) (qv 1) ∷ le (qn 1) (qv 1) (qv 3 *' qv 4 *' qv 5 +' qv 2) ∷ le (qn 1) (qv 2) (qn 0) ∷ []) (qv 0) (qv 3 *' qv 4 *' qv 5) tt
        (total_area (low_area X) low_area_rises adj (pl 0) (cut_first p w n)) (tele_under b H (w ⊗ (1 per n)) n each)
        (area_none (low_area X) low_area_none ss (pl n) (top_bound adj (pl n) (pl n) (refl≼ (pl n)) (cut_last p w n z)))
      where
        b : ℕ → Frac
        b i = area (low_area X) ss (pl i)

        H : ℕ → Frac
        H i = exp_high (X (pl i)) n ÷ pl i

        each : (i : ℕ) → i < n → b i ≼ b (suc i) ⊕ w ⊗ (1 per n) ⊗ H i
        each i l = q_from (b i ∷ b (suc i) ∷ w ∷ (1 per n) ∷ H i ∷ pl i ∷ pl (suc i) ∷ [])
            (le (qn 1) (qv 0 +' qv 4 *' qv 5) (qv 1 +' qv 4 *' qv 6) ∷ eq (qv 4) (qn 0) (qv 6) (qv 5 +' qv 2 *' qv 3) ∷ []) (qv 0) (qv 1 +' qv 2 *' qv 3 *' qv 4) tt
            (glue_under (low_area X) (Lower X) (H i) (pl i) (step_under (pl i) (za i) n) os (pl i) (pl (suc i)) (refl≼ (pl i)) (cut_up p w i n)) (cut_next p w i n)

    pub total_over : All (Upper X) ss → slice_low X p w n ≼ total (high_area X) ss
    total_over os = over_in p w zp n z adj (refl≼ p) (refl≼ (p ⊕ w)) os

-- ---- J
pub heat_linear : (a : Frac) → a ≈ 1F ⊗ a
heat_linear a = omega arith

abbrev pub heat_exponent : Frac → Frac
heat_exponent u = u

module _ (p w : Frac) (zp : 0 < p.num) (ss : List Slice) (adj : Adjacent p ss (p ⊕ w)) (n : ℕ) (z : 0 < n) where
  pub integral_under : All (Lower heat_exponent) ss → total (low_area heat_exponent) ss ≼ integral_high p w n
  integral_under os = total_under 1F heat_exponent heat_linear p w zp ss adj n z os

  pub integral_over : All (Upper heat_exponent) ss → integral_low p w n ≼ total (high_area heat_exponent) ss
  integral_over os = total_over 1F heat_exponent heat_linear p w zp ss adj n z os
