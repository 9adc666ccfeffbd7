-- What the sum of the heating integral keeps: a list of exact slices from the place that it has reached to where it began, the running low end at most their lower
-- total, and the running high end at least their upper total with the far slice, or cut off at the logarithm. So it encloses the integral.
use Prim.Native.Nat.{ℕ, ◌+◌, ◌*◌, ◌≤◌, ◌<◌, min}
use mathlib.Core.Path.{◌≡◌, refl}
use mathlib.Core.Bool.{Bool, true, false}
use mathlib.Core.List.{List, [], ◌∷◌}
use mathlib.Core.Logic.{◌⊎◌, inl, inr}
use lib.Dec.{ltb}
use borrow.Author.Tests.{ltb-true, ltb-false}
use native.Mathlib.Nat.{le_of_lt}
use native.Mathlib.Omega.{arith}
use Rattle.numbers.specs.Fraction.{Frac, ◌≼◌, ◌≈◌, ◌per◌, 0F, ◌⊕◌, ◌⊗◌, ◌∸◌}
use Rattle.numbers.specs.Signed.{of_frac}
use Rattle.numbers.proofs.Fractions.{refl≼, trans≼, add≼, mul≼, above, refl≈, sym≈, trans≈, add≈, per_above}
use Rattle.numbers.proofs.FractionProver.{qv, qn, ◌+'◌, q_from, q_le, le, eq}
use Rattle.numbers.proofs.Subtraction.{less_on, less_exact}
use Rattle.bounds.specs.Pair.{Pair, add_p, at_most_p}
use Rattle.exact.specs.Value.{AtLeast, integral, ln}
use Rattle.exact.proofs.Values.{lift, at_least_join}
use Rattle.exact.proofs.Parts.{ln_p}
use Rattle.exact.proofs.Certified.{Above}
use Rattle.exact.proofs.Slices.{Slice, All, more, Adjacent, next, total, near_far, from_same}
use Rattle.exact.proofs.Enclosure.{low_area, high_area, Lower, Upper, heat_exponent}
use Rattle.exact.proofs.SignedParts.{fine_ln, ln_stretch⊴, integral⊴ln_ratio, summed_at_most, summed_at_least, slices_at_least}
use Rattle.model.specs.Scale.{one, exactly}
use Rattle.model.specs.Integral.{Stretch, slice_pair, part_slice, within, joined}
use Rattle.model.specs.Integral as model
use Rattle.model.specs.Encloses.{unit, Encloses}
use Rattle.model.proofs.Enclosure.Units.{unit_add, unit≼}
use Rattle.model.proofs.Enclosure.Places.{per_rises, per_distance, stretched, per_scaled}
use Rattle.model.proofs.Enclosure.Encloses.{most_less, least_more}
use Rattle.model.proofs.Enclosure.Slice.{SliceIn, heat_slice, heat_slice_in}
use Rattle.model.proofs.Parts.{PartCase, whole, cut, nothing, part_case}

some_of : {x y D : ℕ} → model.Slice x y D → 0 < D
some_of c = omega arith

cut_sum : (a b t : ℕ) → unit (min (a + b) t) ≼ unit b ⊕ unit a
cut_sum a b t = omega arith

over_cut : {t a : ℕ} → t ≤ a → (b : ℕ) → t ≤ min (a + b) t
over_cut h b = omega arith

-- from p to q there is one exact slice, whose areas the pair encloses, or nothing
pub data StepIn (p q : Frac) (b : Pair) : Type 0 where
  slice : (z : Slice) → SliceIn heat_exponent b z → p ⊕ z.width ≈ z.far → z.far ≈ q → StepIn p q b
  none : p ≈ q → b ≡ exactly 0 → StepIn p q b

step_same : {p q r t : Frac} {b : Pair} → p ≈ r → q ≈ t → StepIn r t b → StepIn p q b
step_same e f (slice z i g h) = slice z i (trans≈ (add≈ e (refl≈ z.width)) g) (trans≈ h (sym≈ f))
step_same e f (none g h) = none (trans≈ e (trans≈ g (sym≈ f))) h

-- one slice of the model
one_step : {x y D : ℕ} → model.Slice x y D → StepIn (x per D) (y per D) (slice_pair x y D)
one_step {x} {y} {D} c = slice (heat_slice x y D) (heat_slice_in c) (per_distance x y D (some_of c) (le_of_lt c.order)) (refl≈ (y per D))

-- the same, with all distances and the divisor times c
pub scaled_step : (c x y D : ℕ) → 0 < c → model.Slice x y D → StepIn ((c * x) per (c * D)) ((c * y) per (c * D)) (slice_pair x y D)
scaled_step c x y D z s = step_same (per_scaled c x D z (some_of s)) (per_scaled c y D z (some_of s)) (one_step s)

-- what lies between two ends of a slice
pub part_step : (near far x y D : ℕ) (all : Pair) → model.Slice x y D → StepIn (x per D) (y per D) all →
    StepIn (within near far x per D) (within near far y per D) (part_slice near far x y D all)
part_step near far x y D all s t = go (part_case near far x y D all s)
  where
    go : {b : Pair} → PartCase near far x y D all b → StepIn (within near far x per D) (within near far y per D) b
    go (whole e f m) = rw (e, f) t
    go (cut c m) = one_step c
    go (nothing e m) = none (rw e (refl≈ _)) refl

module _ (near far D top : ℕ) (s : Stretch near D) (cap : AtLeast (of_frac (unit top)) (ln (far per near))) where
  abbrev at : ℕ → Frac
  at y = y per D

  near_above : 0 < (at near).num
  near_above = per_above D s.near_some s.diffusion_some

  at_above : {p : Frac} → at near ≼ p → 0 < p.num
  at_above h = above near_above h

  reaches_far : {p : Frac} → at near ≼ p → at far ≼ p ⊗ far per near
  reaches_far h = trans≼ (stretched near near far D s.near_some s.diffusion_some (omega arith)) (mul≼ h (refl≼ (far per near)))

  -- no integral passes the logarithm
  capped : {p : Frac} → at near ≼ p → p ≼ at far → AtLeast (of_frac (unit top)) (integral p (at far))
  capped {p} h l = at_least_join (integral⊴ln_ratio p (at far) (far per near) (at_above h) l (reaches_far h)) (fine_ln (far per near)) cap

  capped_from_near : near ≤ far → AtLeast (of_frac (unit top)) (lift (ln_p (at near) (at far ∸ at near)))
  capped_from_near h = at_least_join (ln_stretch⊴ (at near) (at far ∸ at near) (far per near) near_above (trans≼ (less_exact (per_rises D s.diffusion_some h)) (reaches_far (refl≼ (at near))))) (fine_ln (far per near)) cap

  -- what is added to an upper total for what lies beyond `start`
  pub record FarTerm (start : ℕ) (F : Frac) : Type 0 where
    pub from : near ≤ start
    pub to : start ≤ far
    pub enough : (p : Frac) (ss : List Slice) → at near ≼ p → Adjacent p ss (at start) → All (Upper heat_exponent) ss → AtLeast (of_frac (total (high_area heat_exponent) ss ⊕ F)) (integral p (at far))

  pub far_term : (start : ℕ) (U : Frac) → near ≤ start → start ≤ far → Above U (at start) → FarTerm start (U ⊗ unit top)
  far_term start U h k a = record {
    from = h;
    to = k;
    enough = λ p ss l adj os.
        summed_at_least p (at start) (at far) [] ss (at_above l) adj (per_rises D s.diffusion_some k) os U (at near) (at far ∸ at near) (unit top)
        near_above a (per_rises D s.diffusion_some h) (less_on (at far) (at near)) (capped_from_near (omega arith));
  }

  pub no_far_term : near ≤ far → FarTerm far 0F
  no_far_term h = record {
    from = h;
    to = omega arith;
    enough = λ p ss l adj os.
        least_more (q_le (total (high_area heat_exponent) ss ∷ []) (qv 0) (qv 0 +' qn 0) tt) (slices_at_least p (at far) ss (at_above l) adj os);
  }

  -- ---- after the slices from `start` down to p
  pub record Walked (start : ℕ) (F p : Frac) (sum : Pair) : Type 0 where
    pub slices : List Slice
    pub adjacent : Adjacent p slices (at start)
    pub lowers : All (Lower heat_exponent) slices
    pub uppers : All (Upper heat_exponent) slices
    pub low : unit sum.low ≼ total (low_area heat_exponent) slices
    pub high : (total (high_area heat_exponent) slices ⊕ F ≼ unit sum.high) ⊎ (top ≤ sum.high)

  pub walked_encloses : {start : ℕ} {F p : Frac} {sum : Pair} → FarTerm start F → at near ≼ p → Walked start F p sum → Encloses one sum (integral p (at far))
  walked_encloses {start} {F} {p} {sum} f h w = record {
    low_at_most = most_less w.low (summed_at_most p (at start) (at far) [] w.slices (at_above h) w.adjacent (per_rises D s.diffusion_some f.to) w.lowers);
    high_at_least = go w.high;
  }
    where
      go : (total (high_area heat_exponent) w.slices ⊕ F ≼ unit sum.high) ⊎ (top ≤ sum.high) → AtLeast (of_frac (unit sum.high)) (integral p (at far))
      go (inl k) = least_more k (f.enough p w.slices h w.adjacent w.uppers)
      go (inr k) = least_more (unit≼ k) (capped h (trans≼ (near_far w.adjacent) (per_rises D s.diffusion_some f.to)))

  pub walked_same : {start : ℕ} {F p q : Frac} {sum : Pair} → p ≈ q → Walked start F q sum → Walked start F p sum
  walked_same e w = record { slices = w.slices; adjacent = from_same e w.adjacent; lowers = w.lowers; uppers = w.uppers; low = w.low; high = w.high }

  pub walked_further : {start : ℕ} {F p q : Frac} {b : Pair} (sum : Pair) → StepIn p q b → Walked start F q sum → Walked start F p (joined top sum b)
  unfolding add_p at_most_p
  walked_further {start} {F} {p} {q} {b} sum (none e f) w = walked_same e (rw f (record { slices = w.slices; adjacent = w.adjacent; lowers = w.lowers; uppers = w.uppers; low = trans≼ (unit≼ (lesser sum.low)) w.low; high = go w.high }))
    where
      lesser : (a : ℕ) → min (a + 0) top ≤ a
      lesser a = omega arith

      go : (total (high_area heat_exponent) w.slices ⊕ F ≼ unit sum.high) ⊎ (top ≤ sum.high) → (total (high_area heat_exponent) w.slices ⊕ F ≼ unit (min (sum.high + 0) top)) ⊎ (top ≤ min (sum.high + 0) top)
      go (inr k) = inr (over_cut k 0)
      go (inl k) = cut sum.high k (ltb sum.high top) refl
        where
          cut : (h : ℕ) → total (high_area heat_exponent) w.slices ⊕ F ≼ unit h → (c : Bool) → ltb h top ≡ c → (total (high_area heat_exponent) w.slices ⊕ F ≼ unit (min (h + 0) top)) ⊎ (top ≤ min (h + 0) top)
          cut h u true e = let l = ltb-true h top e in let m : min (h + 0) top ≡ h = omega arith in inl (rw m u)
          cut h u false e = let l = ltb-false h top e in inr (omega arith)
  walked_further {start} {F} {p} {q} {b} sum (slice z i e f) w =
      record {
        slices = z ∷ w.slices;
        adjacent = next {s = z} e (from_same f w.adjacent);
        lowers = more i.lower w.lowers;
        uppers = more i.upper w.uppers;
        low = trans≼ (cut_sum sum.low b.low top) (add≼ i.low w.low);
        high = go w.high;
      }
    where
      here : Frac
      here = high_area heat_exponent z z.width

      rest : Frac
      rest = total (high_area heat_exponent) w.slices

      go : (rest ⊕ F ≼ unit sum.high) ⊎ (top ≤ sum.high) → (here ⊕ rest ⊕ F ≼ unit (min (sum.high + b.high) top)) ⊎ (top ≤ min (sum.high + b.high) top)
      go (inr k) = inr (over_cut k b.high)
      go (inl k) = cut (sum.high + b.high) (unit_add sum.high b.high) (ltb (sum.high + b.high) top) refl
        where
          cut : (h : ℕ) → unit h ≈ unit sum.high ⊕ unit b.high → (c : Bool) → ltb h top ≡ c → (here ⊕ rest ⊕ F ≼ unit (min h top)) ⊎ (top ≤ min h top)
          cut h u true e =
              let l = ltb-true h top e in
              let m : min h top ≡ h = omega arith in
              inl (rw m (q_from (unit h ∷ here ∷ rest ∷ F ∷ unit sum.high ∷ unit b.high ∷ [])
              (le (qn 1) (qv 1) (qv 5) ∷ le (qn 1) (qv 2 +' qv 3) (qv 4) ∷ eq (qn 0) (qn 1) (qv 0) (qv 4 +' qv 5) ∷ []) (qv 1 +' qv 2 +' qv 3) (qv 0) tt
              i.high k u))
          cut h u false e = let l = ltb-false h top e in inr (omega arith)
