-- The larger of two exact values and the largest of many. It never crosses and is fine where its parts are; what is at least each is at least the largest, and
-- what is at most one is at most the largest.
use Prim.Native.Nat.{ℕ, zero, suc, ◌+◌, ◌<◌}
use native.Mathlib.Omega.{arith}
use lib.Dec.{T}
use borrow.Author.Count.{below_more}
use Rattle.numbers.specs.Signed.{Signed, ◌≼ₛ◌, of_frac, add_s, max_s}
use Rattle.numbers.proofs.SignedFractions.{refl≼ₛ, trans≼ₛ, add≼ₛ, max_left, max_right, max_is}
use Rattle.exact.specs.Value.{Value, AtMost, AtLeast, ◌⊴◌, Fine, ◌⊔ᵥ◌, largestᵥ}
use Rattle.exact.proofs.Plain.{and_0, and_1, both}

-- ---- of two
pub max⊴ : {x x' y y' : Value} → x ⊴ x' → y ⊴ y' → (x ⊔ᵥ y) ⊴ (x' ⊔ᵥ y')
max⊴ {x} {x'} {y} {y'} h k = record {
  apart = λ n m s t. max_is (λ a. a ≼ₛ max_s (x'.high m) (y'.high m)) (x.low n) (y.low n)
      (trans≼ₛ (h.apart n m (and_0 (x.ok n) (y.ok n) s) (and_0 (x'.ok m) (y'.ok m) t)) (max_left (x'.high m) (y'.high m)))
      (trans≼ₛ (k.apart n m (and_1 (x.ok n) (y.ok n) s) (and_1 (x'.ok m) (y'.ok m) t)) (max_right (x'.high m) (y'.high m)));
}

pub fine_max : {x y : Value} → Fine x → Fine y → Fine (x ⊔ᵥ y)
fine_max {x} {y} f g = record {
  order = λ e z. f.order e z + g.order e z;
  bounds = λ e z n h. both (x.ok n) (y.ok n) (f.bounds e z n (omega arith)) (g.bounds e z n (omega arith));
  gap = λ e z n h. max_is (λ a. a ≼ₛ add_s (max_s (x.low n) (y.low n)) (of_frac e)) (x.high n) (y.high n)
      (trans≼ₛ (f.gap e z n (omega arith)) (add≼ₛ (max_left (x.low n) (y.low n)) (refl≼ₛ (of_frac e))))
      (trans≼ₛ (g.gap e z n (omega arith)) (add≼ₛ (max_right (x.low n) (y.low n)) (refl≼ₛ (of_frac e))));
}

pub least_max : {a : Signed} {x y : Value} → AtLeast a x → AtLeast a y → AtLeast a (x ⊔ᵥ y)
least_max {a} {x} {y} h k = record { least = λ n t. max_is (λ b. b ≼ₛ a) (x.low n) (y.low n) (h.least n (and_0 (x.ok n) (y.ok n) t)) (k.least n (and_1 (x.ok n) (y.ok n) t)) }

-- ---- of many
module _ (f : ℕ → Value) where
  -- each gives bounds where the largest does, and its upper fraction is not above that of the largest
  pub record Within (n h o : ℕ) : Type 0 where
    pub ok : T ((f h).ok o)
    pub under : (f h).high o ≼ₛ (largestᵥ f n).high o

  pub within : (n h : ℕ) → h < n → (o : ℕ) → T ((largestᵥ f n).ok o) → Within n h o
  unfolding largestᵥ
  within zero h p o t = absurd (omega arith)
  within (suc n) h p o t =
      let a = largestᵥ f n in
      below_more (λ i. Within (suc n) i o) n
      (λ i q. let w = within n i q o (and_0 (a.ok o) ((f n).ok o) t) in record { ok = w.ok; under = trans≼ₛ w.under (max_left (a.high o) ((f n).high o)) })
      (record { ok = and_1 (a.ok o) ((f n).ok o) t; under = max_right (a.high o) ((f n).high o) }) h (omega arith)

  pub largest_sound : ((h : ℕ) → f h ⊴ f h) → (n : ℕ) → largestᵥ f n ⊴ largestᵥ f n
  unfolding largestᵥ
  largest_sound s zero = s 0
  largest_sound s (suc n) = max⊴ (largest_sound s n) (s n)

  pub largest_fine : ((h : ℕ) → Fine (f h)) → (n : ℕ) → Fine (largestᵥ f n)
  unfolding largestᵥ
  largest_fine s zero = s 0
  largest_fine s (suc n) = fine_max (largest_fine s n) (s n)

  -- every order that gives bounds of each gives bounds of the largest
  pub largest_bounds : (o : ℕ) → ((h : ℕ) → T ((f h).ok o)) → (n : ℕ) → T ((largestᵥ f n).ok o)
  unfolding largestᵥ
  largest_bounds o t zero = t 0
  largest_bounds o t (suc n) = both ((largestᵥ f n).ok o) ((f n).ok o) (largest_bounds o t n) (t n)

  pub largest_least : {a : Signed} → AtLeast a (f 0) → (n : ℕ) → ((h : ℕ) → h < n → AtLeast a (f h)) → AtLeast a (largestᵥ f n)
  unfolding largestᵥ
  largest_least z zero k = z
  largest_least z (suc n) k = least_max (largest_least z n (λ h p. k h (omega arith))) (k n (omega arith))

  pub largest_most : {a : Signed} (n h : ℕ) → h < n → AtMost a (f h) → AtMost a (largestᵥ f n)
  largest_most n h p k = record { most = λ o t. let w = within n h p o t in trans≼ₛ (k.most o w.ok) w.under }
