-- A pair of fractions around a plain value: what is at most and at least a sum, a product, a quotient and c − x, from pairs of what they are made of;
-- and so attainment, β and G from pairs of the exponentials, of J and of ln r.
use Prim.Native.Nat.{ℕ, ◌<◌}
use mathlib.Core.Path.{◌≡◌}
use mathlib.Core.List.{[], ◌∷◌}
use lib.Dec.{T, leb}
use native.Mathlib.Omega.{arith}
use Rattle.numbers.specs.Fraction.{Frac, ◌≼◌, whole, 1F, ◌⊕◌, ◌⊗◌, ◌÷◌, ◌∸◌}
use Rattle.numbers.specs.Signed.{of_frac}
use Rattle.numbers.proofs.Fractions.{refl≼, trans≼, add≼, mul≼, ÷≼}
use Rattle.numbers.proofs.FractionProver.{qv, qn, qf, ◌+'◌, ◌*'◌, q_le, le, q_from}
use Rattle.numbers.proofs.Subtraction.{less_on, less_least, less_mono}
use Rattle.numbers.proofs.SignedFractions.{of_frac≼, of_frac_order}
use Rattle.exact.specs.Value.{Value, AtMost, AtLeast, and, number, in_millionths}
use Rattle.exact.specs.Share.{CableNumbers, millionths, exponent}
use Rattle.exact.proofs.Plain.{Plain, ◌⊴ₚ◌, and_0, and_1, known, add_p, mul_p, less_p, quot_p, above_0, known⊴ₚ}
use Rattle.exact.proofs.Values.{lift}
use Rattle.exact.proofs.Parts.{exp_p}
use Rattle.exact.proofs.Certified.{Below, Above, below_high, above_low}
use Rattle.exact.proofs.Lifting.{◌≐◌, refl≐, trans≐, sym≐, most_same, least_same, mul≐, lift_mul}
use Rattle.exact.proofs.Share.{attainment_p, beta_p, surface_p, share_p}

pub record Around (low high : Frac) (x : Plain) : Type 0 where
  pub most : (n : ℕ) → T (x.ok n) → low ≼ x.high n
  pub least : (n : ℕ) → T (x.ok n) → x.low n ≼ high

pub around_known : (q : Frac) → Around q q (known q)
around_known q = record { most = λ n t. refl≼ q; least = λ n t. refl≼ q }

pub around_wider : {a b c d : Frac} {x : Plain} → c ≼ a → b ≼ d → Around a b x → Around c d x
around_wider p q h = record { most = λ n t. trans≼ p (h.most n t); least = λ n t. trans≼ (h.least n t) q }

pub around_add : {a b c d : Frac} {x y : Plain} → Around a b x → Around c d y → Around (a ⊕ c) (b ⊕ d) (add_p x y)
around_add {x = x} {y = y} h k = record {
  most = λ n t. add≼ (h.most n (and_0 (x.ok n) (y.ok n) t)) (k.most n (and_1 (x.ok n) (y.ok n) t));
  least = λ n t. add≼ (h.least n (and_0 (x.ok n) (y.ok n) t)) (k.least n (and_1 (x.ok n) (y.ok n) t));
}

pub around_mul : {a b c d : Frac} {x y : Plain} → Around a b x → Around c d y → Around (a ⊗ c) (b ⊗ d) (mul_p x y)
around_mul {x = x} {y = y} h k = record {
  most = λ n t. mul≼ (h.most n (and_0 (x.ok n) (y.ok n) t)) (k.most n (and_1 (x.ok n) (y.ok n) t));
  least = λ n t. mul≼ (h.least n (and_0 (x.ok n) (y.ok n) t)) (k.least n (and_1 (x.ok n) (y.ok n) t));
}

pub around_less : {a b : Frac} {x : Plain} (c : Frac) → Around a b x → Around (c ∸ b) (c ∸ a) (less_p c x)
around_less c h = record { most = λ n t. less_mono c (h.least n t); least = λ n t. less_mono c (h.most n t) }

pub around_quot : {a b c d : Frac} {x y : Plain} → 0 < c.num → Around a b x → Around c d y → Around (a ÷ d) (b ÷ c) (quot_p x y)
around_quot {x = x} {y = y} z h k = record {
  most = λ n t. ÷≼ (above_0 y n (divisor_ok n t)) (h.most n (whole_ok n t)) (k.least n (and_0 (y.ok n) (leb 1 (y.low n).num) (divisor_ok n t)));
  least = λ n t. ÷≼ z (h.least n (whole_ok n t)) (k.most n (and_0 (y.ok n) (leb 1 (y.low n).num) (divisor_ok n t)));
}
  where
    whole_ok : (n : ℕ) → T (and (x.ok n) (and (y.ok n) (leb 1 (y.low n).num))) → T (x.ok n)
    whole_ok n t = and_0 (x.ok n) (and (y.ok n) (leb 1 (y.low n).num)) t

    divisor_ok : (n : ℕ) → T (and (x.ok n) (and (y.ok n) (leb 1 (y.low n).num))) → T (and (y.ok n) (leb 1 (y.low n).num))
    divisor_ok n t = and_1 (x.ok n) (and (y.ok n) (leb 1 (y.low n).num)) t

-- certified bounds of e^(−x)
pub around_exp : {a b x : Frac} → Below a x → Above b x → Around a b (exp_p x)
around_exp h k = record { most = λ n t. below_high h n; least = λ n t. above_low k n }

-- from and to 'at most' and 'at least' of the values of specs/Value.antt
pub around_of : {a b : Frac} {x : Plain} → AtMost (of_frac a) (lift x) → AtLeast (of_frac b) (lift x) → Around a b x
around_of {a} {b} {x} h k = record { most = λ n t. of_frac_order a (x.high n) (h.most n t); least = λ n t. of_frac_order (x.low n) b (k.least n t) }

pub around_most : {a b : Frac} {x : Plain} {y : Value} → y ≐ lift x → Around a b x → AtMost (of_frac a) y
around_most s h = most_same s (record { most = λ n t. of_frac≼ (h.most n t) })

pub around_least : {a b : Frac} {x : Plain} {y : Value} → y ≐ lift x → Around a b x → AtLeast (of_frac b) y
around_least s h = least_same s (record { least = λ n t. of_frac≼ (h.least n t) })

from_millionths : (n : ℕ) → whole n ≼ whole 1000000 ⊗ millionths n
from_millionths n = omega arith

to_millionths : (n : ℕ) → whole 1000000 ⊗ millionths n ≼ whole n
to_millionths n = omega arith

-- whole numbers of millionths around a value are around the value in millionths
module _ {x : Plain} {y : Value} (s : y ≐ lift x) (sound : x ⊴ₚ x) where
  in_millionths_lem : in_millionths y ≐ lift (mul_p (known (whole 1000000)) x)
  in_millionths_lem = trans≐ (mul≐ (refl≐ (number (whole 1000000))) s) (lift_mul (known (whole 1000000)) x (known⊴ₚ (refl≼ (whole 1000000))) sound)

  pub millionths_most : {low high : ℕ} → Around (millionths low) (millionths high) x → AtMost (of_frac (whole low)) (in_millionths y)
  millionths_most {low} {high} a = around_most in_millionths_lem (around_wider (from_millionths low) (to_millionths high) (around_mul (around_known (whole 1000000)) a))

  pub millionths_least : {low high : ℕ} → Around (millionths low) (millionths high) x → AtLeast (of_frac (whole high)) (in_millionths y)
  millionths_least {low} {high} a = around_least in_millionths_lem (around_wider (from_millionths low) (to_millionths high) (around_mul (around_known (whole 1000000)) a))

  -- and back, at every order with bounds
  pub most_millionths : {v : ℕ} → AtMost (of_frac (whole v)) (in_millionths y) → (n : ℕ) → T (x.ok n) → whole v ≼ whole 1000000 ⊗ x.high n
  most_millionths {v} h n t = of_frac_order (whole v) (whole 1000000 ⊗ x.high n) ((most_same (sym≐ in_millionths_lem) h).most n t)

  pub least_millionths : {v : ℕ} → AtLeast (of_frac (whole v)) (in_millionths y) → (n : ℕ) → T (x.ok n) → whole 1000000 ⊗ x.low n ≼ whole v
  least_millionths {v} h n t = of_frac_order (whole 1000000 ⊗ x.low n) (whole v) ((least_same (sym≐ in_millionths_lem) h).least n t)

-- ---- the parts of the share
module _ (c : CableNumbers) (m : ℕ) where
  pub around_attainment : {fl fh sl sh : Frac} → Around fl fh (exp_p (exponent c.fast m)) → Around sl sh (exp_p (exponent c.slow m))
      → Around (1F ∸ (millionths c.w ⊗ fh ⊕ (1F ∸ millionths c.w) ⊗ sh)) (1F ∸ (millionths c.w ⊗ fl ⊕ (1F ∸ millionths c.w) ⊗ sl)) (attainment_p c m)
  around_attainment f s = around_less 1F (around_add (around_mul (around_known (millionths c.w)) f) (around_mul (around_known (1F ∸ millionths c.w)) s))

  pub around_surface : {bl bh : Frac} → Around bl bh (beta_p c m) → Around (1F ∸ millionths c.k ⊕ millionths c.k ⊗ bl) (1F ∸ millionths c.k ⊕ millionths c.k ⊗ bh) (surface_p c m)
  around_surface b = around_add (around_known (1F ∸ millionths c.k)) (around_mul (around_known (millionths c.k)) b)

  pub around_share : {xl xh al ah : Frac} → Around xl xh (surface_p c m) → Around al ah (attainment_p c m) → Around (xl ⊗ al) (xh ⊗ ah) (share_p c m)
  around_share x a = around_mul x a

-- ---- with k = 0 the share is the attainment
module _ (c : CableNumbers) (m : ℕ) (none : c.k ≡ 0) where
  surface_high_one : (n : ℕ) → (surface_p c m).high n ≼ 1F
  surface_high_one n = rw none (q_from ((1F ∸ millionths 0) ∷ (beta_p c m).high n ∷ []) (le (qn 1) (qv 0) (qn 1) ∷ []) (qv 0 +' qf 0 1000000 *' qv 1) (qn 1) tt
      (less_least 1F (millionths 0) 1F (q_le [] (qn 1) (qf 0 1000000 +' qn 1) tt)))

  surface_low_one : (n : ℕ) → 1F ≼ (surface_p c m).low n
  surface_low_one n = rw none (q_from ((1F ∸ millionths 0) ∷ (beta_p c m).low n ∷ []) (le (qn 1) (qn 1) (qf 0 1000000 +' qv 0) ∷ []) (qn 1) (qv 0 +' qf 0 1000000 *' qv 1) tt
      (less_on 1F (millionths 0)))

  pub share_high_attainment : (n : ℕ) → (share_p c m).high n ≼ (attainment_p c m).high n
  share_high_attainment n = q_from ((surface_p c m).high n ∷ (attainment_p c m).high n ∷ []) (le (qv 1) (qv 0) (qn 1) ∷ []) (qv 0 *' qv 1) (qv 1) tt (surface_high_one n)

  pub share_low_attainment : (n : ℕ) → (attainment_p c m).low n ≼ (share_p c m).low n
  share_low_attainment n = q_from ((surface_p c m).low n ∷ (attainment_p c m).low n ∷ []) (le (qv 1) (qn 1) (qv 0) ∷ []) (qv 1) (qv 0 *' qv 1) tt (surface_low_one n)
