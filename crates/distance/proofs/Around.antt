-- What is around a sum, a product with an integer and a quotient by a whole number, from what is around their parts. This carries the promises of
-- the share to the rise and to the heating sum: a positive constant takes the low share for the low end, a negative one the high share.
use mathlib.Core.List.{[], ◌∷◌}
use mathlib.Core.Logic.{◌⊎◌, inl, inr}
use Prim.Native.Nat.{ℕ, ◌<◌}
use lib.Dec.{T}
use lib.IntN.{ℤ, pos, ◌*ℤ◌}
use lib.Signed.{◌≤ℤ◌}
use Rattle.numbers.specs.Fraction.{Frac, ◌≼◌, ◌≈◌, whole, 0F, 1F, ◌⊗◌, ◌÷◌, ◌∸◌}
use Rattle.numbers.specs.Signed.{Signed, ◌≼ₛ◌, of_frac, of_int, amount, mul_s, least4, most4}
use Rattle.numbers.specs.Rounding.{floor_z, ceil_z}
use Rattle.numbers.proofs.Fractions.{trans≼, zero≼, ÷-times, above}
use Rattle.numbers.proofs.FractionProver.{qv, qn, ◌+'◌, ◌*'◌, q_le, q_from, le, eq}
use Rattle.numbers.proofs.Subtraction.{less_on, less_least}
use Rattle.numbers.proofs.SignedFractions.{In, refl≼ₛ, trans≼ₛ, add≼ₛ, swap, times_up, times_down, below_most, above_least}
use Rattle.numbers.proofs.SignedIntegers.{of_int≼, of_int_add, of_int_mul, either_sign}
use Rattle.numbers.proofs.Integers.{lesser_left, lesser_right, greater_left, greater_right, ≤ℤ_trans}
use Rattle.numbers.proofs.Rounding.{floor_low, ceil_high}
use Rattle.bounds.specs.Operations.{point_b, add_b, mul_b, divided_b}
use Rattle.bounds.specs.declared.Bounds.{Bounds}
use Rattle.exact.specs.Value.{Value, ◌⊴◌, and, number, integer, reciprocal, ◌+ᵥ◌, ◌·ᵥ◌, ◌/ᵥ◌}
use Rattle.exact.proofs.Plain.{and_0, and_1}
use Rattle.distance.specs.Around.{Around}

pub around_integer : (z : ℤ) → Around (point_b z) (integer z)
around_integer z = record { low_at_most = record { most = λ n t. refl≼ₛ (of_int z) }; high_at_least = record { least = λ n t. refl≼ₛ (of_int z) } }

pub around_add : {a b : Bounds} {x y : Value} → Around a x → Around b y → Around (add_b a b) (x +ᵥ y)
unfolding add_b
around_add {a} {b} {x} {y} h k = record {
  low_at_most = record { most = λ n t. trans≼ₛ (of_int_add a.low b.low).to (add≼ₛ (h.low_at_most.most n (and_0 (x.ok n) (y.ok n) t)) (k.low_at_most.most n (and_1 (x.ok n) (y.ok n) t))) };
  high_at_least = record { least = λ n t. trans≼ₛ (add≼ₛ (h.high_at_least.least n (and_0 (x.ok n) (y.ok n) t)) (k.high_at_least.least n (and_1 (x.ok n) (y.ok n) t))) (of_int_add a.high b.high).from };
}

-- ---- times an integer
module _ (z : ℤ) {b : Bounds} {x : Value} (sound : x ⊴ x) (h : Around b x) where
  -- the constant alone, and each end of the value, lie between their ends
  only : In (of_int z) (of_int z) (of_int z)
  only = record { from = refl≼ₛ (of_int z); to = refl≼ₛ (of_int z) }

  at_high : (n : ℕ) → T (x.ok n) → In (x.low n) (x.high n) (x.high n)
  at_high n t = record { from = sound.apart n n t t; to = refl≼ₛ (x.high n) }

  at_low : (n : ℕ) → T (x.ok n) → In (x.low n) (x.high n) (x.low n)
  at_low n t = record { from = refl≼ₛ (x.low n); to = sound.apart n n t t }

  low_end : ((mul_b (point_b z) b).low ≤ℤ (z *ℤ b.low)) × ((mul_b (point_b z) b).low ≤ℤ (z *ℤ b.high))
  unfolding mul_b
  low_end = (≤ℤ_trans (lesser_left _ _) (lesser_left _ _), ≤ℤ_trans (lesser_left _ _) (lesser_right _ _))

  high_end : ((z *ℤ b.low) ≤ℤ (mul_b (point_b z) b).high) × ((z *ℤ b.high) ≤ℤ (mul_b (point_b z) b).high)
  unfolding mul_b
  high_end = (≤ℤ_trans (greater_left _ _) (greater_left _ _), ≤ℤ_trans (greater_right _ _) (greater_left _ _))

  low_most : (n : ℕ) → T (x.ok n) → of_int (mul_b (point_b z) b).low ≼ₛ most4 (of_int z) (of_int z) (x.low n) (x.high n)
  low_most n t = go (either_sign z)
    where
      go : ((of_int z).minus ≼ (of_int z).plus) ⊎ ((of_int z).plus ≼ (of_int z).minus) → of_int (mul_b (point_b z) b).low ≼ₛ most4 (of_int z) (of_int z) (x.low n) (x.high n)
      go (inl s) = trans≼ₛ (of_int≼ low_end.0) (trans≼ₛ (of_int_mul z b.low).to (trans≼ₛ (times_up (of_int z) (of_int b.low) (x.high n) s (h.low_at_most.most n t)) (below_most (of_int z) (of_int z) (x.low n) (x.high n) (of_int z) (x.high n) only (at_high n t))))
      go (inr s) = trans≼ₛ (of_int≼ low_end.1) (trans≼ₛ (of_int_mul z b.high).to (trans≼ₛ (times_down (of_int z) (x.low n) (of_int b.high) s (h.high_at_least.least n t)) (below_most (of_int z) (of_int z) (x.low n) (x.high n) (of_int z) (x.low n) only (at_low n t))))

  high_least : (n : ℕ) → T (x.ok n) → least4 (of_int z) (of_int z) (x.low n) (x.high n) ≼ₛ of_int (mul_b (point_b z) b).high
  high_least n t = go (either_sign z)
    where
      go : ((of_int z).minus ≼ (of_int z).plus) ⊎ ((of_int z).plus ≼ (of_int z).minus) → least4 (of_int z) (of_int z) (x.low n) (x.high n) ≼ₛ of_int (mul_b (point_b z) b).high
      go (inl s) = trans≼ₛ (above_least (of_int z) (of_int z) (x.low n) (x.high n) (of_int z) (x.low n) only (at_low n t)) (trans≼ₛ (times_up (of_int z) (x.low n) (of_int b.high) s (h.high_at_least.least n t)) (trans≼ₛ (of_int_mul z b.high).from (of_int≼ high_end.1)))
      go (inr s) = trans≼ₛ (above_least (of_int z) (of_int z) (x.low n) (x.high n) (of_int z) (x.high n) only (at_high n t)) (trans≼ₛ (times_down (of_int z) (of_int b.low) (x.high n) s (h.low_at_most.most n t)) (trans≼ₛ (of_int_mul z b.low).from (of_int≼ high_end.0)))

  pub around_times : Around (mul_b (point_b z) b) (integer z ·ᵥ x)
  around_times = record { low_at_most = record { most = λ n t. low_most n t }; high_at_least = record { least = λ n t. high_least n t } }

-- ---- over a whole number
module _ (d : ℕ) (zd : 0 < d) where
  abbrev pub part : Frac
  part = 1F ÷ amount (of_frac (whole d))

  pub part_times : part ⊗ whole d ≈ 1F
  part_times = record {
    to = trans≼ (q_from (part ∷ whole d ∷ (whole d ∸ 0F) ∷ []) (le (qv 0) (qv 1) (qv 2) ∷ []) (qv 0 *' qv 1) (qv 0 *' qv 2) tt uncut) (÷-times 1F (whole d ∸ 0F) (above zd uncut)).to;
    from = trans≼ (÷-times 1F (whole d ∸ 0F) (above zd uncut)).from (q_from (part ∷ whole d ∷ (whole d ∸ 0F) ∷ []) (le (qv 0) (qv 2) (qv 1) ∷ []) (qv 0 *' qv 2) (qv 0 *' qv 1) tt (less_least (whole d) 0F (whole d) (q_le (whole d ∷ []) (qv 0) (qn 0 +' qv 0) tt)));
  }
    where
      uncut : whole d ≼ whole d ∸ 0F
      uncut = q_from (whole d ∷ (whole d ∸ 0F) ∷ []) (le (qn 1) (qv 0) (qn 0 +' qv 1) ∷ []) (qv 0) (qv 1) tt (less_on (whole d) 0F)

  -- q·d ≤ z gives q ≤ z·(1/d), and the mirror
  under : (q z : ℤ) → (q *ℤ pos d) ≤ℤ z → of_int q ≼ₛ mul_s (of_int z) (of_frac part)
  under q z k = record {
    le = q_from ((of_int q).plus ∷ (of_int q).minus ∷ (of_int z).plus ∷ (of_int z).minus ∷ part ∷ whole d ∷ [])
        (le (qv 4) (qv 0 *' qv 5 +' qv 1 *' qn 0 +' qv 3) (qv 2 +' (qv 0 *' qn 0 +' qv 1 *' qv 5)) ∷ eq (qn 0) (qv 0) (qv 4 *' qv 5) (qn 1) ∷ eq (qv 1) (qn 0) (qv 4 *' qv 5) (qn 1) ∷ [])
        (qv 0 +' (qv 2 *' qn 0 +' qv 3 *' qv 4)) (qv 2 *' qv 4 +' qv 3 *' qn 0 +' qv 1) tt (trans≼ₛ (of_int_mul q (pos d)).from (of_int≼ k)).le part_times part_times;
  }

  pub over : (q z : ℤ) → z ≤ℤ (q *ℤ pos d) → mul_s (of_int z) (of_frac part) ≼ₛ of_int q
  over q z k = record {
    le = q_from ((of_int q).plus ∷ (of_int q).minus ∷ (of_int z).plus ∷ (of_int z).minus ∷ part ∷ whole d ∷ [])
        (le (qv 4) (qv 2 +' (qv 0 *' qn 0 +' qv 1 *' qv 5)) (qv 0 *' qv 5 +' qv 1 *' qn 0 +' qv 3) ∷ eq (qv 0) (qn 0) (qv 4 *' qv 5) (qn 1) ∷ eq (qn 0) (qv 1) (qv 4 *' qv 5) (qn 1) ∷ [])
        (qv 2 *' qv 4 +' qv 3 *' qn 0 +' qv 1) (qv 0 +' (qv 2 *' qn 0 +' qv 3 *' qv 4)) tt (trans≼ₛ (of_int≼ k) (of_int_mul q (pos d)).to).le part_times part_times;
  }

  pub scaled : {u v : Signed} → u ≼ₛ v → mul_s u (of_frac part) ≼ₛ mul_s v (of_frac part)
  scaled {u} {v} k = trans≼ₛ (swap u (of_frac part)) (trans≼ₛ (times_up (of_frac part) u v (zero≼ part) k) (swap (of_frac part) v))

  pub same_part : In (of_frac part) (of_frac part) (of_frac part)
  same_part = record { from = refl≼ₛ (of_frac part); to = refl≼ₛ (of_frac part) }

  module _ {b : Bounds} {x : Value} (sound : x ⊴ x) (h : Around b x) where
    pub around_divided : Around (divided_b b d) (x /ᵥ number (whole d))
    unfolding divided_b
    around_divided = record {
      low_at_most = record {
        most = λ n t. trans≼ₛ (under (floor_z b.low d) b.low (floor_low zd b.low)) (trans≼ₛ (scaled (h.low_at_most.most n (ok n t)))
            (below_most (x.low n) (x.high n) (of_frac part) (of_frac part) (x.high n) (of_frac part) (record { from = sound.apart n n (ok n t) (ok n t); to = refl≼ₛ (x.high n) }) same_part));
      };
      high_at_least = record {
        least = λ n t. trans≼ₛ (above_least (x.low n) (x.high n) (of_frac part) (of_frac part) (x.low n) (of_frac part) (record { from = refl≼ₛ (x.low n); to = sound.apart n n (ok n t) (ok n t) }) same_part)
            (trans≼ₛ (scaled (h.high_at_least.least n (ok n t))) (over (ceil_z b.high d) b.high (ceil_high zd b.high)));
      };
    }
      where
        ok : (n : ℕ) → T (and (x.ok n) ((reciprocal (number (whole d))).ok n)) → T (x.ok n)
        ok n t = and_0 (x.ok n) ((reciprocal (number (whole d))).ok n) t
