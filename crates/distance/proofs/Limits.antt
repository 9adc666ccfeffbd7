-- A limit above an exact value, through a sum with an integer and a quotient by a whole number, in both directions.
use mathlib.Core.Bool.{true}
use mathlib.Core.List.{[], ◌∷◌}
use Prim.Native.Nat.{ℕ, ◌<◌}
use lib.IntN.{ℤ, pos, ◌+ℤ◌, ◌*ℤ◌}
use lib.Signed.{≤ℤ_refl}
use Rattle.numbers.specs.Fraction.{whole}
use Rattle.numbers.specs.Signed.{Signed, ◌≼ₛ◌, ◌≈ₛ◌, of_frac, of_int, add_s, mul_s}
use Rattle.numbers.proofs.FractionProver.{qv, qn, ◌+'◌, ◌*'◌, q_le, q_from, le, eq}
use Rattle.numbers.proofs.SignedFractions.{refl≼ₛ, trans≼ₛ, add≼ₛ, min_is, above_least}
use Rattle.numbers.proofs.SignedIntegers.{of_int_add, of_int_mul}
use Rattle.exact.specs.Value.{Value, AtLeast, ◌⊴◌, number, integer, reciprocal, ◌+ᵥ◌, ◌/ᵥ◌}
use Rattle.exact.proofs.Plain.{and_0, both}
use Rattle.exact.proofs.Lifting.{above_test}
use Rattle.distance.proofs.Around.{part, part_times, over, scaled, same_part}

-- ---- a sum with an integer
unmoved : (a : ℤ) (u v : Signed) → add_s (of_int a) u ≼ₛ add_s (of_int a) v → u ≼ₛ v
unmoved a u v h = record {
  le = q_from ((of_int a).plus ∷ (of_int a).minus ∷ u.plus ∷ u.minus ∷ v.plus ∷ v.minus ∷ [])
      (le (qn 1) (qv 0 +' qv 2 +' (qv 1 +' qv 5)) (qv 0 +' qv 4 +' (qv 1 +' qv 3)) ∷ [])
      (qv 2 +' qv 5) (qv 4 +' qv 3) tt h.le;
}

module _ (a c : ℤ) {x : Value} where
  pub limit_moved : AtLeast (of_int c) x → AtLeast (of_int (a +ℤ c)) (integer a +ᵥ x)
  limit_moved h = record { least = λ n t. trans≼ₛ (add≼ₛ (refl≼ₛ (of_int a)) (h.least n t)) (of_int_add a c).from }

  pub limit_unmoved : AtLeast (of_int (a +ℤ c)) (integer a +ᵥ x) → AtLeast (of_int c) x
  limit_unmoved h = record { least = λ n t. unmoved a (x.low n) (of_int c) (trans≼ₛ (h.least n t) (of_int_add a c).to) }

-- the sum of no steps is 0
add_nothing : (u : Signed) → add_s u (of_int (pos 0)) ≈ₛ u
add_nothing u = record { to = record { le = q_le (u.plus ∷ u.minus ∷ []) (qv 0 +' qn 0 +' qv 1) (qv 0 +' (qv 1 +' qn 0)) tt }; from = record { le = q_le (u.plus ∷ u.minus ∷ []) (qv 0 +' (qv 1 +' qn 0)) (qv 0 +' qn 0 +' qv 1) tt } }

module _ {s : Signed} {x : Value} where
  pub limit_kept : AtLeast s x → AtLeast s (x +ᵥ integer (pos 0))
  limit_kept h = record { least = λ n t. trans≼ₛ (add_nothing (x.low n)).to (h.least n (and_0 (x.ok n) true t)) }

  pub limit_unkept : AtLeast s (x +ᵥ integer (pos 0)) → AtLeast s x
  limit_unkept h = record { least = λ n t. trans≼ₛ (add_nothing (x.low n)).from (h.least n (both (x.ok n) true t tt)) }

-- ---- a quotient by a whole number
module _ (d : ℕ) (zd : 0 < d) (c : ℤ) {x : Value} (sound : x ⊴ x) where
  pub limit_divided : AtLeast (of_int (c *ℤ pos d)) x → AtLeast (of_int c) (x /ᵥ number (whole d))
  limit_divided h = record {
    least = λ n t.
        let o = and_0 (x.ok n) ((reciprocal (number (whole d))).ok n) t in
        trans≼ₛ (above_least (x.low n) (x.high n) (of_frac (part d zd)) (of_frac (part d zd)) (x.low n) (of_frac (part d zd)) (record { from = refl≼ₛ (x.low n); to = sound.apart n n o o }) (same_part d zd))
        (trans≼ₛ (scaled d zd (h.least n o)) (over d zd c (c *ℤ pos d) (≤ℤ_refl (c *ℤ pos d))));
  }

  undone : (u : Signed) → mul_s u (of_frac (part d zd)) ≼ₛ of_int c → u ≼ₛ of_int (c *ℤ pos d)
  undone u h = trans≼ₛ (record {
    le = q_from (u.plus ∷ u.minus ∷ (of_int c).plus ∷ (of_int c).minus ∷ part d zd ∷ whole d ∷ [])
        (le (qv 5) (qv 0 *' qv 4 +' qv 1 *' qn 0 +' qv 3) (qv 2 +' (qv 0 *' qn 0 +' qv 1 *' qv 4)) ∷ eq (qn 0) (qv 0) (qv 4 *' qv 5) (qn 1) ∷ eq (qv 1) (qn 0) (qv 4 *' qv 5) (qn 1) ∷ [])
        (qv 0 +' (qv 2 *' qn 0 +' qv 3 *' qv 5)) (qv 2 *' qv 5 +' qv 3 *' qn 0 +' qv 1) tt h.le (part_times d zd) (part_times d zd);
  }) (of_int_mul c (pos d)).from

  pub limit_undivided : AtLeast (of_int c) (x /ᵥ number (whole d)) → AtLeast (of_int (c *ℤ pos d)) x
  limit_undivided h = record {
    least = λ n t.
        let p = of_frac (part d zd) in
        let P : Signed → Type 0 = λ w. mul_s (x.low n) p ≼ₛ w in
        let at_low = refl≼ₛ (mul_s (x.low n) p) in
        let at_high = scaled d zd (sound.apart n n t t) in
        undone (x.low n) (trans≼ₛ (min_is P _ _ (min_is P _ _ at_low at_low) (min_is P _ _ at_high at_high)) (h.least n (both (x.ok n) ((reciprocal (number (whole d))).ok n) t (above_test (whole d) zd))));
  }
