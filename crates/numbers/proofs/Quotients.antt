-- Quotients as products with a reciprocal, and quotients of sums.
use Prim.Native.Nat.{◌<◌}
use mathlib.Core.List.{[], ◌∷◌}
use Rattle.numbers.specs.Fraction.{Frac, ◌≼◌, ◌≈◌, 1F, ◌⊕◌, ◌⊗◌, ◌÷◌}
use Rattle.numbers.proofs.Fractions.{refl≼, trans≼, ÷-times, ÷≼, ≼÷, ÷≼of}
use Rattle.numbers.proofs.FractionProver.{qv, qn, ◌+'◌, ◌*'◌, q_from, eq}

pub ÷-inv : (a b : Frac) → 0 < b.num → a ÷ b ≈ a ⊗ (1F ÷ b)
÷-inv a b z = record {
  to = ÷≼of (a ⊗ (1F ÷ b)) b a z (q_from (a ∷ b ∷ (1F ÷ b) ∷ []) (eq (qn 0) (qv 0) (qv 2 *' qv 1) (qn 1) ∷ []) (qv 0) (qv 0 *' qv 2 *' qv 1) tt (÷-times 1F b z));
  from = ≼÷ (a ⊗ (1F ÷ b)) b a z (q_from (a ∷ b ∷ (1F ÷ b) ∷ []) (eq (qv 0) (qn 0) (qv 2 *' qv 1) (qn 1) ∷ []) (qv 0 *' qv 2 *' qv 1) (qv 0) tt (÷-times 1F b z));
}

-- h over x is at most the sum of a over x and b over x, for h at most a + b
pub ÷-add : (a b x h : Frac) → 0 < x.num → h ≼ a ⊕ b → h ÷ x ≼ a ÷ x ⊕ b ÷ x
÷-add a b x h z p = trans≼ (÷≼ z p (refl≼ x)) (÷≼of ((a ÷ x) ⊕ (b ÷ x)) x (a ⊕ b) z
    (q_from (a ∷ b ∷ x ∷ (a ÷ x) ∷ (b ÷ x) ∷ []) (eq (qn 0) (qn 1) (qv 3 *' qv 2) (qv 0) ∷ eq (qn 0) (qn 1) (qv 4 *' qv 2) (qv 1) ∷ []) (qv 0 +' qv 1) ((qv 3 +' qv 4) *' qv 2) tt (÷-times a x z) (÷-times b x z)))
