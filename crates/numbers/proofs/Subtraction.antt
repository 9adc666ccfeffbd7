-- Cut-off subtraction of fractions by what it is for: a ∸ b is the least c with a ≤ b + c.
use Prim.Native.Nat.{ℕ, ◌+◌, ◌*◌, ◌-◌, ◌≤◌, ◌<◌}
use mathlib.Core.List.{[], ◌∷◌}
use mathlib.Core.Bool.{Bool, true, false, not}
use lib.Dec.{T, leb, leb→le, nleb→lt}
use native.Mathlib.Nat.{mul-pos, mul-le-mul_right}
use native.Mathlib.Omega.{arith}
use Rattle.numbers.specs.Fraction.{Frac, ◌≼◌, ◌⊕◌, ◌⊗◌, ◌∸◌, 0F}
use Rattle.numbers.proofs.Fractions.{refl≼, trans≼, add≼}
use Rattle.numbers.proofs.FractionProver.{qv, qn, ◌+'◌, ◌*'◌, q_le, q_from, le}

pub less_on : (a b : Frac) → a ≼ b ⊕ (a ∸ b)
unfolding ◌∸◌
less_on a b = go (a.num * b.den - b.num * a.den) (omega arith)
  where
    go : (d : ℕ) → a.num * b.den ≤ d + b.num * a.den → ◌≼◌ a (b ⊕ (record { num = d; den = a.den * b.den; pos = mul-pos a.pos b.pos }))
    go d h = omega (arith, mul-le-mul_right (b.den * a.den) h)

cut_nat : (x y k z : ℕ) → x * k ≤ y * k + z → (x - y) * k ≤ z
cut_nat x y k z h = go (leb x y) (leb→le x y) (nleb→lt x y)
  where
    go : (c : Bool) → (T c → x ≤ y) → (T (not c) → y < x) → (x - y) * k ≤ z
    go true p q = let r : x ≤ y = p tt in let e : x - y ≤ 0 = omega arith in omega (arith, mul-le-mul_right k e)
    go false p q = let r : y < x = q tt in let e : x - y + y ≤ x = omega arith in omega (arith, mul-le-mul_right k e)

pub less_least : (a b c : Frac) → a ≼ b ⊕ c → a ∸ b ≼ c
unfolding ◌∸◌
less_least a b c h = record { cross = cut_nat (a.num * b.den) (b.num * a.den) c.den (c.num * (a.den * b.den)) (omega (arith, h.cross)) }

pub less_exact : {a b : Frac} → b ≼ a → b ⊕ (a ∸ b) ≼ a
unfolding ◌∸◌
less_exact {a} {b} h = go (a.num * b.den - b.num * a.den) (let r : b.num * a.den ≤ a.num * b.den = h.cross in omega arith)
  where
    go : (d : ℕ) → d + b.num * a.den ≤ a.num * b.den → ◌≼◌ (b ⊕ (record { num = d; den = a.den * b.den; pos = mul-pos a.pos b.pos })) a
    go d h = omega (arith, mul-le-mul_right (b.den * a.den) h)

pub less_none : {a b : Frac} → a ≼ b → a ∸ b ≼ 0F
less_none {a} {b} h = less_least a b 0F (q_from (a ∷ b ∷ []) (le (qn 1) (qv 0) (qv 1) ∷ []) (qv 0) (qv 1 +' qn 0) tt h)

-- what is taken off y falls as u rises, and the greater of u and y rises with u
pub less_mono : {u v : Frac} (y : Frac) → u ≼ v → y ∸ v ≼ y ∸ u
less_mono {u} {v} y h = less_least y v (y ∸ u) (trans≼ (less_on y u) (add≼ h (refl≼ (y ∸ u))))

pub left_max : (u y : Frac) → u ≼ u ⊕ (y ∸ u)
left_max u y = q_le (u ∷ (y ∸ u) ∷ []) (qv 0) (qv 0 +' qv 1) tt

pub max_least : {u y c : Frac} → u ≼ c → y ≼ c → u ⊕ (y ∸ u) ≼ c
max_least {u} {y} {c} h k = trans≼ (add≼ (refl≼ u) (less_least y u (c ∸ u) (trans≼ k (less_on c u)))) (less_exact h)

pub max_mono : {u v : Frac} (y : Frac) → u ≼ v → u ⊕ (y ∸ u) ≼ v ⊕ (y ∸ v)
max_mono {u} {v} y h = max_least (trans≼ h (left_max v y)) (less_on y v)

-- (H - h)(a - b) is not below 0
pub rearrange : {h H b a : Frac} → h ≼ H → b ≼ a → h ⊗ a ⊕ H ⊗ b ≼ h ⊗ b ⊕ H ⊗ a
rearrange {h} {H} {b} {a} p q = q_from (h ∷ H ∷ b ∷ a ∷ (a ∸ b) ∷ [])
    (le (qv 0) (qv 3) (qv 2 +' qv 4) ∷ le (qv 4) (qv 0) (qv 1) ∷ le (qv 1) (qv 2 +' qv 4) (qv 3) ∷ [])
    (qv 0 *' qv 3 +' qv 1 *' qv 2) (qv 0 *' qv 2 +' qv 1 *' qv 3) tt
    (less_on a b) p (less_exact q)
