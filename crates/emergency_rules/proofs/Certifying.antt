-- The certifying rule in natural numbers, with both sides moved; it falls with the amperes; and the products of its test stay below 2^64.
use mathlib.Core.Path.{◌≡◌, refl, sym, ap, ◌∙◌}
use mathlib.Core.Bool.{Bool, true, false}
use Prim.Native.Nat.{ℕ, ◌+◌, ◌*◌, ◌≤◌}
use native.Mathlib.Nat.{add-mul, mul_assoc, mul-le-mul, mul-le-mul_left, mul-le-mul_right}
use native.Mathlib.Omega.{arith}
use borrow.Author.Tests.{leb-true, leb-false, le-leb}
use lib.Dec.{T, leb}
use lib.IntN.{ℤ, pos, negsuc, neg_ℤ, ◌-ℤ◌, ◌*ℤ◌}
use lib.Signed.{◌≤ℤ◌, le_z}
use Rattle.numbers.specs.Integer.{up, dn}
use Rattle.numbers.specs.Largest.{Falling}
use Rattle.numbers.proofs.Integers.{le_lin, lin_le, le_z_true, add_lin, neg_up, neg_dn, mul_lin}
use Rattle.emergency_rules.specs.Asked.{InRange}
use Rattle.emergency_rules.specs.Certifying.{Certified, certified, most_current}

-- ---- the test is the rule

passes : {p q : ℤ} → p ≤ℤ q → le_z p q ≡ true
passes {p} {q} h = holds (le_z p q) h.le
  where
    holds : (b : Bool) → T b → b ≡ true
    holds true t = refl
    holds false t = absurd t

module _ (rated h r : ℕ) (g : ℤ) (i : ℕ) where
  pub certified_rule : certified rated h r g i ≡ true → Certified rated h r g i
  unfolding certified
  certified_rule e = record { rule = le_z_true e }

  pub rule_certified : Certified rated h r g i → certified rated h r g i ≡ true
  unfolding certified
  rule_certified c = passes c.rule

-- ---- in natural numbers

same_test : (x y : ℕ) (p q : ℤ) → (x ≤ y → p ≤ℤ q) → (p ≤ℤ q → x ≤ y) → leb x y ≡ le_z p q
same_test x y p q to from = by (leb x y) (le_z p q) refl refl
  where
    by : (s t : Bool) → leb x y ≡ s → le_z p q ≡ t → s ≡ t
    by true true e f = refl
    by false false e f = refl
    by true false e f = let z : ◌≡◌ {A = ℕ} 0 1 = cc (passes (to (leb-true x y e))) in absurd (omega arith)
    by false true e f = absurd (omega (arith, leb-false x y e, from (le_z_true f)))

difference : (x p : ℕ) → up (pos x -ℤ pos p) + p ≡ dn (pos x -ℤ pos p) + x
difference x p = omega (arith, add_lin (pos x) (neg_ℤ (pos p)), neg_up (pos p), neg_dn (pos p))

difference_times : (x p n : ℕ) → up (pos x -ℤ pos p) * n + p * n ≡ dn (pos x -ℤ pos p) * n + x * n
difference_times x p n = simp add-mul at (ap (λ (k : ℕ). k * n) (difference x p))

-- (x − p)·g ≤ (y − q)·s, with nothing subtracted
moved : (x p g y q s : ℕ) → leb (x * g + q * s) (y * s + p * g) ≡ le_z ((pos x -ℤ pos p) *ℤ pos g) ((pos y -ℤ pos q) *ℤ pos s)
moved x p g y q s =
    let left = pos x -ℤ pos p in
    let right = pos y -ℤ pos q in
    let l = difference_times x p g in
    let t = difference_times y q s in
    same_test (x * g + q * s) (y * s + p * g) (left *ℤ pos g) (right *ℤ pos s)
    (λ h. lin_le (left *ℤ pos g) (right *ℤ pos s) (omega (arith, mul_lin left (pos g), mul_lin right (pos s))))
    (λ h. omega (arith, le_lin h, mul_lin left (pos g), mul_lin right (pos s)))

-- the sides as the test computes them
abbrev pub moved_left : ℕ → ℕ → ℕ → ℕ → ℕ
moved_left rated h g i = 10000 * (i * i) * g + h * h * (rated * rated) * 1000000

abbrev pub moved_right : ℕ → ℕ → ℕ → ℕ → ℕ
moved_right rated h r g = 100 * r * (rated * rated) * 1000000 + h * h * (rated * rated) * g

module _ (rated h r g i : ℕ) where
  pub certified_moved : leb (moved_left rated h g i) (moved_right rated h r g) ≡ certified rated h r (pos g) i
  unfolding certified
  certified_moved =
      rw (mul_assoc (h * h) (rated * rated) 1000000, mul_assoc (100 * r) (rated * rated) 1000000)
      (moved (10000 * (i * i)) (h * h * (rated * rated)) g (100 * r) (h * h) (rated * rated * 1000000))

-- ---- the rule falls with the amperes

pub certified_falls : (rated h r : ℕ) (g : ℤ) → pos 0 ≤ℤ g → Falling (certified rated h r g)
certified_falls rated h r (pos g) p = record { smaller = λ i j le e. smaller i j le (leb-true _ _ (certified_moved rated h r g j ∙ e)) }
  where
    smaller : (i j : ℕ) → i ≤ j → moved_left rated h g j ≤ moved_right rated h r g → certified rated h r (pos g) i ≡ true
    smaller i j le m =
        sym (certified_moved rated h r g i)
        ∙ le-leb (moved_left rated h g i) (moved_right rated h r g) (omega (arith, mul-le-mul_right g (mul-le-mul_left 10000 (mul-le-mul le le))))
certified_falls rated h r (negsuc g) p = absurd p.le

-- 0 amperes are certified where the preload keeps the limit
pub nothing_certified : (rated h r g : ℕ) → h * h ≤ 100 * r → certified rated h r (pos g) 0 ≡ true
nothing_certified rated h r g p =
    sym (certified_moved rated h r g 0)
    ∙ le-leb (moved_left rated h g 0) (moved_right rated h r g) (omega (arith, mul-le-mul_right (rated * rated) p))

-- ---- the products of the test, with a = rated², b = h², e = i²

pub record Products (a b e r g : ℕ) : Type 0 where
  pub preload : b * a ≤ 160000000000
  pub load : 10000 * e ≤ 1000000000000
  pub limit : 100 * r * a ≤ 80000000000
  pub load_share : 10000 * e * g ≤ 1000000000000000000
  pub preload_share : b * a * g ≤ 160000000000000000

pub products : {rated h r g i a b e : ℕ} → InRange rated h r g → i ≤ most_current → a ≡ rated * rated → b ≡ h * h → e ≡ i * i → Products a b e r g
products {r} {a} {b} {e} k to pa pb pe =
    let rated_squared_lem : a ≤ 4000000 = omega (arith, mul-le-mul k.rated_to k.rated_to) in
    let preload : b * a ≤ 160000000000 =
    mul-le-mul {n₂ = 40000} {m₂ = 4000000} (omega (arith, mul-le-mul k.preload_to k.preload_to)) rated_squared_lem
    in
    let load : 10000 * e ≤ 1000000000000 = omega (arith, mul-le-mul to to) in
    record {
      preload = preload;
      load = load;
      limit = mul-le-mul {n₂ = 20000} {m₂ = 4000000} (omega (arith, k.limit_to)) rated_squared_lem;
      load_share = mul-le-mul load k.share_to;
      preload_share = mul-le-mul preload k.share_to;
    }
