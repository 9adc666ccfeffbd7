-- The laws of fractions: an ordered semifield, by cross multiplication. `◌≼◌` and `◌≈◌` are kept by every operation.
use Prim.Native.Nat.{ℕ, zero, suc, ◌*◌, ◌≤◌, ◌<◌}
use mathlib.Core.Path.{◌≡◌, refl, ap}
use mathlib.Core.Bool.{Bool, true, false, not}
use mathlib.Core.Logic.{◌⊎◌, inl, inr}
use lib.Dec.{T, leb→le, le→leb, nleb→lt}
use native.Mathlib.Nat.{mul-pos, mul-le-mul, mul-le-mul_right, le_of_mul-le-mul_right, zero-lt-suc}
use native.Mathlib.Omega.{arith}
use Rattle.numbers.specs.Fraction.{Frac, ◌≼◌, ◌≈◌, ◌≼?◌, ◌per◌, whole, 0F, 1F, ◌⊕◌, ◌⊗◌, ◌÷◌, power}

-- ---- the order
pub refl≼ : (a : Frac) → a ≼ a
refl≼ a = omega arith

pub trans≼ : {a b c : Frac} → a ≼ b → b ≼ c → a ≼ c
trans≼ {a} {b} {c} h k = record { cross = le_of_mul-le-mul_right (go h.cross k.cross) b.pos }
  where
    go : a.num * b.den ≤ b.num * a.den → b.num * c.den ≤ c.num * b.den → a.num * c.den * b.den ≤ c.num * a.den * b.den
    go p q = omega (arith, mul-le-mul_right c.den p, mul-le-mul_right a.den q)

pub zero≼ : (a : Frac) → 0F ≼ a
zero≼ a = omega arith

pub add≼ : {a b c d : Frac} → a ≼ b → c ≼ d → a ⊕ c ≼ b ⊕ d
add≼ {a} {b} {c} {d} h k = omega (arith, mul-le-mul_right (c.den * d.den) h.cross, mul-le-mul_right (a.den * b.den) k.cross)

pub mul≼ : {a b c d : Frac} → a ≼ b → c ≼ d → a ⊗ c ≼ b ⊗ d
mul≼ h k = omega (arith, mul-le-mul h.cross k.cross)

pub cancel⊕ : {a b : Frac} (c : Frac) → a ⊕ c ≼ b ⊕ c → a ≼ b
cancel⊕ {a} {b} c h = record { cross = le_of_mul-le-mul_right (go h.cross) (mul-pos c.pos c.pos) }
  where
    go : (a ⊕ c).num * (b ⊕ c).den ≤ (b ⊕ c).num * (a ⊕ c).den → a.num * b.den * (c.den * c.den) ≤ b.num * a.den * (c.den * c.den)
    go p = omega arith

pub cancel⊗ : {a b : Frac} (c : Frac) → 0 < c.num → a ⊗ c ≼ b ⊗ c → a ≼ b
cancel⊗ {a} {b} c z h = record { cross = le_of_mul-le-mul_right (go h.cross) (mul-pos z c.pos) }
  where
    go : (a ⊗ c).num * (b ⊗ c).den ≤ (b ⊗ c).num * (a ⊗ c).den → a.num * b.den * (c.num * c.den) ≤ b.num * a.den * (c.num * c.den)
    go p = omega arith

-- what is at least something above 0 is above 0
pub above : {a b : Frac} → 0 < a.num → a ≼ b → 0 < b.num
above {a} {b} z h = go b.num h.cross
  where
    go : (n : ℕ) → a.num * b.den ≤ n * a.den → 0 < n
    go zero p = omega (arith, mul-pos z b.pos)
    go (suc n) p = omega arith

-- the test, either way, and that one of two is at most the other
pub test_is : (a b : Frac) → T (a ≼? b) → a ≼ b
test_is a b h = record { cross = leb→le (a.num * b.den) (b.num * a.den) h }

pub test_of : {a b : Frac} → a ≼ b → T (a ≼? b)
test_of {a} {b} h = le→leb (a.num * b.den) (b.num * a.den) h.cross

pub test_not : (a b : Frac) → T (not (a ≼? b)) → b ≼ a
test_not a b h = record { cross = go (nleb→lt (a.num * b.den) (b.num * a.den) h) }
  where
    go : {x y : ℕ} → suc x ≤ y → x ≤ y
    go k = omega arith

pub either : (a b : Frac) → a ≼ b ⊎ b ≼ a
either a b = go (a ≼? b) (test_is a b) (test_not a b)
  where
    go : (o : Bool) → (T o → a ≼ b) → (T (not o) → b ≼ a) → a ≼ b ⊎ b ≼ a
    go true h k = inl (h tt)
    go false h k = inr (k tt)

-- ---- equality of values
pub refl≈ : (a : Frac) → a ≈ a
refl≈ a = record { to = refl≼ a; from = refl≼ a }

pub sym≈ : {a b : Frac} → a ≈ b → b ≈ a
sym≈ h = record { to = h.from; from = h.to }

pub trans≈ : {a b c : Frac} → a ≈ b → b ≈ c → a ≈ c
trans≈ h k = record { to = trans≼ h.to k.to; from = trans≼ k.from h.from }

pub add≈ : {a b c d : Frac} → a ≈ b → c ≈ d → a ⊕ c ≈ b ⊕ d
add≈ h k = record { to = add≼ h.to k.to; from = add≼ h.from k.from }

pub mul≈ : {a b c d : Frac} → a ≈ b → c ≈ d → a ⊗ c ≈ b ⊗ d
mul≈ h k = record { to = mul≼ h.to k.to; from = mul≼ h.from k.from }

-- ---- n over d
pub per_is : (n d : ℕ) (z : 0 < d) → n per d ≈ record { num = n; den = d; pos = z }
per_is n zero z = absurd (omega arith)
per_is n (suc d) z = omega arith

pub per_times : (n d : ℕ) → 0 < d → (n per d) ⊗ whole d ≈ whole n
per_times n zero z = absurd (omega arith)
per_times n (suc d) z = omega arith

pub per_above : {n : ℕ} (d : ℕ) → 0 < n → 0 < d → 0 < (n per d).num
per_above zero y z = absurd (omega arith)
per_above (suc d) y z = y

pub per≼ : (n d m e : ℕ) → 0 < d → 0 < e → n * e ≤ m * d → n per d ≼ m per e
per≼ n zero m e z y h = absurd (omega arith)
per≼ n (suc d) m zero z y h = absurd (omega arith)
per≼ n (suc d) m (suc e) z y h = record { cross = h }

pub whole≼ : {m n : ℕ} → m ≤ n → whole m ≼ whole n
whole≼ h = omega arith

pub whole_next : (k : ℕ) → whole (suc k) ≈ whole k ⊕ 1F
whole_next k = omega arith

pub one_above : 0 < (1F).num
one_above = zero-lt-suc 0

-- ---- quotients by what is above 0
pub ÷-times : (a b : Frac) → 0 < b.num → (a ÷ b) ⊗ b ≈ a
÷-times a b z = go (a.den * b.num) (mul-pos a.pos z) refl
  where
    go : (d : ℕ) → 0 < d → d ≡ a.den * b.num → ((a.num * b.den) per d) ⊗ b ≈ a
    go zero y e = absurd (omega arith)
    go (suc d) y e = record { to = record { cross = omega (arith, ap (λ t. a.num * b.den * t) e) }; from = record { cross = omega (arith, ap (λ t. a.num * b.den * t) e) } }

pub ÷-above : (a b : Frac) → 0 < a.num → 0 < b.num → 0 < (a ÷ b).num
÷-above a b y z = per_above (a.den * b.num) (mul-pos y b.pos) (mul-pos a.pos z)

-- a quotient rises with what is divided and falls as the divisor rises
pub ÷≼ : {a b c d : Frac} → 0 < d.num → a ≼ b → d ≼ c → a ÷ c ≼ b ÷ d
÷≼ {a} {b} {c} {d} z h k = per≼ (a.num * c.den) (a.den * c.num) (b.num * d.den) (b.den * d.num) (mul-pos a.pos (above z k)) (mul-pos b.pos z) (go (mul-le-mul h.cross k.cross))
  where
    go : a.num * b.den * (d.num * c.den) ≤ b.num * a.den * (c.num * d.den) → a.num * c.den * (b.den * d.num) ≤ b.num * d.den * (a.den * c.num)
    go p = omega arith

-- what times the divisor is at most the dividend is at most the quotient, and the mirror
pub ≼÷ : (h v a : Frac) → 0 < v.num → h ⊗ v ≼ a → h ≼ a ÷ v
≼÷ h v a z k = cancel⊗ v z (trans≼ k (÷-times a v z).from)

pub ÷≼of : (h v a : Frac) → 0 < v.num → a ≼ h ⊗ v → a ÷ v ≼ h
÷≼of h v a z k = cancel⊗ v z (trans≼ (÷-times a v z).to k)

-- ---- powers
pub power≼ : {a b : Frac} (k : ℕ) → a ≼ b → power a k ≼ power b k
power≼ zero h = refl≼ 1F
power≼ (suc k) h = mul≼ (power≼ k h) h
