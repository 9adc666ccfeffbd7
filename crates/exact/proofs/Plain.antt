-- Values whose fractions are not below 0, by which the laws of e^(−x), J, ln, attainment, β and G are proved: there sums, products and
-- quotients rise with what they are made of. `Lifting` carries the laws to the signed values of specs/Value.antt.
use Prim.Native.Nat.{ℕ, ◌<◌}
use mathlib.Core.Bool.{Bool, true, false}
use lib.Dec.{T, leb, leb→le}
use Rattle.numbers.specs.Fraction.{Frac, ◌≼◌, ◌⊕◌, ◌⊗◌, ◌÷◌, ◌∸◌}
use Rattle.numbers.proofs.Fractions.{add≼, mul≼, ÷≼}
use Rattle.numbers.proofs.Subtraction.{less_mono}
use Rattle.exact.specs.Value.{and}

-- a value whose fractions are not below 0
pub record Plain : Type 0 where
  pub ok : ℕ → Bool
  pub low : ℕ → Frac
  pub high : ℕ → Frac

-- no lower fraction of x, of any order, exceeds an upper one of y
infix 4 ◌⊴ₚ◌
pub record ◌⊴ₚ◌ (x y : Plain) : Type 0 where
  pub apart : (n m : ℕ) → T (x.ok n) → T (y.ok m) → x.low n ≼ y.high m

pub and_0 : (a b : Bool) → T (and a b) → T a
and_0 true b h = tt
and_0 false b h = h

pub and_1 : (a b : Bool) → T (and a b) → T b
and_1 true b h = h
and_1 false b h = absurd h

pub both : (a b : Bool) → T a → T b → T (and a b)
both true b h k = k
both false b h k = absurd h

abbrev pub known : Frac → Plain
known q = record { ok = λ n. true; low = λ n. q; high = λ n. q }

abbrev pub add_p : Plain → Plain → Plain
add_p x y = record { ok = λ n. and (x.ok n) (y.ok n); low = λ n. x.low n ⊕ y.low n; high = λ n. x.high n ⊕ y.high n }

abbrev pub mul_p : Plain → Plain → Plain
mul_p x y = record { ok = λ n. and (x.ok n) (y.ok n); low = λ n. x.low n ⊗ y.low n; high = λ n. x.high n ⊗ y.high n }

-- c less x, where x is at most c
abbrev pub less_p : Frac → Plain → Plain
less_p c x = record { ok = x.ok; low = λ n. c ∸ x.high n; high = λ n. c ∸ x.low n }

-- an order at which the divisor's lower fraction is not above 0 gives no bounds
abbrev pub quot_p : Plain → Plain → Plain
quot_p x y = record { ok = λ n. and (x.ok n) (and (y.ok n) (leb 1 (y.low n).num)); low = λ n. x.low n ÷ y.high n; high = λ n. x.high n ÷ y.low n }

pub above_0 : (y : Plain) (n : ℕ) → T (and (y.ok n) (leb 1 (y.low n).num)) → 0 < (y.low n).num
above_0 y n t = leb→le 1 (y.low n).num (and_1 (y.ok n) (leb 1 (y.low n).num) t)

-- ---- the four operations keep ⊴ₚ
pub known⊴ₚ : {a b : Frac} → a ≼ b → known a ⊴ₚ known b
known⊴ₚ h = record { apart = λ n m s t. h }

pub add⊴ₚ : {x x' y y' : Plain} → x ⊴ₚ x' → y ⊴ₚ y' → add_p x y ⊴ₚ add_p x' y'
add⊴ₚ {x} {x'} {y} {y'} h k = record { apart = λ n m s t. add≼ (h.apart n m (and_0 (x.ok n) (y.ok n) s) (and_0 (x'.ok m) (y'.ok m) t)) (k.apart n m (and_1 (x.ok n) (y.ok n) s) (and_1 (x'.ok m) (y'.ok m) t)) }

pub mul⊴ₚ : {x x' y y' : Plain} → x ⊴ₚ x' → y ⊴ₚ y' → mul_p x y ⊴ₚ mul_p x' y'
mul⊴ₚ {x} {x'} {y} {y'} h k = record { apart = λ n m s t. mul≼ (h.apart n m (and_0 (x.ok n) (y.ok n) s) (and_0 (x'.ok m) (y'.ok m) t)) (k.apart n m (and_1 (x.ok n) (y.ok n) s) (and_1 (x'.ok m) (y'.ok m) t)) }

pub less⊴ₚ : {x y : Plain} (c : Frac) → y ⊴ₚ x → less_p c x ⊴ₚ less_p c y
less⊴ₚ c h = record { apart = λ n m s t. less_mono c (h.apart m n t s) }

pub quot⊴ₚ : {x x' y y' : Plain} → x ⊴ₚ x' → y' ⊴ₚ y → quot_p x y ⊴ₚ quot_p x' y'
quot⊴ₚ {x} {x'} {y} {y'} h k = record {
  apart = λ n m s t. ÷≼ (above_0 y' m (and_1 (x'.ok m) (and (y'.ok m) (leb 1 (y'.low m).num)) t))
      (h.apart n m (and_0 (x.ok n) (and (y.ok n) (leb 1 (y.low n).num)) s) (and_0 (x'.ok m) (and (y'.ok m) (leb 1 (y'.low m).num)) t))
      (k.apart m n (and_0 (y'.ok m) (leb 1 (y'.low m).num) (and_1 (x'.ok m) (and (y'.ok m) (leb 1 (y'.low m).num)) t)) (and_0 (y.ok n) (leb 1 (y.low n).num) (and_1 (x.ok n) (and (y.ok n) (leb 1 (y.low n).num)) s)));
}
