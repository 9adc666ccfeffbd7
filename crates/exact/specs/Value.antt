-- Document 01, 'Exact values without reals': an exact value is a lower and an upper fraction for every order that gives bounds. How values
-- combine on the cautious side, and what 'at most the exact value' and 'at least' mean. Fractions are signed: a rise may be negative.
use Rattle.std.specs.Prelude.{ℕ, zero, suc, ◌≤◌, ◌<◌, Bool, true, false, T, leb, ℤ}
use Rattle.numbers.specs.Fraction.{Frac, whole, 1F, ◌÷◌, ◌∸◌}
use Rattle.numbers.specs.Signed.{Signed, ◌≼ₛ◌, of_frac, of_int, amount, neg_s, add_s, max_s, least4, most4}
use Rattle.exact.specs.Exponential.{exp_low, exp_high}
use Rattle.exact.specs.Cutting.{integral_high, integral_low, ln_high, ln_low}

pub record Value : Type 0 where
  pub ok : ℕ → Bool
  pub low : ℕ → Signed
  pub high : ℕ → Signed

-- '"At most the exact value" means that no upper fraction of any order is smaller; "at least" is the mirror.'
pub record AtMost (a : Signed) (x : Value) : Type 0 where
  pub most : (n : ℕ) → T (x.ok n) → a ≼ₛ x.high n

pub record AtLeast (a : Signed) (x : Value) : Type 0 where
  pub least : (n : ℕ) → T (x.ok n) → x.low n ≼ₛ a

-- no lower fraction of x, of any order, exceeds an upper one of y
infix 4 ◌⊴◌
pub record ◌⊴◌ (x y : Value) : Type 0 where
  pub apart : (n m : ℕ) → T (x.ok n) → T (y.ok m) → x.low n ≼ₛ y.high m

-- for every e above 0 an order from which on every order gives bounds, at most e apart (`gap_below`: from half of e's on less than e)
pub record Fine (x : Value) : Type 0 where
  pub order : (e : Frac) → 0 < e.num → ℕ
  pub bounds : (e : Frac) (z : 0 < e.num) (n : ℕ) → order e z ≤ n → T (x.ok n)
  pub gap : (e : Frac) (z : 0 < e.num) (n : ℕ) → order e z ≤ n → x.high n ≼ₛ add_s (x.low n) (of_frac e)

-- orders run from 1
abbrev pub from_one : ℕ → Bool
from_one zero = false
from_one (suc n) = true

abbrev pub and : Bool → Bool → Bool
and true b = b
and false b = false

-- a fraction that is known
abbrev pub number : Frac → Value
number a = record { ok = λ n. true; low = λ n. of_frac a; high = λ n. of_frac a }

-- an integer
abbrev pub integer : ℤ → Value
integer z = record { ok = λ n. true; low = λ n. of_int z; high = λ n. of_int z }

-- e^(−x)
abbrev pub exp_neg : Frac → Value
exp_neg x = record { ok = from_one; low = λ n. of_frac (exp_low x n); high = λ n. of_frac (exp_high x n) }

-- J, the integral of e^(−u)/u from p to q
abbrev pub integral : Frac → Frac → Value
integral p q = record { ok = from_one; low = λ n. of_frac (integral_low p (q ∸ p) n); high = λ n. of_frac (integral_high p (q ∸ p) n) }

-- ln r, for r above 1
abbrev pub ln : Frac → Value
ln r = record { ok = from_one; low = λ n. of_frac (ln_low 1F (r ∸ 1F) n); high = λ n. of_frac (ln_high 1F (r ∸ 1F) n) }

-- ---- 'Sums, products and quotients combine these on the cautious side.'
infix 9 -ᵥ◌
abbrev pub -ᵥ◌ : Value → Value
-ᵥ x = record { ok = x.ok; low = λ n. neg_s (x.high n); high = λ n. neg_s (x.low n) }

infixl 6 ◌+ᵥ◌
abbrev pub ◌+ᵥ◌ : Value → Value → Value
x +ᵥ y = record { ok = λ n. and (x.ok n) (y.ok n); low = λ n. add_s (x.low n) (y.low n); high = λ n. add_s (x.high n) (y.high n) }

infixl 6 ◌−ᵥ◌
abbrev pub ◌−ᵥ◌ : Value → Value → Value
x −ᵥ y = x +ᵥ (-ᵥ y)

-- the least and the greatest of the four products of the fractions
infixl 7 ◌·ᵥ◌
abbrev pub ◌·ᵥ◌ : Value → Value → Value
x ·ᵥ y =
    record {
      ok = λ n. and (x.ok n) (y.ok n);
      low = λ n. least4 (x.low n) (x.high n) (y.low n) (y.high n);
      high = λ n. most4 (x.low n) (x.high n) (y.low n) (y.high n);
    }

-- 'An order at which a divisor's lower fraction is not above 0 gives no bounds.'
abbrev pub above? : Signed → Bool
above? a = leb 1 (amount a).num

abbrev pub reciprocal : Value → Value
reciprocal y =
    record {
      ok = λ n. and (y.ok n) (above? (y.low n));
      low = λ n. of_frac (1F ÷ amount (y.high n));
      high = λ n. of_frac (1F ÷ amount (y.low n));
    }

infixl 7 ◌/ᵥ◌
abbrev pub ◌/ᵥ◌ : Value → Value → Value
x /ᵥ y = x ·ᵥ reciprocal y

-- a value in millionths
abbrev pub in_millionths : Value → Value
in_millionths x = number (whole 1000000) ·ᵥ x

-- the larger of two values: the larger of the lower and the larger of the upper fractions
infixl 6 ◌⊔ᵥ◌
abbrev pub ◌⊔ᵥ◌ : Value → Value → Value
x ⊔ᵥ y = record { ok = λ n. and (x.ok n) (y.ok n); low = λ n. max_s (x.low n) (y.low n); high = λ n. max_s (x.high n) (y.high n) }

-- the largest of f 0 to f (n − 1), and f 0 where n is 0: document 02, note 1, speaks of "the largest exact sum"
unfoldable pub largestᵥ : (ℕ → Value) → ℕ → Value
largestᵥ f zero = f 0
largestᵥ f (suc n) = largestᵥ f n ⊔ᵥ f n
