-- The sum of the θ of slices from `near` to y, without exact logarithms: it lies below every line n - 1 + y/(near · 2^n), of which the one for the octave
-- that y lies in is the logarithm to the base 2 or a little more.
use mathlib.Core.Path.{◌≡◌, refl}
use mathlib.Core.Bool.{Bool, true, false}
use Prim.Native.Nat.{ℕ, zero, suc, ◌+◌, ◌*◌, ◌-◌, ◌≤◌, ◌<◌}
use lib.Dec.{leb}
use borrow.Author.Tests.{leb-true, leb-false}
use native.Mathlib.Nat.{div-mul-le_self, mul-le-mul, mul-le-mul_left, lt_of_mul-lt-mul_right}
use native.Mathlib.Omega.{arith}
use Rattle.model.specs.Scale.{one}
use Rattle.model.specs.Series.{theta_of}
use Rattle.model.specs.Logarithm.{power_of_two}
use Rattle.model.proofs.Logarithm.{power_above_zero}

-- t lies below the n-th line at y
pub record UnderLine (t near y n : ℕ) : Type 0 where
  pub under : t * (near * power_of_two n) + one * (near * power_of_two n) ≤ one * (n * (near * power_of_two n) + y)

-- up to the next line's base, the next line is no lower
next_line_higher : (t near y n : ℕ) → y ≤ near * power_of_two (suc n) → UnderLine t near y n → UnderLine t near y (suc n)
unfolding power_of_two
next_line_higher t near y n h l = let u = l.under in record { under = omega arith }

under_based_lines_suffices : (t near y : ℕ) → near ≤ y → ((n : ℕ) → near * power_of_two n ≤ y → UnderLine t near y n) → (n : ℕ) → UnderLine t near y n
unfolding power_of_two
under_based_lines_suffices t near y h r zero = r zero (omega arith)
under_based_lines_suffices t near y h r (suc n) = go (leb (near * power_of_two (suc n)) y) refl (under_based_lines_suffices t near y h r n)
  where
    go : (b : Bool) → leb (near * power_of_two (suc n)) y ≡ b → UnderLine t near y n → UnderLine t near y (suc n)
    go true e l = r (suc n) (leb-true (near * power_of_two (suc n)) y e)
    go false e l = let w = leb-false (near * power_of_two (suc n)) y e in next_line_higher t near y n (omega arith) l

one_theta_more : (t near x y n : ℕ) → x ≤ y → near * power_of_two n ≤ y → UnderLine t near x n → UnderLine (theta_of x y + t) near y n
one_theta_more t near x y n h k l =
    let u = l.under in
    let p = div-mul-le_self ((y - x) * one) y in
    let q = mul-le-mul_left (theta_of x y) k in
    record { under = omega arith }

none_under : (near y n : ℕ) → near * power_of_two n ≤ y → UnderLine 0 near y n
none_under near y n h = record { under = omega arith }

pub same_line : {t u near y n : ℕ} → t ≡ u → UnderLine t near y n → UnderLine u near y n
same_line e l = rw e at l

-- t lies below every line at y
abbrev pub Lines : ℕ → ℕ → ℕ → Type 0
Lines t near y = (n : ℕ) → UnderLine t near y n

pub none_under_lines : (near y : ℕ) → near ≤ y → Lines 0 near y
none_under_lines near y h = under_based_lines_suffices 0 near y h (λ n l. none_under near y n l)

pub one_theta_more_under_lines : (t near x y : ℕ) → near ≤ x → x ≤ y → Lines t near x → Lines (theta_of x y + t) near y
one_theta_more_under_lines t near x y h k r = under_based_lines_suffices _ near y (omega arith) (λ n l. one_theta_more t near x y n k l (r n))

pub lines_halved : (t near y : ℕ) → Lines t (2 * near) (2 * y) → Lines t near y
lines_halved t near y r n = let u = (r n).under in record { under = omega arith }

-- within n + 1 octaves the θ sum to at most n + 1
pub thetas_at_most_octaves : (t near y n : ℕ) → 0 < near → y ≤ 2 * (near * power_of_two n) → UnderLine t near y n → t ≤ one * (n + 1)
thetas_at_most_octaves t near y n h k l =
    let p = power_above_zero n in
    let u = l.under in
    let q = mul-le-mul h p in
    let r : t < one * (n + 1) + 1 = lt_of_mul-lt-mul_right (near * power_of_two n) (omega arith) in
    omega arith
