-- How large the parts of the sum and the sum itself can be.
use mathlib.Core.Path.{◌≡◌}
use Prim.Native.Nat.{ℕ, ◌*◌, ◌≤◌}
use native.Mathlib.Omega.{arith}
use native.Mathlib.Nat.{mul-le-mul}
use mathlib.Core.Logic.{⊎_elim}
use lib.IntN.{ℤ, pos, neg_ℤ, nat_abs}
use lib.Signed.{◌≤ℤ◌}
use Rattle.numbers.proofs.Integers.{one_part, le_lin, size_lin, size_add, size_neg}
use Rattle.bounds.specs.Operations.{point_b, add_b, neg_b}
use Rattle.bounds.specs.Promises.{Sized}
use Rattle.bounds.specs.declared.Bounds.{Bounds}
use Rattle.bounds.proofs.Sizes.{mul_sized}
use Rattle.distance.specs.Promised.{Millionths}
use Rattle.sheet_rules.specs.Header.{most_amperes}
use Rattle.history_rules.specs.Rise.{change_of, step_heat, start_heat}
use Rattle.history_rules.specs.Walk.{step_most}

pub square_most : {a : ℕ} → a ≤ most_amperes → a * a ≤ 16000000
square_most h = mul-le-mul h h

pub start_sized : {a : ℕ} → a ≤ most_amperes → Sized step_most (start_heat a)
start_sized h = record { low = omega (arith, square_most h); high = omega (arith, square_most h) }

pub change_sized : {a b : ℕ} → a ≤ most_amperes → b ≤ most_amperes → Sized 32000000 (point_b (change_of a b))
change_sized {a} {b} p q =
    let small : nat_abs (change_of a b) ≤ 32000000 =
    omega (arith, size_add (pos (b * b)) (neg_ℤ (pos (a * a))), size_neg (pos (a * a)), square_most p, square_most q)
    in
    record { low = small; high = small }

millionths_sized : {b : Bounds} → Millionths b → Sized 1000000 b
millionths_sized {b} m = record { low = within m.low_from m.low_to; high = within m.high_from m.high_to }
  where
    within : {z : ℤ} → pos 0 ≤ℤ z → z ≤ℤ pos 1000000 → nat_abs z ≤ 1000000
    within {z} p q = ⊎_elim (λ e. omega (arith, le_lin p, le_lin q, size_lin z)) (λ e. omega (arith, le_lin p, le_lin q, size_lin z)) (one_part z)

pub step_sized : {p : Bounds} {a b : ℕ} → Millionths p → a ≤ most_amperes → b ≤ most_amperes → Sized step_most (step_heat p a b)
step_sized m p q = mul_sized (change_sized p q) (millionths_sized m)

-- the change as it is computed: the sum of a square and of another, negated
pub change_is : {a b n : Bounds} (previous amperes : ℕ) → a ≡ point_b (pos (amperes * amperes)) → b ≡ point_b (pos (previous * previous)) → n ≡ neg_b b → add_b a n ≡ point_b (change_of previous amperes)
unfolding add_b neg_b
change_is previous amperes ea eb en = rw (ea, en, eb)
