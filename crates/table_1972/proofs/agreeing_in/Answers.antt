-- The loop counts one line at a time.
use mathlib.Core.Path.{◌≡◌, refl, ap, ap₂, ◌∙◌}
use mathlib.Core.Bool.{Bool, true, false}
use mathlib.Core.List.{List}
use Prim.Native.Nat.{ℕ, ◌+◌, ◌≤◌}
use native.Mathlib.Numerals.{add-one}
use native.Mathlib.Omega.{arith}
use borrow.Author.Rules.{rules}
use lib.ListN.{get_or}
use mir.Val.{bool_byte}
use Rattle.table_1972.specs.Agreement.{agrees_at, one_if, agreeing_lines}
use Rattle.table_1972.proofs.agreeing_in.Goals as goal

as_one_if : (b : Bool) → bool_byte b ≡ one_if b
as_one_if true = refl
as_one_if false = refl

at_most_one : (b : Bool) → bool_byte b ≤ 1
at_most_one true = omega arith
at_most_one false = omega arith

one_more : (column : ℕ) (printed : List ℕ) (n : ℕ) {count x : ℕ} {b : Bool} → count ≡ agreeing_lines column printed n → b ≡ agrees_at column n (get_or printed n 0) → x ≡ bool_byte b
    → count + x ≡ agreeing_lines column printed (n + 1)
unfolding agreeing_lines
one_more column printed n {b = b} ec eb ex = rw (add-one n) (ap₂ (λ a b. a + b) ec (ex ∙ as_one_if b ∙ ap one_if eb))

pub loop-line-init : goal.loop-line-init
unfolding agreeing_lines
loop-line-init c = (omega arith, omega arith, refl)

pub loop-line-preserved : goal.loop-line-preserved
loop-line-preserved c =
    let v = c.loop-line in
    let x_is : c.from-count.result ≡ bool_byte c.agrees.result = search rules in
    (omega arith, omega (arith, at_most_one c.agrees.result), one_more _ _ v.line v.invariant.2 c.agrees.ensures x_is)
