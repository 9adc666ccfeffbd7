-- The loop counts one column at a time, which adds at most its 7 values.
use mathlib.Core.Path.{◌≡◌, refl, ap₂}
use mathlib.Core.List.{List, []}
use Prim.Native.Nat.{ℕ, ◌+◌}
use native.Mathlib.Numerals.{add-one}
use native.Mathlib.Omega.{arith}
use lib.ListN.{get_or}
use Rattle.table_1972.specs.Agreement.{agreeing_lines, agreeing_columns}
use Rattle.table_1972.proofs.agreeing.Goals as goal

one_more : (table : List (List ℕ)) (n : ℕ) {count x : ℕ} → count ≡ agreeing_columns table n → x ≡ agreeing_lines n (get_or table n []) 7
    → count + x ≡ agreeing_columns table (n + 1)
unfolding agreeing_columns
one_more table n ec ex = rw (add-one n) (ap₂ (λ a b. a + b) ec ex)

pub loop-column-init : goal.loop-column-init
unfolding agreeing_columns
loop-column-init c = (omega arith, omega arith, refl)

pub loop-column-preserved : goal.loop-column-preserved
loop-column-preserved c =
    let v = c.loop-column in
    (omega arith, omega (arith, c.agreeing_in-count.ensures.1), one_more _ v.column v.invariant.2 c.agreeing_in-count.ensures.0)
