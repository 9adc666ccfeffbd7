-- The loop counts one column at a time, which adds at most its 7 values.
use mathlib.Core.Path.{◌≡◌}
use Prim.Native.Nat.{◌*◌, ◌≤◌}
use Rattle.table_1972.specs.Agreement.{agreeing_columns}
use Rattle.table_1972.proofs.agreeing.Given as goal

abbrev pub invariant-loop-column : goal.invariant-loop-column
invariant-loop-column l = (l.column ≤ 45) × (l.count ≤ 7 * l.column) × (l.count ≡ agreeing_columns l.fn.table l.column)
