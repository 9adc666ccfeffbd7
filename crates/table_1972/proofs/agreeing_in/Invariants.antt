-- The loop counts one line at a time.
use mathlib.Core.Path.{◌≡◌}
use Prim.Native.Nat.{◌≤◌}
use Rattle.table_1972.specs.Agreement.{agreeing_lines}
use Rattle.table_1972.proofs.agreeing_in.Given as goal

abbrev pub invariant-loop-line : goal.invariant-loop-line
invariant-loop-line l = (l.line ≤ 7) × (l.count ≤ l.line) × (l.count ≡ agreeing_lines l.column l.fn.printed l.line)
