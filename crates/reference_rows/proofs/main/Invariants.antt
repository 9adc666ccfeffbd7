-- The loop's invariant: each file has at most as many rows as it may have bytes.
use Rattle.std.proofs.Common.{◌*◌, ◌≤◌}
use Rattle.reference_rows.specs.Counting.{rows_in, table_room}
use Rattle.reference_rows.proofs.main.Given as goal

abbrev pub invariant-loop-name : goal.invariant-loop-name
invariant-loop-name l = rows_in l.counts ≤ table_room * l.name-index
