-- The loop's invariant: for each row that is counted the rest has lost a byte.
use Rattle.std.proofs.Common.{◌+◌, ◌≤◌, length}
use Rattle.std.specs.Slice.Iter.{split_inclusive_rest}
use Rattle.reference_rows.specs.Counting.{rows_in}
use Rattle.reference_rows.proofs.rows.Given as goal

abbrev pub invariant-loop-line : goal.invariant-loop-line
invariant-loop-line l = rows_in l.all + length (split_inclusive_rest l.line-iterator) ≤ rows_in l.initial.all + length l.table
