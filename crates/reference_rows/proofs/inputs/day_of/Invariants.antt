-- The loop's invariant: the hours so far are those of the list.
use Rattle.reference_rows.specs.Inputs.{HoursTo}
use Rattle.reference_rows.proofs.inputs.day_of.Given as goal

abbrev pub invariant-loop-k : goal.invariant-loop-k
invariant-loop-k l = HoursTo l.k l.list l.hours
