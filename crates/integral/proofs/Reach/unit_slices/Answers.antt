-- Each turn adds what lies of one unit slice, as the model's sum does. Assumes nothing.
use mathlib.Core.Path.{ap, ◌∙◌}
use native.Mathlib.Omega.{arith}
use Rattle.bounds.specs.Pair.{as_bounds}
use Rattle.integral.proofs.Rows.{unit_row}
use Rattle.integral.proofs.Turns.{unit_begin, unit_below, unit_all_most, unit_sum_most, unit_part_most, unit_again, unit_done}
use Rattle.integral.proofs.Reach.unit_slices.Goals as goal

pub loop-knot-init : goal.loop-knot-init
loop-knot-init c = unit_begin c.args.self.span c.requires (omega arith)

pub invariant_of-slice : goal.invariant_of-slice
invariant_of-slice c = record { below = unit_below c.args.self.span c.requires (omega arith) c.loop-knot.invariant }

pub part-requires : goal.part-requires
part-requires c = unit_all_most c.args.self.span c.requires (omega arith) c.loop-knot.invariant (c.row.ensures ∙ ap as_bounds (unit_row _ (omega arith)))

pub joined-sum-requires : goal.joined-sum-requires
joined-sum-requires c =
    record {
      sum_most = unit_sum_most c.args.self.span c.requires (omega arith) c.loop-knot.invariant;
      slice_most = unit_part_most c.args.self.span c.requires (omega arith) c.loop-knot.invariant (c.row.ensures ∙ ap as_bounds (unit_row _ (omega arith))) c.part.ensures;
    }

pub loop-knot-preserved : goal.loop-knot-preserved
loop-knot-preserved c =
    unit_again c.args.self.span c.requires (omega arith) c.loop-knot.invariant (c.row.ensures ∙ ap as_bounds (unit_row _ (omega arith))) c.part.ensures c.joined-sum.ensures

pub returns-then-y-last : goal.returns-then-y-last
returns-then-y-last c = unit_done c.args.self.span c.requires (omega arith) c.loop-knot.invariant
