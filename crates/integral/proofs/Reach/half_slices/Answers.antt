-- Each turn adds what lies of one half slice, as the model's sum does, with all distances doubled once more. Assumes nothing.
use mathlib.Core.Path.{ap, ◌∙◌}
use native.Mathlib.Omega.{arith}
use Rattle.bounds.specs.Pair.{as_bounds}
use Rattle.integral.proofs.Rows.{half_row}
use Rattle.integral.proofs.Turns.{half_begin, divisor_small, half_below, half_all_most, half_sum_most, half_part_most, half_again, half_done}
use Rattle.integral.proofs.Reach.half_slices.Goals as goal

pub loop-k-init : goal.loop-k-init
loop-k-init c = half_begin c.args.self.span c.requires c.least-end.ensures

pub overflow_mul-divisor : goal.overflow_mul-divisor
overflow_mul-divisor c = let h = divisor_small c.args.self.span c.requires (omega arith) c.loop-k.invariant in omega arith

pub invariant_of-slice : goal.invariant_of-slice
invariant_of-slice c = record { below = half_below c.args.self.span c.requires (omega arith) c.loop-k.invariant }

pub part-part-requires : goal.part-part-requires
part-part-requires c = half_all_most c.args.self.span c.requires (omega arith) c.loop-k.invariant (c.row.ensures ∙ ap as_bounds (half_row _ (omega arith)))

pub joined-sum-requires : goal.joined-sum-requires
joined-sum-requires c =
    record {
      sum_most = half_sum_most c.args.self.span c.requires (omega arith) c.loop-k.invariant;
      slice_most = half_part_most c.args.self.span c.requires (omega arith) c.loop-k.invariant (c.row.ensures ∙ ap as_bounds (half_row _ (omega arith))) c.part-part.ensures;
    }

pub loop-k-preserved : goal.loop-k-preserved
loop-k-preserved c =
    half_again c.args.self.span c.requires (omega arith) c.loop-k.invariant (c.row.ensures ∙ ap as_bounds (half_row _ (omega arith))) c.part-part.ensures c.joined-sum.ensures c.least-end-in-loop-k.ensures

pub returns-then-diffusion-start : goal.returns-then-diffusion-start
returns-then-diffusion-start c = half_done c.args.self.span c.requires (omega arith) c.loop-k.invariant
