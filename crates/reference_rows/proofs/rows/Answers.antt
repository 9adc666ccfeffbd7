-- Each line takes a byte at least from the rest.
use Rattle.std.proofs.Common.{◌≡◌, ◌∙◌, ◌+◌, ◌<◌, ◌≤◌, ◌++◌, ap, min, arith, ℕ, List, length, length-append}
use Rattle.std.specs.Slice.Iter.{split_inclusive_rest}
use Rattle.reference_rows.proofs.rows.Goals as goal

shorter : (before line after : List ℕ) (i : ℕ) → before ≡ line ++ after → length line ≡ min (i + 1) (length before) → 0 < length before → length after + 1 ≤ length before
shorter before line after i e h some = omega (arith, ap length e, length-append line after)

pub loop-line-init : goal.loop-line-init
loop-line-init c =
    let all : split_inclusive_rest c.into_iter-line-iterator.result ≡ c.args.table.now = ap split_inclusive_rest c.into_iter-line-iterator.ensures.into_iter_gives ∙ c.split_inclusive-line-items.ensures.rest in
    omega (arith, ap length all)

pub with_row-all-requires : goal.with_row-all-requires
with_row-all-requires c = omega (arith, c.in-Some.ensures.steps.2)

pub loop-line-preserved : goal.loop-line-preserved
loop-line-preserved c =
    let step = c.in-Some.ensures.steps in
    omega (arith, shorter _ _ _ step.1.0 step.0 step.1.1 step.2)
