-- The refusal that is named, or the results.
use Rattle.std.proofs.Common.{arith, ◌<◌, ◌≤◌, sym, length}
use borrow.Author.Tests.{lt-ltb, le-ltb}
use Rattle.reference_rows.specs.Verdicts.{verdict_of}
use Rattle.reference_rows.proofs.verdicts.judge.Goals as goal

pub returns-then-is_empty : goal.returns-then-is_empty
unfolding verdict_of
returns-then-is_empty c =
    let none : length c.value-refused.result.now ≤ 0 = grind arith in
    rw (sym c.value-refused.ensures, le-ltb 0 (length c.value-refused.result.now) none) c.by_results.ensures

pub returns-else-is_empty : goal.returns-else-is_empty
unfolding verdict_of
returns-else-is_empty c =
    let some : 0 < length c.value-refused.result.now = grind arith in
    rw (sym c.value-refused.ensures, lt-ltb 0 _ some) c.refusal.ensures
