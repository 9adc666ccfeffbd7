-- The difference of two points is the point of the difference. Assumes nothing.
use mathlib.Core.Path.{ap, ap₂, ◌∙◌}
use Prim.Native.Nat.{ℕ}
use native.Mathlib.Numerals.{add-one}
use native.Mathlib.Omega.{arith}
use lib.IntN.{pos, ◌-ℤ◌}
use Rattle.bounds.specs.Operations.{point_b, add_b, neg_b}
use Rattle.bounds.specs.Promises.{Sized}
use Rattle.bounds.proofs.Sizes.{sized_more, add_sized, neg_sized}
use Rattle.cycle_rules.specs.Heating.{relative_load}
use Rattle.cycle_rules.specs.Asked.{most_divisor}
use Rattle.cycle_rules.proofs.Heating.{difference_point}
use Rattle.heating.proofs.Day.gathered_load.Goals as goal

pub add-requires : goal.add-requires
add-requires c =
    let here_sized : Sized most_divisor c.whole-here.result = rw c.whole-here.ensures.is (record { low = c.relative_load.ensures.1; high = c.relative_load.ensures.1 }) in
    let before_sized : Sized most_divisor c.whole-before.result = rw c.whole-before.ensures.is (record { low = c.relative_load-2.ensures.1; high = c.relative_load-2.ensures.1 }) in
    rw c.neg.ensures.is (sized_more (omega arith) (add_sized here_sized (neg_sized before_sized)))

pub returns : goal.returns
returns c =
    let s = c.args in
    c.add.ensures.is
    ∙ ap₂ add_b c.whole-here.ensures.is (c.neg.ensures.is ∙ ap neg_b c.whole-before.ensures.is)
    ∙ difference_point c.relative_load.result c.relative_load-2.result
    ∙ ap₂ (λ (a b : ℕ). point_b (pos a -ℤ pos b)) c.relative_load.ensures.0 (c.relative_load-2.ensures.0 ∙ ap (relative_load s.self.now.hours s.hour) (add-one s.i))
