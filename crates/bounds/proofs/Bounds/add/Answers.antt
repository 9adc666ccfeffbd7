-- Each sum fits since the definition's ends do. Assumes nothing.
use native.Mathlib.Omega.{arith}
use borrow.Author.Rules.{rules}
use Rattle.numbers.proofs.Machine.{add_fits, add_seen}
use Rattle.bounds.specs.Operations.{add_b}
use Rattle.bounds.proofs.Enclosure.{same_ends, sum}
use Rattle.bounds.proofs.Bounds.add.Goals as goal

pub overflow_add-result : goal.overflow_add-result
unfolding add_b
overflow_add-result c =
    add_fits c.args.self.low c.args.other.low (search rules) (search rules) (omega (arith, c.requires.low))

pub overflow_add-result-2 : goal.overflow_add-result-2
unfolding add_b
overflow_add-result-2 c =
    add_fits c.args.self.high c.args.other.high (search rules) (search rules) (omega (arith, c.requires.high))

pub returns : goal.returns
unfolding add_b
returns c =
    sum
    (same_ends
    (add_seen c.args.self.low c.args.other.low (search rules) (search rules) (omega (arith, c.requires.low)))
    (add_seen c.args.self.high c.args.other.high (search rules) (search rules) (omega (arith, c.requires.high))))
