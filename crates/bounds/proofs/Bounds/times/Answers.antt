-- Each product fits since the definition's ends do. Assumes nothing.
use native.Mathlib.Omega.{arith}
use borrow.Author.Rules.{rules}
use lib.IntN.{pos}
use Rattle.numbers.proofs.Machine.{fits, mul_fits, mul_seen}
use Rattle.bounds.specs.Operations.{times_b}
use Rattle.bounds.proofs.Enclosure.{same_ends, multiple}
use Rattle.bounds.proofs.Bounds.times.Goals as goal

pub overflow_mul-result : goal.overflow_mul-result
unfolding times_b
overflow_mul-result c =
    rw c.signed-factor.ensures
    (mul_fits c.args.self.low (pos c.args.n) (search rules) (fits (pos c.args.n) (omega arith)) (omega (arith, c.requires.products.low)))

pub overflow_mul-result-2 : goal.overflow_mul-result-2
unfolding times_b
overflow_mul-result-2 c =
    rw c.signed-factor.ensures
    (mul_fits c.args.self.high (pos c.args.n) (search rules) (fits (pos c.args.n) (omega arith)) (omega (arith, c.requires.products.high)))

pub returns : goal.returns
unfolding times_b
returns c =
    let n = pos c.args.n in
    rw c.signed-factor.ensures
    (multiple
    (same_ends
    (mul_seen c.args.self.low n (search rules) (fits n (omega arith)) (omega (arith, c.requires.products.low)))
    (mul_seen c.args.self.high n (search rules) (fits n (omega arith)) (omega (arith, c.requires.products.high)))))
