-- The product's high end is compared, as in the definition. Assumes nothing.
use mathlib.Core.Path.{ap, ◌∙◌}
use borrow.Author.Rules.{rules}
use lib.IntN.{ℤ, pos}
use lib.Signed.{le_z}
use mir.Syntax.{w64}
use mir.Facts.{to_z-of_z}
use Rattle.bounds.specs.Operations.{times_b}
use Rattle.bounds.specs.declared.Bounds.{Bounds}
use Rattle.cycle_rules.specs.Factor.{most_heating, allowed}
use Rattle.cycle_rules.proofs.FactorTest.{test_room}
use Rattle.factors.proofs.allowed.Goals as goal

pub times-heating-requires : goal.times-heating-requires
times-heating-requires c = rw c.square.ensures (test_room c.requires.0 c.requires.1)

pub returns : goal.returns
unfolding allowed times_b
returns c =
    let product = c.times-heating in
    ap (λ (z : ℤ). le_z z (pos most_heating)) (to_z-of_z {w = w64} {z = product.result.high} (search rules))
    ∙ ap (λ (b : Bounds). le_z b.high (pos most_heating)) (product.ensures.is ∙ ap (times_b c.args.sum) c.square.ensures)
