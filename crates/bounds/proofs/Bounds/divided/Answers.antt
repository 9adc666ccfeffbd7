-- Each end is divided as its rounding says. Assumes nothing.
use mathlib.Core.Path.{◌∙◌, ap}
use borrow.Author.Rules.{rules}
use lib.IntN.{ℤ}
use mir.Syntax.{w64}
use mir.Facts.{to_z-of_z}
use Rattle.numbers.specs.Rounding.{floor_z, ceil_z}
use Rattle.numbers.proofs.Machine.{result_seen}
use Rattle.bounds.specs.Operations.{divided_b}
use Rattle.bounds.proofs.Enclosure.{same_ends, divided}
use Rattle.bounds.proofs.Bounds.divided.Goals as goal

pub returns : goal.returns
unfolding divided_b
returns c =
    let l = c.floor_div in
    let h = c.ceil_div in
    divided c.requires.divisor
    (same_ends
    (result_seen l.result l.type_inv ∙ l.ensures.is ∙ ap (λ (z : ℤ). floor_z z c.args.d) (to_z-of_z {w = w64} (search rules)))
    (result_seen h.result h.type_inv ∙ h.ensures.is ∙ ap (λ (z : ℤ). ceil_z z c.args.d) (to_z-of_z {w = w64} (search rules))))
