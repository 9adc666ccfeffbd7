-- Each end is the lesser of itself and the top. Assumes nothing.
use mathlib.Core.Path.{◌∙◌, ap₂}
use borrow.Author.Rules.{rules}
use mir.Syntax.{w64}
use mir.Facts.{to_z-of_z}
use Rattle.numbers.specs.Integer.{lesser}
use Rattle.numbers.proofs.Integers.{min_lesser}
use Rattle.numbers.proofs.Machine.{result_seen}
use Rattle.bounds.specs.Operations.{at_most_b}
use Rattle.bounds.proofs.Enclosure.{same_ends, cut}
use Rattle.bounds.proofs.Bounds.at_most.Goals as goal

pub returns : goal.returns
unfolding at_most_b
returns c =
    let l = c.min in
    let h = c.min-2 in
    let top = to_z-of_z c.ranges.top in
    cut
    (same_ends (result_seen l.result l.type_inv ∙ l.ensures.value ∙ min_lesser _ _ ∙ ap₂ lesser (to_z-of_z {w = w64} (search rules)) top)
    (result_seen h.result h.type_inv ∙ h.ensures.value ∙ min_lesser _ _ ∙ ap₂ lesser (to_z-of_z {w = w64} (search rules)) top))
