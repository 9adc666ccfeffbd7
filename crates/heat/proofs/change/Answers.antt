-- The two squares fit, and so does their difference.
use mathlib.Core.Path.{◌≡◌, ap, ◌∙◌}
use native.Mathlib.Omega.{arith}
use lib.IntN.{pos}
use Rattle.bounds.specs.Operations.{point_b, add_b}
use Rattle.bounds.proofs.Sizes.{sized_more}
use Rattle.history_rules.specs.Rise.{change_of}
use Rattle.history_rules.proofs.Sizes.{change_sized, change_is}
use Rattle.heat.proofs.change.Goals as goal

pub add-requires : goal.add-requires
add-requires c =
    let difference : add_b c.whole.result c.neg.result ≡ point_b (change_of c.args.previous c.args.amperes) =
    change_is _ _ (c.whole.ensures.is ∙ ap (λ n. point_b (pos n)) c.square.ensures)
    (c.whole-2.ensures.is ∙ ap (λ n. point_b (pos n)) c.square-2.ensures) c.neg.ensures.is in
    let p = c.requires in
    rw difference (sized_more (omega arith) (change_sized p.0 p.1))

pub returns : goal.returns
returns c =
    let difference : add_b c.whole.result c.neg.result ≡ point_b (change_of c.args.previous c.args.amperes) =
    change_is _ _ (c.whole.ensures.is ∙ ap (λ n. point_b (pos n)) c.square.ensures)
    (c.whole-2.ensures.is ∙ ap (λ n. point_b (pos n)) c.square-2.ensures) c.neg.ensures.is in
    c.add.ensures.is ∙ difference
