-- The share of a checked record is not refused, and the sum leaves room for its part. Assumes nothing.
use Rattle.std.proofs.Common.{Ok}
use mathlib.Core.Path.{◌≡◌, sym, ap, ◌∙◌}
use Rattle.share_rules.specs.Answer.{share_from}
use Rattle.share_rules.specs.declared.ShareAnswer.TheVariants as S
use Rattle.sheet_rules.specs.Ground.{group_at}
use Rattle.history_rules.proofs.AtRecord.{share_not_refused, mul_room, add_room, next_is}
use Rattle.walk.proofs.step_to.Goals as goal

pub returns-in_default : goal.returns-in_default
returns-in_default c =
    absurd (share_not_refused c.args.ground c.requires.0 c.requires.1 (sym c.share_of-answer.ensures ∙ c.in_default.is))

pub mul-requires : goal.mul-requires
mul-requires c =
    let paired : share_from (group_at c.args.ground) c.args.next.minutes ≡ S.Pair c.in-Pair.pair = sym c.share_of-answer.ensures ∙ c.in-Pair.is in
    mul_room c.args.ground c.requires.0 c.requires.1 paired c.change.ensures

pub add-requires : goal.add-requires
add-requires c =
    let paired : share_from (group_at c.args.ground) c.args.next.minutes ≡ S.Pair c.in-Pair.pair = sym c.share_of-answer.ensures ∙ c.in-Pair.is in
    add_room c.args.ground c.requires.0 c.requires.1 paired c.change.ensures c.mul.ensures.is

pub returns : goal.returns
returns c =
    let paired : share_from (group_at c.args.ground) c.args.next.minutes ≡ S.Pair c.in-Pair.pair = sym c.share_of-answer.ensures ∙ c.in-Pair.is in
    ap Ok (next_is c.args.ground c.requires.0 c.requires.1 paired c.change.ensures c.mul.ensures.is c.add.ensures.is)
