-- The sum, cut off. Assumes nothing.
use mathlib.Core.Path.{◌∙◌}
use Rattle.numbers.proofs.Machine.{result_seen}
use Rattle.integral.proofs.Slices.{joint_room, joint_is}
use Rattle.integral.proofs.Reach.joined.Goals as goal

pub add-requires : goal.add-requires
add-requires c = joint_room c.args.self.span.top_small c.requires.sum_most c.requires.slice_most

pub returns : goal.returns
returns c =
    let l = c.signed in
    rw (c.at_most.ensures.is, c.add.ensures.is)
    (joint_is c.args.self.span.top_small c.requires.sum_most c.requires.slice_most (result_seen l.result l.type_inv ∙ l.ensures))
