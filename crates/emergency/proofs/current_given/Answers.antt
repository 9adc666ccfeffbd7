-- `emergency::current_given` answers for what is given. Assumes nothing.
use Rattle.emergency_rules.proofs.Answers.{rated_share, answer_after}
use Rattle.emergency.proofs.current_given.Goals as goal

pub after_share-requires : goal.after_share-requires
after_share-requires c = rated_share _ _ c.rated_of.ensures c.share_given-answer.ensures

pub returns : goal.returns
returns c = answer_after _ c.args.given _ _ c.rated_of.ensures c.share_given-answer.ensures c.after_share.ensures
