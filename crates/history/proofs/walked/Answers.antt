-- The loop's invariant is `AtRecord`: at each record of the chain the answer of the rest is the sheet's. The measure is the record's minutes.
use Rattle.history_rules.proofs.AtRecord.{first_amperes, at_start, chain_ended, turn_refused, turn_next}
use Rattle.history_rules.proofs.Said.{said}
use Rattle.history_rules.specs.Answer.{history_of, RiseSaid}
use Rattle.std.proofs.Common.{sym, subst}
use Rattle.history.proofs.walked.Goals as goal
use Rattle.history.proofs.walked.Goals.{then-last-eq0, else-last-eq0+in-Err}

pub begin-at-requires : goal.begin-at-requires
begin-at-requires g c = first_amperes c.requires.begins

pub loop-last-init : goal.loop-last-init
loop-last-init g c = at_start c.requires.begins c.begin-at.ensures

pub loop-last-smaller : goal.loop-last-smaller
loop-last-smaller g c =
    (turn_next c.loop-last.invariant c.if-last-eq0.false (c.requires.reads _ _ c.read.ensures).answer c.step-turn.ensures c.in-Ok.is).0

pub loop-last-preserved : goal.loop-last-preserved
loop-last-preserved g c =
    (turn_next c.loop-last.invariant c.if-last-eq0.false (c.requires.reads _ _ c.read.ensures).answer c.step-turn.ensures c.in-Ok.is).1

pub returns : goal.returns
returns g c =
    elim c.if-last-eq0.branch [
      | then-last-eq0 w ↦
          subst (RiseSaid (history_of _)) (sym w.result-is)
          (said _ (chain_ended c.loop-last.invariant w.if-last-eq0.true w.end.ensures))
      | else-last-eq0+in-Err w ↦
          subst (RiseSaid (history_of _)) (sym w.result-is)
          (said _ (turn_refused c.loop-last.invariant w.if-last-eq0.false (c.requires.reads _ _ w.read.ensures).answer w.step-turn.ensures w.in-Err.is))
    ]
