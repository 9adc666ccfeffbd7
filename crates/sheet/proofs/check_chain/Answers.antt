-- The loop's invariant: the walk from the record that is reached comes to what the whole walk does. The measure is the turns left. Assumes nothing.
use Rattle.std.proofs.Common.{◌≡◌, Err, ◌∙◌, rules}
use Rattle.sheet_rules.proofs.EitherChain.{passes, is_refused, goes_nearer, stays}
use Rattle.sheet.proofs.check_chain.Goals as goal

pub returns-in_err-at : goal.returns-in_err-at
returns-in_err-at c =
    let a = c.args in
    let r : c.from_residual.result ≡ Err c.in_err-at.field-0.0 = search rules in
    r
    ∙ is_refused a.links a.cable a.sheet.now c.loop-at.at c.loop-at-test.true c.record_at.ensures.answer c.check_next.ensures c.in_err-at.was
    ∙ c.loop-at.invariant

pub loop-at-smaller : goal.loop-at-smaller
loop-at-smaller c =
    let a = c.args in
    goes_nearer a.links a.cable a.sheet.now c.loop-at.at c.loop-at-test.true c.record_at.ensures.answer c.check_next.ensures c.in_ok-at.was

pub loop-at-preserved : goal.loop-at-preserved
loop-at-preserved c =
    let a = c.args in
    stays a.links a.cable a.sheet.now c.loop-at.at c.loop-at-test.true c.record_at.ensures.answer c.check_next.ensures c.in_ok-at.was
    ∙ c.loop-at.invariant

pub returns : goal.returns
returns c =
    let a = c.args in
    passes a.links a.cable a.sheet.now c.loop-at.at c.loop-at-test.false ∙ c.loop-at.invariant
