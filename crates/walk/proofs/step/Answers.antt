-- The check's refusal is handed out, and a checked record is stepped to. Assumes nothing.
use Rattle.std.proofs.Common.{◌≡◌, Err, sym, ◌∙◌, rules}
use Rattle.history_rules.proofs.AtRecord.{read_refused, read_accepted, step_to}
use Rattle.walk.proofs.step.Goals as goal

pub returns-in_err-next : goal.returns-in_err-next
returns-in_err-next c =
    let r : c.from_residual.result ≡ Err c.in_err-next.field-0.0 = search rules in
    r ∙ read_refused _ _ _ (sym c.check_record.ensures.answer ∙ c.in_err-next.was)

pub step_to-requires : goal.step_to-requires
step_to-requires c = (c.requires, step_to _ _ (sym c.check_record.ensures.answer ∙ c.in_ok-next.was))

pub returns : goal.returns
returns c = c.step_to.ensures ∙ read_accepted _ _ _ (sym c.check_record.ensures.answer ∙ c.in_ok-next.was)
