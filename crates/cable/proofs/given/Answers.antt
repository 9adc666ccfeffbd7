-- Case by case, what the check gives. Assumes nothing.
use Rattle.std.proofs.Common.{◌≡◌, Ok, Err, rules}
use Rattle.cable_rules.specs.Checks.{checked}
use Rattle.cable_rules.proofs.Acceptance.{check_given, check_refused}
use Rattle.cable.proofs.given.Goals as goal

pub returns-in_err-accepted : goal.returns-in_err-accepted
returns-in_err-accepted c =
    let f : checked c.args.cable ≡ Err c.in_err-accepted.field-0.0 = search rules in
    let r : c.from_residual.result ≡ Err c.in_err-accepted.field-0.0 = search rules in
    record { answer = rw r (check_refused _ f) }

pub returns : goal.returns
returns c =
    let a : checked c.args.cable ≡ Ok c.in_ok-accepted.accepted = search rules in
    record { answer = check_given _ _ a c.alone.ensures.answer }
