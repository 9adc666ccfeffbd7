-- The line of each question is its own.
use Rattle.answers.proofs.Answered.{answered}
use Rattle.answers.proofs.of_cable.Goals as goal

pub returns-in-Share : goal.returns-in-Share
returns-in-Share c = rw c.in-Share.is (answered c.share.result (rw c.cable_from-cable.ensures at c.share.ensures) c.share_line.ensures)

pub returns-in-Factor : goal.returns-in-Factor
returns-in-Factor c =
    rw c.in-Factor.is (answered c.factor.result (record { hours = c.hours_from.result; are = c.hours_from.ensures; said = rw c.cable_from-cable.ensures at c.factor.ensures }) c.factor_line.ensures)

pub returns-in-Current : goal.returns-in-Current
returns-in-Current c = rw c.in-Current.is (answered c.current.result (rw c.cable_from-cable.ensures at c.current.ensures) c.current_line.ensures)
