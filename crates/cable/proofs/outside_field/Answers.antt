-- Field 3 is tested as the definition does, and the others are tested as they are. Assumes nothing.
use Rattle.std.proofs.Common.{◌≡◌, arith}
use Rattle.ranges.specs.Ranges.{◌to◌, or_zero, outside}
use Rattle.ranges.proofs.Ranges.{or_zero_least, or_zero_other}
use Rattle.cable_rules.specs.Checks.{outside_field}
use Rattle.cable.proofs.outside_field.Goals as goal
use Rattle.cable.proofs.outside_field.Goals.{then-diffusivity-eq0, else-diffusivity-eq0}

pub returns : goal.returns
unfolding outside_field
returns c =
    let tested : outside (or_zero (100 to 2000)) c.args.cable.diffusivity ≡ outside (100 to 2000) c.if-diffusivity-eq0.diffusivity =
    elim c.if-diffusivity-eq0.branch [
      | then-diffusivity-eq0 w ↦ rw w.diffusivity-is (or_zero_least 100 2000 _ (omega arith) w.if-diffusivity-eq0.true)
      | else-diffusivity-eq0 w ↦ rw w.diffusivity-is (or_zero_other 100 2000 _ w.if-diffusivity-eq0.false)
    ] in
    rw tested c.first_outside.ensures
