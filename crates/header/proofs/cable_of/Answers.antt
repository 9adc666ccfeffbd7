-- Field by field, the cable of the definition.
use Rattle.sheet_rules.specs.Header.{cable_of}
use Rattle.header.proofs.cable_of.Goals as goal

pub returns : goal.returns
unfolding cable_of
returns c = cc
