-- Field by field, the record of the definition.
use Rattle.sheet_rules.specs.Records.{record_of}
use Rattle.records.proofs.held_record.Goals as goal

pub returns : goal.returns
unfolding record_of
returns c = cc
