-- The sole claim: every row of the table holds of the definitions. A row without a name here is computed.
use mathlib.Core.Path.{refl}
use Rattle.numbers.specs.Rounding.{floor_z, ceil_z}
use Rattle.bounds.specs.Operations.{add_b, divided_b}
use Rattle.cable_rules.specs.Checks.{outside_field, checked, in_use}
use Rattle.cable_rules.specs.Group.{given_cable}
use Rattle.share_rules.specs.Answer.{share_from}
use Rattle.sheet_rules.specs.BigEndian.{big_endian}
use Rattle.sheet_rules.specs.Layout.{header_length, wrong_length}
use Rattle.sheet_rules.specs.Header.{cable_of, checked_header}
use Rattle.sheet_rules.specs.Records.{record_of, record_at, checked_record}
use Rattle.sheet_rules.specs.Walk.{walk_from}
use Rattle.sheet_rules.specs.Neighbours.{checked_neighbour}
use Rattle.sheet_rules.specs.Sheet.{checked_sheet, given_sheet}
use Rattle.history_rules.specs.Rise.{sum_of, rise_of}
use Rattle.history_rules.specs.Answer.{rise_answer}
use Rattle.cycle_rules.specs.Answer.{factor_from}
use Rattle.emergency_rules.specs.Answer.{current_from, current_of}
use Rattle.cases.specs.Table.{Hold, all, ◌⨾◌, table}
use Rattle.cases.proofs.Shares.{C9, C10}
use Rattle.cases.proofs.Rises.{C2, shared}
use Rattle.cases.proofs.Factors.{C3, C4}
use Rattle.cases.proofs.Currents.{C5, C6, C7, C8}

pub all_cases : Hold table
unfolding header_length checked_neighbour checked_sheet given_sheet given_cable checked outside_field in_use share_from checked_header wrong_length cable_of big_endian walk_from checked_record record_at record_of rise_answer rise_of sum_of add_b divided_b floor_z ceil_z factor_from current_of current_from
all_cases =
    -- C1 to C12
    refl ⨾ refl ⨾ C2 ⨾ C3 ⨾ C4 ⨾ C5 ⨾ C6 ⨾ C7 ⨾ C8 ⨾ C9 ⨾ C10 ⨾ refl ⨾ refl ⨾ refl
    -- the small examples 1 to 13, two of 12
    ⨾ refl ⨾ refl ⨾ refl ⨾ refl ⨾ refl ⨾ refl ⨾ refl ⨾ refl ⨾ refl ⨾ refl ⨾ refl ⨾ refl ⨾ refl ⨾ refl
    -- those of 14, 15 and 16, the sheets of note 2 and the lengths
    ⨾ refl ⨾ refl ⨾ refl ⨾ refl ⨾ refl ⨾ refl ⨾ refl ⨾ refl ⨾ refl ⨾ refl ⨾ refl ⨾ shared ⨾ refl ⨾ refl ⨾ refl ⨾ refl ⨾ refl ⨾ refl
    -- the orders of the sheet, of its neighbours, of the share, the cycle and the emergency current
    ⨾ refl ⨾ refl ⨾ refl ⨾ refl ⨾ refl ⨾ refl ⨾ refl ⨾ refl
    ⨾ refl ⨾ refl ⨾ refl ⨾ refl ⨾ refl ⨾ refl ⨾ refl
    ⨾ refl ⨾ refl ⨾ refl ⨾ refl ⨾ refl ⨾ refl
    ⨾ refl ⨾ refl ⨾ refl ⨾ refl ⨾ refl ⨾ refl
    ⨾ refl ⨾ refl ⨾ refl ⨾ refl ⨾ refl ⨾ refl ⨾ refl
    ⨾ all
