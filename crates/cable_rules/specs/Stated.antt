-- What the check of a cable states, in the paper's own numbers.
use Rattle.std.specs.Prelude.{map, pos, Result, Ok, Err}
use Rattle.refusals.specs.Stated.{Stated, stated_values, stated_refusal}
use Rattle.cable_rules.specs.Checks.{fields}
use Rattle.refusals.specs.declared.Refusal.{Refusal}
use Rattle.cable_rules.specs.declared.Cable.{Cable}

-- An accepted cable states its eight fields.
abbrev pub stated_check : Result Cable Refusal → Stated
stated_check (Ok c) = stated_values (map pos (fields c))
stated_check (Err f) = stated_refusal f
