-- What the code hands on: a cable in use beside the bytes that its neighbours stand in, or a check's refusal.
use Rattle.std.specs.Prelude.{Result, Ok, Err}
use Rattle.cable_rules.specs.Group.{Group, Given, accepted, refused}
use Rattle.refusals.specs.declared.Refusal.{Refusal}
use Rattle.sheet_rules.specs.Sheet.{group_in}
use Rattle.sheet_rules.specs.declared.Ground.{Ground}

-- the cable and its neighbours
abbrev pub group_at : Ground → Group
group_at g = group_in g.sheet.now g.trench

-- as what is given
abbrev pub as_given_in : Result Ground Refusal → Given
as_given_in (Ok g) = accepted (group_at g)
as_given_in (Err f) = refused f
