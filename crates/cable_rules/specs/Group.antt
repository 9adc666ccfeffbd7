-- What a calculation is asked of: a cable in the ground with what lies beside it, or the refusal of what was handed in. Every calculation is defined once over
-- this, however its cable was come by.
use Rattle.std.specs.Prelude.{List, [], ℕ, Result, Ok, Err}
use Rattle.exact.specs.Share.{Neighbour}
use Rattle.refusals.specs.declared.Refusal.{Refusal}
use Rattle.cable_rules.specs.Checks.{checked, in_use}
use Rattle.cable_rules.specs.declared.Cable.{Cable}

-- The cable in use, and its neighbours in the trench.
pub record Group : Type 0 where
  pub cable : Cable
  pub neighbours : List Neighbour

-- A cable in use with nothing beside it.
abbrev pub only : Cable → Group
only used = record { cable = used; neighbours = [] }

-- "or 0, which stands for 500"
abbrev pub default_diffusivity : ℕ
default_diffusivity = 500

-- The default is put in here, and nothing after it knows of one.
abbrev pub in_trench : Cable → List Neighbour → Group
in_trench cable neighbours = record { cable = in_use default_diffusivity cable; neighbours = neighbours }

-- Document 02, note 2: "without a sheet there are no neighbours"
abbrev pub alone : Cable → Group
alone cable = in_trench cable []

pub data Given : Type 0 where
  accepted : Group → Given
  refused : Refusal → Given

-- what is given where checks 2 and 3 pass; their refusal passes out unchanged
abbrev pub after_check : Result Cable Refusal → Given → Given
after_check (Ok c) given = given
after_check (Err f) given = refused f

unfoldable pub given_cable : Cable → Given
given_cable cable = after_check (checked cable) (accepted (alone cable))

-- a check's cable, where that is the one in use, as what is given
abbrev pub as_given : Result Cable Refusal → Given
as_given (Ok used) = accepted (only used)
as_given (Err f) = refused f
