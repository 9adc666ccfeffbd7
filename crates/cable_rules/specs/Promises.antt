-- What the functions on a cable promise.
use Rattle.std.specs.Prelude.{◌≡◌, Result}
use Rattle.cable_rules.specs.Checks.{checked}
use Rattle.cable_rules.specs.Group.{only, alone, given_cable, as_given}
use Rattle.cable_rules.specs.declared.Cable.{Cable}
use Rattle.refusals.specs.declared.Refusal.{Refusal}

pub record Checked (c : Cable) (r : Result Cable Refusal) : Type 0 where
  pub answer : r ≡ checked c

pub record Alone (c r : Cable) : Type 0 where
  pub answer : only r ≡ alone c

pub record GivenBy (c : Cable) (r : Result Cable Refusal) : Type 0 where
  pub answer : as_given r ≡ given_cable c
