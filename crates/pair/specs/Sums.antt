-- The sums of a group's sources after some seconds, and what `pair_of` and `sums_in` ask.
use Rattle.std.specs.Prelude.{◌≡◌, ℕ}
use Rattle.exact.specs.Share.{sources, Accepted}
use Rattle.model.specs.Share.{group_integral, group_logarithm}
use Rattle.attained.specs.Sums.{as_sums}
use Rattle.attained.specs.declared.Sums.{Sums}
use Rattle.cable_rules.specs.Group.{Group}
use Rattle.cable_rules.specs.InRange.{numbers_in}
use Rattle.sheet_rules.specs.Ground.{group_at}
use Rattle.sheet_rules.specs.declared.Ground.{Ground}
use Rattle.share_rules.specs.Pair.{seconds_of}

abbrev pub sums_in : Group → ℕ → Sums
sums_in g t =
    let c = numbers_in g in
    as_sums (group_integral c.d c.l c.s t (sources c)) (group_logarithm c.d c.l (sources c))

-- a minute count that the cable and its neighbours may be asked for
pub record Timed (g : Ground) (minutes : ℕ) : Type 0 where
  pub accepted : Accepted (numbers_in (group_at g)) minutes

-- .. and its seconds
pub record Summed (g : Ground) (seconds : ℕ) : Type 0 where
  pub minutes : ℕ
  pub timed : Timed g minutes
  pub seconds_are : seconds ≡ seconds_of minutes
