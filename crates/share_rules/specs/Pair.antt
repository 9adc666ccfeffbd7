-- Document 01, 'What the contracts must leave no doubt about', 1: "Left open is the share pair inside its 50 millionths, the same pair in every call
-- for equal inputs of a share." The pair is shut: what may be used of it are the promises of `Promises`; `share_pair_is` is for the proof of `pair_of`.
use Rattle.std.specs.Prelude.{◌≡◌, refl, ℕ, ◌*◌}
use Rattle.exact.specs.Share.{CableNumbers, sources}
use Rattle.bounds.specs.Pair.{as_bounds}
use Rattle.bounds.specs.declared.Bounds.{Bounds}
use Rattle.cable_rules.specs.Group.{Group}
use Rattle.cable_rules.specs.InRange.{numbers_in}
use Rattle.model.specs.Share.{attained_share}

-- t: "seconds, 60 times the minutes"
abbrev pub seconds_of : ℕ → ℕ
seconds_of minutes = 60 * minutes

-- The pair of plain numbers, in millionths.
abbrev pub pair_of : CableNumbers → ℕ → Bounds
pair_of c minutes = as_bounds (attained_share c.d c.l c.s c.k c.w c.fast c.slow (seconds_of minutes) (sources c))

pub share_pair : Group → ℕ → Bounds
share_pair g minutes = pair_of (numbers_in g) minutes

pub share_pair_is : (g : Group) (minutes : ℕ) → share_pair g minutes ≡ pair_of (numbers_in g) minutes
unfolding share_pair
share_pair_is g minutes = refl
