-- Document 01, 'The cable': a group as the plain numbers of the exact values, and what its checks let pass.
use Rattle.std.specs.Prelude.{◌≡◌, ◌≤◌}
use Rattle.exact.specs.Share.{CableNumbers, InRange, AllInTrench}
use Rattle.cable_rules.specs.Group.{Group, Given, accepted}

-- Fields 1 to 7 of the cable in use, and the neighbours.
abbrev pub numbers_in : Group → CableNumbers
numbers_in g = record {
  d = g.cable.diameter;
  l = g.cable.depth;
  s = g.cable.diffusivity;
  k = g.cable.surface_ratio;
  w = g.cable.fast_weight;
  fast = g.cable.fast_rate;
  slow = g.cable.slow_rate;
  neighbours = g.neighbours;
}

-- The cable in use is in range, so is its field 8, and so is each neighbour.
pub record Acceptable (g : Group) : Type 0 where
  pub numbers : InRange (numbers_in g)
  pub beside : AllInTrench (numbers_in g) g.neighbours
  pub rated_from : 50 ≤ g.cable.rated
  pub rated_to : g.cable.rated ≤ 2000

-- Whatever is given as accepted is acceptable.
abbrev pub Sound : Given → Type 0
Sound given = (g : Group) → given ≡ accepted g → Acceptable g
