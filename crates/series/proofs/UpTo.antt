-- Bounds that are not below 0 are the pair of their natural ends.
use mathlib.Core.Path.{◌≡◌, sym}
use Prim.Native.Nat.{ℕ}
use Rattle.bounds.specs.Pair.{Pair, as_bounds, as_pair}
use Rattle.bounds.specs.declared.Bounds.{Bounds}
use Rattle.bounds.proofs.Enclosure.{natural_ends}
use Rattle.model.specs.Width.{Under}
use Rattle.series.specs.Asked.{UpTo}

pub pair_up_to : {most : ℕ} (p : Pair) → Under most p → UpTo most (as_bounds p)
pair_up_to p h = record { not_below = record { low = tt; high = tt }; under = h }

pub up_to_is : {most : ℕ} {b : Bounds} → UpTo most b → b ≡ as_bounds (as_pair b)
up_to_is a = sym (natural_ends a.not_below)
