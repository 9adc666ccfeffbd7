-- What a distance asks of the shares' pairs, for any width and any exact shares.
use Prim.Native.Nat.{ℕ}
use Rattle.bounds.specs.declared.Bounds.{Bounds}
use Rattle.exact.specs.Value.{Value, ◌⊴◌}
use Rattle.distance.specs.Around.{Around}
use Rattle.distance.specs.Promised.{Promised}
use Rattle.distance.proofs.Spread.{Spread}

-- the promises of the share, and no lower fraction of the exact one exceeds an upper one
pub record Enclosed (width : ℕ) (exact : Value) (b : Bounds) : Type 0 where
  pub sound : exact ⊴ exact
  pub promised : Promised width exact b

pub enclosed_around : {width : ℕ} {exact : Value} {b : Bounds} → Enclosed width exact b → Around b exact
enclosed_around e = e.promised.around

pub enclosed_spread : {width : ℕ} {exact : Value} {b : Bounds} → Enclosed width exact b → Spread width b
enclosed_spread e = record { narrow = e.promised.narrow }
