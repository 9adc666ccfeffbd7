-- The fold over the day is the definition's highest. Assumes nothing.
use mathlib.Core.Path.{◌≡◌, ◌∙◌}
use Prim.Native.Nat.{max}
use borrow.Author.Rules.{rules}
use native.Mathlib.Omega.{arith}
use Rattle.std.specs.List.{fold}
use Rattle.heating.proofs.Days.{highest_folded}
use Rattle.heating.proofs.highest_load.Goals as goal

pub returns : goal.returns
returns c =
    let folded : c.fold.result ≡ fold max 0 c.args.hours = search rules in
    folded ∙ highest_folded c.args.hours (omega arith)
