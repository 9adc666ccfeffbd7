-- The loop is the series at each order; its pair is the sum and what may have been lost. Assumes nothing.
use mathlib.Core.Path.{◌∙◌}
use native.Mathlib.Omega.{arith}
use Rattle.series.proofs.Turns.{series_begin, series_again, series_done}
use Rattle.series.proofs.series.Goals as goal

pub loop-k-init : goal.loop-k-init
loop-k-init c = series_begin _ _ c.requires

pub loop-k-preserved : goal.loop-k-preserved
loop-k-preserved c = series_again _ c.requires (omega arith) (omega arith) c.loop-k.invariant

pub returns : goal.returns
returns c = c.from_naturals.ensures ∙ series_done (omega arith) c.loop-k.invariant
