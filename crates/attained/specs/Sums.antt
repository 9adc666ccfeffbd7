-- The two sums of β, as pairs: of heating integrals, and of logarithms. Document 02, note 2.
use Rattle.std.specs.Prelude.{ℕ}
use Rattle.exact.specs.Share.{Source}
use Rattle.bounds.specs.Pair.{Pair, as_bounds, as_pair, add_p}
use Rattle.model.specs.Share.{source_logarithm, source_integral}
use Rattle.attained.specs.declared.Sums.{Sums}

abbrev pub as_sums : Pair → Pair → Sums
as_sums heat logarithm = record { heat = as_bounds heat; logarithm = as_bounds logarithm }

-- "plus, for each neighbour, the integral", and "plus each ln(m²/c²)": one neighbour more
abbrev pub with_source : ℕ → Sums → Source → Sums
with_source diffusion sums x = as_sums (add_p (as_pair sums.heat) (source_integral diffusion x)) (add_p (as_pair sums.logarithm) (source_logarithm x))
