-- The rules of the code's tables: each row is the model's pair, by one computed test a table.
use mathlib.Core.Path.{◌≡◌, refl}
use mathlib.Core.Bool.{Bool, ◌&&◌}
use mathlib.Core.List.{List}
use Prim.Native.Nat.{ℕ, ◌*◌, ◌-◌, ◌<◌}
use lib.Dec.{T, eqb, eqb→eq}
use lib.ListN.{get_or}
use native.Mathlib.Omega.{arith}
use mir.Facts.{and_yes}
use Rattle.numbers.proofs.Tested.{passes, at_each}
use Rattle.bounds.specs.Pair.{Pair, scaled_p, quotient_p, at_most_p}
use Rattle.model.specs.Scale.{one, units, halves}
use Rattle.model.specs.Exponential.{exp_term, exp_sum, fraction_exp_pair, decayed, exp_pair}
use Rattle.model.specs.Series.{series_term, series_sum, series_pair}
use Rattle.model.specs.Logarithm.{power_of_two}
use Rattle.model.specs.Integral.{slice_pair, unit_slice, half_slice}
use Rattle.model.specs.Width.{Under}
use Rattle.model.proofs.Slice.{slice_at_most_two}
use Rattle.model.proofs.Parts.{unit_slice_lem, half_slice_lem}
use Rattle.integral.specs.Knots.{knots, knot_exp}
use Rattle.integral.specs.Entries.{unit_rows, half_rows, exp_rows}

-- a row of a table
abbrev row_at : List (ℕ × ℕ) → ℕ → Pair
row_at rows k = let r = get_or rows k (0, 0) in record { low = r.0; high = r.1 }

same : Pair → Pair → Bool
same p q = eqb p.low q.low && eqb p.high q.high

same_is : (p q : Pair) → T (same p q) → p ≡ q
unfolding same
same_is p q t =
    let e = and_yes (eqb p.low q.low) (eqb p.high q.high) t in
    ends (eqb→eq p.low q.low e.0) (eqb→eq p.high q.high e.1)
  where
    ends : {a b c d : ℕ} → a ≡ c → b ≡ d → ◌≡◌ {A = Pair} (record { low = a; high = b }) (record { low = c; high = d })
    ends e f = rw (e, f) refl

pub unit_row : (i : ℕ) → i < units → row_at unit_rows i ≡ unit_slice (units - i)
unfolding passes same unit_slice slice_pair scaled_p at_most_p quotient_p exp_term exp_sum fraction_exp_pair decayed exp_pair series_term series_sum series_pair
unit_row i h = same_is (row_at unit_rows i) (unit_slice (units - i)) (at_each (λ j. same (row_at unit_rows j) (unit_slice (units - j))) units i tt h)

pub half_row : (k : ℕ) → k < halves → row_at half_rows k ≡ half_slice k
unfolding passes same half_slice power_of_two slice_pair scaled_p at_most_p quotient_p exp_term exp_sum fraction_exp_pair decayed exp_pair series_term series_sum series_pair
half_row k h = same_is (row_at half_rows k) (half_slice k) (at_each (λ j. same (row_at half_rows j) (half_slice j)) halves k tt h)

pub exp_row : (j : ℕ) → j < knots → row_at exp_rows j ≡ knot_exp j
unfolding passes same knot_exp power_of_two scaled_p at_most_p quotient_p exp_term exp_sum fraction_exp_pair decayed exp_pair
exp_row j h = same_is (row_at exp_rows j) (knot_exp j) (at_each (λ i. same (row_at exp_rows i) (knot_exp i)) knots j tt h)

-- no whole slice is more than 2
pub unit_slice_most : (i : ℕ) → i < units → Under (2 * one) (unit_slice (units - i))
unfolding unit_slice
unit_slice_most i h = slice_at_most_two (unit_slice_lem (units - i) (omega arith))

pub half_slice_most : (k : ℕ) → Under (2 * one) (half_slice k)
unfolding half_slice
half_slice_most k = slice_at_most_two (half_slice_lem k)
