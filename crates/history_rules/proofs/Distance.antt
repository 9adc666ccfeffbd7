-- How far the rise may be from the exact rise: document 01, 'What the distances say'. By induction over the steps, whatever they are and however many, for
-- every width of the shares' pairs and every exact shares that lie between them.
use mathlib.Core.List.{List}
use Prim.Native.Nat.{ℕ, ◌*◌, ◌<◌}
use native.Mathlib.Nat.{mul-le-mul}
use native.Mathlib.Omega.{arith}
use lib.Dec.{T}
use lib.IntN.{pos}
use Rattle.numbers.specs.Fraction.{whole}
use Rattle.numbers.specs.Signed.{of_int, of_frac}
use Rattle.numbers.proofs.SignedFractions.{refl≼ₛ}
use Rattle.bounds.specs.declared.Bounds.{Bounds}
use Rattle.exact.specs.Value.{Value, ◌⊴◌, integer, ◌+ᵥ◌}
use Rattle.exact.proofs.Plain.{both}
use Rattle.exact.proofs.Values.{constant⊴, add⊴, mul⊴, quot⊴}
use Rattle.distance.specs.Around.{Around}
use Rattle.distance.proofs.Around.{around_integer, around_add, around_times, around_divided}
use Rattle.distance.proofs.Spread.{Spread, spread_point, spread_more, spread_add, spread_times, spread_divided, quotient_bounds}
use Rattle.distance.proofs.Enclosed.{Enclosed, enclosed_around, enclosed_spread}
use Rattle.sheet_rules.specs.Chain.{Step}
use Rattle.history_rules.specs.Rise.{change_of, sum_of, rise_of}
use Rattle.history_rules.specs.Exact.{exact_sum, exact_rise, changes, RiseDistance}
use Rattle.history_rules.proofs.Steps.{AtSteps, none, more}

module _ (width : ℕ) (shares : ℕ → Value) (pairs : ℕ → Bounds) where
  -- the pair of a minute count encloses its exact share
  abbrev pub EnclosedAt : ℕ → Type 0
  EnclosedAt minutes = Enclosed width (shares minutes) (pairs minutes)

  -- ---- the sum over the steps

  record SumHeld (previous : ℕ) (steps : List Step) : Type 0 where
    sound : exact_sum shares previous steps ⊴ exact_sum shares previous steps
    around : Around (sum_of pairs previous steps) (exact_sum shares previous steps)
    spread : Spread (width * changes previous steps) (sum_of pairs previous steps)

  sum_held : (previous : ℕ) {steps : List Step} → AtSteps EnclosedAt steps → SumHeld previous steps
  unfolding sum_of exact_sum changes
  sum_held previous none =
      record {
        sound = constant⊴ (refl≼ₛ (of_int (pos 0)));
        around = around_integer (pos 0);
        spread = spread_more (omega arith) (spread_point (pos 0));
      }
  sum_held previous (more {s} {ss} e es) =
      let z = change_of previous s.amperes in
      let rest = sum_held s.amperes es in
      record {
        sound = add⊴ (mul⊴ (constant⊴ (refl≼ₛ (of_int z))) e.sound) rest.sound;
        around = around_add (around_times z e.sound (enclosed_around e)) rest.around;
        spread = spread_more (omega arith) (spread_add (spread_times z e.promised.ordered (enclosed_spread e)) rest.spread);
      }

  -- ---- the rise

  module _ (start rated : ℕ) (zr : 0 < rated) {steps : List Step} (each : AtSteps EnclosedAt steps) where
    divisor_above : 0 < rated * rated
    divisor_above = omega (arith, mul-le-mul zr zr)

    numerator_sound : (integer (pos (start * start * 1000000)) +ᵥ exact_sum shares start steps) ⊴ (integer (pos (start * start * 1000000)) +ᵥ exact_sum shares start steps)
    numerator_sound = add⊴ (constant⊴ (refl≼ₛ (of_int (pos (start * start * 1000000))))) (sum_held start each).sound

    pub rise_sound : exact_rise shares start rated steps ⊴ exact_rise shares start rated steps
    unfolding exact_rise
    rise_sound = quot⊴ numerator_sound (constant⊴ (refl≼ₛ (of_frac (whole (rated * rated)))))

    pub rise_distance : RiseDistance width shares start rated steps (rise_of pairs start rated steps)
    unfolding rise_of exact_rise
    rise_distance =
        let held = sum_held start each in
        let z = pos (start * start * 1000000) in
        record {
          around = around_divided (rated * rated) divisor_above numerator_sound (around_add (around_integer z) held.around);
          width = spread_divided divisor_above (spread_more (omega arith) (spread_add (spread_point z) held.spread));
        }

-- every order that gives bounds of each step's share gives bounds of the rise
module _ (shares : ℕ → Value) (n : ℕ) where
  sum_bounds : (previous : ℕ) {steps : List Step} → AtSteps (λ (m : ℕ). T ((shares m).ok n)) steps → T ((exact_sum shares previous steps).ok n)
  unfolding exact_sum
  sum_bounds previous none = tt
  sum_bounds previous (more {s} {ss} t ts) = both ((shares s.minutes).ok n) ((exact_sum shares s.amperes ss).ok n) t (sum_bounds s.amperes ts)

  pub rise_bounds : (start rated : ℕ) → 0 < rated → {steps : List Step} → AtSteps (λ (m : ℕ). T ((shares m).ok n)) steps → T ((exact_rise shares start rated steps).ok n)
  unfolding exact_rise
  rise_bounds start rated zr {steps} each =
      quotient_bounds (rated * rated) (omega (arith, mul-le-mul zr zr)) (integer (pos (start * start * 1000000)) +ᵥ exact_sum shares start steps) n (sum_bounds start each)
