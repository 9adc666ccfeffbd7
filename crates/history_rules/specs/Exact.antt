-- Document 01, 'What the distances say': "The exact rise [is its formula] with the exact G for each share. The first step's previous amperes are the
-- starting current." The exact shares, in millionths, are any function from minutes to a value.
use Rattle.std.specs.Prelude.{List, [], ◌∷◌, ℕ, ◌+◌, ◌*◌, pos, nat_abs, ◌-ℤ◌, ◌*ℤ◌, ◌≤ℤ◌}
use Rattle.numbers.specs.Fraction.{whole}
use Rattle.bounds.specs.declared.Bounds.{Bounds}
use Rattle.exact.specs.Value.{Value, number, integer, ◌+ᵥ◌, ◌·ᵥ◌, ◌/ᵥ◌}
use Rattle.distance.specs.Around.{Around}
use Rattle.sheet_rules.specs.Chain.{Step}
use Rattle.history_rules.specs.Rise.{change_of}

-- 'The load sheet': "sum over steps of (amperes² − previous amperes²) · G in millionths"
unfoldable pub exact_sum : (ℕ → Value) → ℕ → List Step → Value
exact_sum shares previous [] = integer (pos 0)
exact_sum shares previous (s ∷ ss) = integer (change_of previous s.amperes) ·ᵥ shares s.minutes +ᵥ exact_sum shares s.amperes ss

-- 'The load sheet': "(start² · 1,000,000 + sum [..]) / rated²"
unfoldable pub exact_rise : (ℕ → Value) → ℕ → ℕ → List Step → Value
exact_rise shares start rated steps =
    (integer (pos (start * start * 1000000)) +ᵥ exact_sum shares start steps) /ᵥ number (whole (rated * rated))

-- "Let D be the sum over the chain's steps of the size of amperes² − previous amperes², 0 with no steps."
unfoldable pub changes : ℕ → List Step → ℕ
changes previous [] = 0
changes previous (s ∷ ss) = nat_abs (change_of previous s.amperes) + changes s.amperes ss

-- "Rise: low is at most the exact rise, high at least. [..] Then rated² · (high − low) is at most 2·rated² + 50·D", for any width of the shares' pairs
-- in place of 50.
pub record RiseDistance (share_width : ℕ) (shares : ℕ → Value) (start rated : ℕ) (steps : List Step) (b : Bounds) : Type 0 where
  pub around : Around b (exact_rise shares start rated steps)
  pub width : (pos (rated * rated) *ℤ (b.high -ℤ b.low)) ≤ℤ pos (2 * (rated * rated) + share_width * changes start steps)
