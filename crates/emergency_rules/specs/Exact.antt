-- Document 01, 'What the distances say', the current: the certifying rule with an exact share, in millionths, for g.
use Rattle.std.specs.Prelude.{ℕ, ◌<◌, pos}
use Rattle.std.proofs.Math.IntN.{suc_ℤ}
use Rattle.numbers.specs.Signed.{of_int}
use Rattle.exact.specs.Value.{Value, AtMost, AtLeast, integer, ◌+ᵥ◌, ◌·ᵥ◌}
use Rattle.emergency_rules.specs.Certifying.{load_change, room_to_limit}

-- the rule's left side
abbrev pub exact_added : ℕ → ℕ → Value → ℕ → Value
exact_added rated h share i = integer (load_change rated h i) ·ᵥ share

pub record CurrentDistance (width rated h r : ℕ) (share : Value) (i : ℕ) : Type 0 where
  -- "the certifying rule, written in whole numbers as above, holds with the exact G in millionths for g"
  pub keeps : AtLeast (of_int (room_to_limit rated h r)) (exact_added rated h share i)
  -- "If i is below 10,000, each larger whole ampere breaks it with the exact G in millionths plus 50 for g: the left side is at least 1 above the right.",
  -- for any width of the share's pair in place of 50
  pub larger_breaks : i < 10000 → (j : ℕ) → i < j → AtMost (of_int (suc_ℤ (room_to_limit rated h r))) (exact_added rated h (share +ᵥ integer (pos width)) j)
