-- C2, and a record on both chains: a step that changes nothing adds nothing, whatever its share is.
use mathlib.Core.Path.{◌≡◌}
use mathlib.Core.List.{[], ◌∷◌}
use Prim.Native.Nat.{ℕ}
use lib.IntN.{pos, zero-*ℤ}
use Rattle.numbers.specs.Integer.{lesser, greater}
use Rattle.numbers.specs.Rounding.{floor_z, ceil_z}
use Rattle.bounds.specs.Operations.{point_b, add_b, mul_b, divided_b}
use Rattle.bounds.specs.declared.Bounds.{Bounds}
use Rattle.cable_rules.specs.Checks.{outside_field, checked, in_use}
use Rattle.cable_rules.specs.Group.{alone, in_trench}
use Rattle.share_rules.specs.Pair.{share_pair}
use Rattle.sheet_rules.specs.BigEndian.{big_endian}
use Rattle.sheet_rules.specs.Layout.{header_length, wrong_length}
use Rattle.sheet_rules.specs.Header.{cable_of, checked_header}
use Rattle.sheet_rules.specs.Records.{record_of, record_at, checked_record}
use Rattle.sheet_rules.specs.Chain.{Step}
use Rattle.sheet_rules.specs.Walk.{walk_from}
use Rattle.sheet_rules.specs.Neighbours.{checked_neighbour}
use Rattle.sheet_rules.specs.Sheet.{checked_sheet, given_sheet}
use Rattle.history_rules.specs.Rise.{sum_of, rise_of}
use Rattle.history_rules.specs.Answer.{rise_answer}
use Rattle.cases.specs.Table.{Meant, gives, rise, sheet, values, cable_a}

pub none_of : (b : Bounds) → mul_b (point_b (pos 0)) b ≡ point_b (pos 0)
unfolding mul_b lesser greater
none_of b = rw (zero-*ℤ b.low, zero-*ℤ b.high)

abbrev step : ℕ → ℕ → ℕ → Step
step number minutes amperes = record { number = number; minutes = minutes; amperes = amperes }

same_step : (pairs : ℕ → Bounds) → rise_of pairs 300 400 (step 1 1000 300 ∷ []) ≡ point_b (pos 562500)
unfolding rise_of sum_of add_b divided_b floor_z ceil_z
same_step pairs = rw (none_of (pairs 1000))

same_load : (pairs : ℕ → Bounds) → rise_of pairs 300 400 (step 1 60 300 ∷ step 2 30 300 ∷ []) ≡ point_b (pos 562500)
unfolding rise_of sum_of add_b divided_b floor_z ceil_z
same_load pairs = rw (none_of (pairs 60), none_of (pairs 30))

pub C2 : Meant (gives (rise (sheet cable_a (300 ∷ 1 ∷ 60 ∷ 300 ∷ 2 ∷ 30 ∷ 300 ∷ 0 ∷ []))) (values (562500 ∷ 562500 ∷ [])))
unfolding header_length rise_answer given_sheet checked_sheet checked_header wrong_length checked outside_field cable_of big_endian walk_from checked_record record_at record_of in_use
C2 = rw (same_load (share_pair (alone cable_a)))

-- a record on both chains
pub shared : Meant (gives (rise (sheet cable_a (300 ∷ 1 ∷ 1 ∷ 1000 ∷ 300 ∷ 0 ∷ []))) (values (562500 ∷ 562500 ∷ [])))
unfolding header_length rise_answer given_sheet checked_sheet checked_header wrong_length checked outside_field cable_of big_endian walk_from checked_record checked_neighbour record_at record_of in_use
shared = rw (same_step (share_pair (in_trench cable_a (record { offset = pos 1000; depth = 300 } ∷ []))))
