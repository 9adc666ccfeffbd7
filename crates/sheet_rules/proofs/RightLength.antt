-- What a right length says of the number of records.
use mathlib.Core.Path.{◌≡◌, refl}
use mathlib.Core.Bool.{Bool, true, false, cond, not}
use Prim.Native.Nat.{ℕ, ◌+◌, ◌*◌, ◌≤◌}
use native.Mathlib.Omega.{arith}
use borrow.Author.Tests.{ltb-false, eqb-true, not-false}
use lib.Dec.{eqb, ltb}
use Rattle.ranges.proofs.Ranges.{neither}
use Rattle.sheet_rules.specs.Layout.{short_header, long_header, record_length, most_records, is_long, header_length, record_count, wrong_length}

pub record RightLength (size : ℕ) : Type 0 where
  pub few : record_count size ≤ most_records
  pub is : size ≡ header_length size + record_length * record_count size
  pub header_least : short_header ≤ header_length size

-- a header is short or long
by_kind : (b : Bool) → short_header ≤ cond b long_header short_header
by_kind true = omega arith
by_kind false = omega arith

header_least : (size : ℕ) → short_header ≤ header_length size
unfolding header_length
header_least size = by_kind (is_long size)

pub right_length : (size : ℕ) → wrong_length size ≡ false → RightLength size
unfolding wrong_length
right_length size e =
    let n = record_count size in
    let both = neither (ltb most_records n) (not (eqb size (header_length size + record_length * n))) e in
    record { few = ltb-false most_records n both.0; is = eqb-true size _ (not-false _ both.1); header_least = header_least size }

-- told by its length
module _ (size : ℕ) where
  short_by : (b : Bool) → cond b long_header short_header ≡ short_header → b ≡ false
  short_by true e = absurd (omega arith)
  short_by false e = refl

  pub short_second : header_length size ≡ short_header → is_long size ≡ false
  unfolding header_length
  short_second e = short_by (is_long size) e

  long_by : (b : Bool) → (cond b long_header short_header ≡ short_header → ⊥) → (b ≡ true) × (cond b long_header short_header ≡ long_header)
  long_by true z = (refl, refl)
  long_by false z = absurd (z refl)

  pub long_second : (header_length size ≡ short_header → ⊥) → (is_long size ≡ true) × (header_length size ≡ long_header)
  unfolding header_length
  long_second z = long_by (is_long size) z
