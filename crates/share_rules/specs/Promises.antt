-- What others may use of the share's pair, which is shut: how wide it may be, and the exact value that it is around.
use Rattle.std.specs.Prelude.{ℕ, T}
use Rattle.numbers.specs.Signed.{◌≺ₛ◌, of_frac, add_s}
use Rattle.exact.specs.Value.{Value, in_millionths}
use Rattle.exact.specs.Share.{millionths, share}
use Rattle.cable_rules.specs.Group.{Group}
use Rattle.cable_rules.specs.InRange.{numbers_in}

-- how far high may be above low, in millionths: "high − low at most 50"
abbrev pub share_width : ℕ
share_width = 50

-- the same for every group
abbrev pub width_of : Group → ℕ
width_of g = share_width

-- the exact G of a group after some minutes, in millionths
abbrev pub exact_share : Group → ℕ → Value
exact_share g minutes = in_millionths (share (numbers_in g) minutes)

-- 'Exact values without reals': "some order has a gap below one millionth"
pub record MillionthGap (exact : Value) : Type 0 where
  pub order : ℕ
  pub bounds : T (exact.ok order)
  pub gap : exact.high order ≺ₛ add_s (exact.low order) (of_frac (millionths 1))
