-- One law over the width: n bytes hold a number below 256 ^ n.
use mathlib.Core.Path.{◌≡◌}
use mathlib.Core.List.{List}
use Prim.Native.Nat.{ℕ, zero, suc, ◌+◌, ◌*◌, ◌^◌, ◌≤◌, ◌<◌}
use native.Mathlib.Numerals.{add-one}
use native.Mathlib.Nat.{pow-suc, lt_of_lt_of_le, pow-le-pow_right}
use native.Mathlib.Omega.{arith}
use lib.ListN.{get_or}
use Rattle.sheet_rules.specs.BigEndian.{big_endian}

-- one byte more, at `n + 1` as code has it
pub one_byte_more : (s : List ℕ) (at n : ℕ) → big_endian s at (n + 1) ≡ big_endian s at n * 256 + get_or s (at + n) 0
unfolding big_endian
one_byte_more s at n = rw (add-one n)

module _ (s : List ℕ) (at : ℕ) (bytes : (i : ℕ) → get_or s i 0 < 256) where
  pub below_width : (n : ℕ) → big_endian s at n < 256 ^ n
  unfolding big_endian
  below_width zero = omega arith
  below_width (suc n) = rw (pow-suc 256 n) (omega (arith, below_width n, bytes (at + n)))

  pub below_wider : (n k : ℕ) → n ≤ k → big_endian s at n < 256 ^ k
  below_wider n k h = lt_of_lt_of_le (below_width n) (pow-le-pow_right (omega arith) h)
