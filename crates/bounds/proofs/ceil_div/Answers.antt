-- The negation of the floor of the negation. Assumes nothing.
use mathlib.Core.Path.{◌≡◌, ap, ◌∙◌}
use Prim.Native.Nat.{ℕ, ◌<◌, ◌^◌}
use native.Mathlib.Omega.{arith}
use lib.IntN.{ℤ, pos, neg_ℤ, nat_abs, ◌-ℤ◌}
use Rattle.numbers.specs.Rounding.{floor_z, ceil_z}
use Rattle.numbers.proofs.Integers.{size_neg}
use Rattle.numbers.proofs.Machine.{seen, neg_fits, neg_seen}
use Rattle.numbers.proofs.Rounding.{floor_size}
use Rattle.bounds.proofs.Enclosure.{ceiling}
use Rattle.bounds.proofs.ceil_div.Goals as goal

answer : (n r : ℤ) (d : ℕ) → nat_abs n < 2 ^ 63 → r ≡ floor_z (seen (pos 0 -ℤ seen n)) d → r ≡ floor_z (neg_ℤ n) d
answer n r d h e = rw (neg_seen n h) at e

pub overflow_sub-n : goal.overflow_sub-n
overflow_sub-n c = neg_fits c.args.n (omega arith)

pub returns : goal.returns
unfolding ceil_z
returns c =
    let is : c.floor_div.result ≡ floor_z (neg_ℤ c.args.n) c.args.d = answer c.args.n c.floor_div.result c.args.d (omega arith) c.floor_div.ensures.is in
    let room : nat_abs c.floor_div.result < 2 ^ 63 = omega (arith, ap nat_abs is, floor_size (neg_ℤ c.args.n) c.args.d, size_neg c.args.n) in
    ceiling c.requires.0 (neg_seen c.floor_div.result room ∙ ap neg_ℤ is)
