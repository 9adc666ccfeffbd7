-- C9 and C10, and what the other rows ask of the pair of a share: its promises against fractions of the exact share at one order.
use mathlib.Core.Path.{◌≡◌, refl}
use mathlib.Core.List.{[], ◌∷◌}
use Prim.Native.Nat.{ℕ, suc, ◌+◌, ◌*◌, ◌≤◌, ◌<◌}
use native.Mathlib.Nat.{le_refl}
use native.Mathlib.Omega.{arith}
use lib.Dec.{T, leb, leb→le}
use lib.IntN.{ℤ, pos, negsuc}
use lib.Signed.{◌≤ℤ◌}
use Rattle.numbers.specs.Fraction.{Frac, ◌≼◌, ◌≺◌, ◌≼?◌, ◌per◌, whole, 0F, 1F, ◌⊕◌, ◌⊗◌, ◌∸◌}
use Rattle.numbers.specs.Signed.{of_int}
use Rattle.numbers.proofs.Fractions.{refl≼, trans≼, mul≼, test_is}
use Rattle.numbers.proofs.FractionProver.{qv, qn, ◌+'◌, ◌*'◌, le, q_from}
use Rattle.numbers.proofs.Strict.{below_of, below_not, le_strict, strict_le}
use Rattle.numbers.proofs.Integers.{le_lin, lin_le}
use Rattle.exact.specs.Exponential.{exp_sum}
use Rattle.exact.specs.Value.{AtMost, AtLeast, in_millionths, from_one}
use Rattle.exact.specs.Share.{CableNumbers, Accepted, none, exponent, share}
use Rattle.exact.proofs.Certified.{Above, below_zero}
use Rattle.exact.proofs.Share.{share_p, attainment_p, share_rises_p, share_ok_p, attainment_ok_p, fine_attainment_p}
use Rattle.exact.proofs.ShareRange.{top_order, share_below_one_p, bottom_order, share_above_zero_p}
use Rattle.exact.proofs.SignedShare.{share_plain}
use Rattle.exact.proofs.Pairs.{most_millionths, least_millionths, around_exp, around_attainment, share_high_attainment, share_low_attainment}
use Rattle.cable_rules.specs.Checks.{outside_field, checked, in_use}
use Rattle.cable_rules.specs.Group.{alone, given_cable}
use Rattle.cable_rules.specs.InRange.{numbers_in}
use Rattle.distance.specs.Promised.{Promised}
use Rattle.bounds.specs.declared.Bounds.{Bounds}
use Rattle.share_rules.specs.Promises.{share_width}
use Rattle.share_rules.specs.Pair.{share_pair}
use Rattle.share_rules.specs.Answer.{share_from}
use Rattle.share_rules.proofs.Promises.{share_promised}
use Rattle.cases.specs.Table.{Meant, around, cable_b, slow_b}
use Rattle.cases.specs.Table as Table

million_above : (x : Frac) → 0F ≺ x → whole 0 ≺ whole 1000000 ⊗ x
million_above x h = record { cross = omega (arith, h.cross) }

million_below : (x : Frac) → x ≺ 1F → whole 1000000 ⊗ x ≺ whole 1000000
million_below x h = record { cross = omega (arith, h.cross) }

module _ (c : CableNumbers) (m : ℕ) (a : Accepted c m) (b : Bounds) (p : Promised share_width (in_millionths (share c m)) b) where
  module _ (n : ℕ) (t : T (from_one n)) where
    -- a whole number above the share's upper fraction is above low
    low_most : (v : ℕ) → whole 1000000 ⊗ (share_p c m).high n ≺ whole (v + 1) → b.low ≤ℤ pos v
    low_most v h = go b.low p.around.low_at_most
      where
        go : (z : ℤ) → AtMost (of_int z) (in_millionths (share c m)) → z ≤ℤ pos v
        go (pos u) k = under (le_strict (most_millionths (share_plain c m a) (share_rises_p c m m a a (le_refl m)) k n (share_ok_p c m a n t)) h)
          where
            under : whole u ≺ whole (v + 1) → pos u ≤ℤ pos v
            under r = lin_le (pos u) (pos v) (omega (arith, r.cross))
        go (negsuc u) k = lin_le (negsuc u) (pos v) (omega arith)

    -- a whole number with the share's lower fraction above the one before it is at most high
    high_least : (v : ℕ) → whole v ≺ whole 1000000 ⊗ (share_p c m).low n → pos (v + 1) ≤ℤ b.high
    high_least v h = go b.high p.around.high_at_least p.range.high_from
      where
        go : (z : ℤ) → AtLeast (of_int z) (in_millionths (share c m)) → pos 0 ≤ℤ z → pos (v + 1) ≤ℤ z
        go (pos u) k z = over (strict_le h (least_millionths (share_plain c m a) (share_rises_p c m m a a (le_refl m)) k n (share_ok_p c m a n t)))
          where
            over : whole v ≺ whole u → pos (v + 1) ≤ℤ pos u
            over r = lin_le (pos (v + 1)) (pos u) (omega (arith, r.cross))
        go (negsuc u) k z = absurd (omega (arith, le_lin z))

  -- the exact share is above 0 and below 1
  pub high_above_zero : pos 1 ≤ℤ b.high
  high_above_zero = high_least (bottom_order c m a) tt 0 (million_above _ (share_above_zero_p c m a))

  pub low_below_all : b.low ≤ℤ pos 999999
  low_below_all = low_most (top_order c m a) tt 999999 (million_below _ (share_below_one_p c m a))

  -- with k = 0 the share is the attainment
  module _ (none : c.k ≡ 0) where
    module _ (n : ℕ) (t : T (from_one n)) where
      low_under : (v : ℕ) → whole 1000000 ⊗ (attainment_p c m).high n ≺ whole (v + 1) → b.low ≤ℤ pos v
      low_under v h = low_most n t v (le_strict (mul≼ (refl≼ (whole 1000000)) (share_high_attainment c m none n)) h)

      high_over : (v : ℕ) → whole v ≺ whole 1000000 ⊗ (attainment_p c m).low n → pos (v + 1) ≤ℤ b.high
      high_over v h = high_least n t v (strict_le h (mul≼ (refl≼ (whole 1000000)) (share_low_attainment c m none n)))

    -- the same of a fraction q that no upper fraction of the attainment is below: some lower one is at most e below
    high_past : (q e : Frac) → 0 < e.num → ((n : ℕ) → T ((attainment_p c m).ok n) → q ≼ (attainment_p c m).high n) → (v : ℕ) → whole v ⊕ whole 1000000 ⊗ e ≺ whole 1000000 ⊗ q → pos (v + 1) ≤ℤ b.high
    high_past q e z most v h = high_over n tt v (less ((attainment_p c m).high n) ((attainment_p c m).low n) (most n (attainment_ok_p c m a n tt)) ((fine_attainment_p c m a).gap e z n (omega arith)))
      where
        n : ℕ
        n = suc ((fine_attainment_p c m a).order e z)

        less : (x y : Frac) → q ≼ x → x ≼ y ⊕ e → whole v ≺ whole 1000000 ⊗ y
        less x y s t = below_of (λ r. below_not h (q_from (q ∷ y ∷ e ∷ whole v ∷ []) (le (qn 1000000) (qv 0) (qv 1 +' qv 2) ∷ le (qn 1) (qn 1000000 *' qv 1) (qv 3) ∷ []) (qn 1000000 *' qv 0) (qv 3 +' qn 1000000 *' qv 2) tt (trans≼ s t) r))

-- ---- C9 and C10

below : (a b : Frac) → T (leb (suc (a.num * b.den)) (b.num * a.den)) → a ≺ b
below a b h = record { cross = leb→le _ _ h }

pub accepted_b : (minutes : ℕ) → 1 ≤ minutes → minutes ≤ 2880 → Accepted (numbers_in (alone cable_b)) minutes
unfolding in_use
accepted_b minutes from to = record { cable = omega arith; neighbours = none; minutes_from = from; minutes_to = to }

accepted_slow : Accepted (numbers_in (alone slow_b)) 1
unfolding in_use
accepted_slow = record { cable = omega arith; neighbours = none; minutes_from = omega arith; minutes_to = omega arith }

pub C9 : Meant (around (Table.share (given_cable cable_b) 1) 997521 997522)
unfolding in_use ◌∸◌ given_cable share_from checked outside_field
C9 =
    let a = accepted_b 1 (omega arith) (omega arith) in
    let p = share_promised (alone cable_b) 1 a in
    record {
      low = (share_pair (alone cable_b) 1).low;
      high = (share_pair (alone cable_b) 1).high;
      given = refl;
      low_to = low_under _ 1 a _ p refl 30 tt 997521 (below _ _ tt);
      high_from = high_over _ 1 a _ p refl 30 tt 997521 (below _ _ tt);
    }

pub C10 : Meant (around (Table.share (given_cable slow_b) 1) 59 60)
unfolding in_use ◌∸◌ given_cable share_from checked outside_field
C10 =
    let p = share_promised (alone slow_b) 1 accepted_slow in
    record {
      low = (share_pair (alone slow_b) 1).low;
      high = (share_pair (alone slow_b) 1).high;
      given = refl;
      low_to = low_under _ 1 accepted_slow _ p refl 4 tt 59 (below _ _ tt);
      high_from = high_over _ 1 accepted_slow _ p refl 4 tt 59 (below _ _ tt);
    }

-- ---- B after so many minutes that less than 10^-8 of e^(−x) is left: rounded up, all of its share

pub by_order : (e x : Frac) (n : ℕ) → T (1F ≼? e ⊗ exp_sum x n) → Above e x
by_order e x n t = record { order = n; reaches = test_is 1F (e ⊗ exp_sum x n) t }

pub all_of_b : (m : ℕ) (a : Accepted (numbers_in (alone cable_b)) m) → Above (1 per 100000000) (exponent 100000 m) → pos 1000000 ≤ℤ (share_pair (alone cable_b) m).high
unfolding in_use ◌∸◌
all_of_b m a h =
    let x = exponent 100000 m in
    high_past _ m a _ (share_promised (alone cable_b) m a) refl _ (1 per 100000000) (omega arith)
    (λ n t. (around_attainment (numbers_in (alone cable_b)) m (around_exp (below_zero x) h) (around_exp (below_zero x) h)).most n t) 999999 (below _ _ tt)
