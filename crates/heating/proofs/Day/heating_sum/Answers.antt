-- The loop adds one share's term at a time, as the definition does. Assumes nothing.
use mathlib.Core.Path.{◌≡◌, refl, ap, ap₂, ◌∙◌}
use Prim.Native.Nat.{◌<◌}
use native.Mathlib.Omega.{arith}
use Rattle.bounds.specs.Operations.{divided_b}
use Rattle.cycle_rules.specs.Heating.{heating_hours, common_divisor, gathered_bounds, heating_bounds}
use Rattle.cycle_rules.specs.Asked.{pairs_of}
use Rattle.cycle_rules.proofs.Heating.{divisor_above_zero, first_sum, sum_room, product_room, next_sum, next_room}
use Rattle.cycle_rules.proofs.FactorTest.{sum_sized}
use Rattle.heating.proofs.Days.{divisor_small}
use Rattle.heating.proofs.Day.heating_sum.Goals as goal

pub loop-i-init : goal.loop-i-init
loop-i-init c = c.whole-sum.ensures.is ∙ first_sum _ _ _ c.args.self.now.mean_is

pub mul-requires : goal.mul-requires
mul-requires c =
    product_room _ _ (pairs_of c.args.shares) c.requires.0.sized (divisor_small c.args.self.now.divisor_of) c.loop-i.i c.loop-i.invariant c.gathered_load.ensures refl

pub add-sum-requires : goal.add-sum-requires
add-sum-requires c =
    next_room _ _ (pairs_of c.args.shares) c.requires.0.sized (divisor_small c.args.self.now.divisor_of) c.loop-i.i c.loop-i.invariant c.gathered_load.ensures refl (omega arith) c.mul.ensures.is

pub loop-i-preserved : goal.loop-i-preserved
loop-i-preserved c =
    c.add-sum.ensures.is
    ∙ next_sum _ _ (pairs_of c.args.shares) c.requires.0.sized (divisor_small c.args.self.now.divisor_of) c.loop-i.i c.loop-i.invariant c.gathered_load.ensures refl c.mul.ensures.is

pub divided-requires : goal.divided-requires
divided-requires c =
    let whole_sum : c.loop-i.sum ≡ gathered_bounds c.args.self.now.hours c.args.hour (pairs_of c.args.shares) heating_hours =
    let e : c.loop-i.i ≡ heating_hours = omega arith in
    c.loop-i.invariant ∙ ap (gathered_bounds c.args.self.now.hours c.args.hour (pairs_of c.args.shares)) e in
    let above_zero : 0 < common_divisor c.args.self.now.hours = divisor_above_zero c.args.self.now.hours c.requires.0.loaded in
    record {
      divisor = rw c.args.self.now.divisor_of.is above_zero;
      high = rw whole_sum (sum_room _ _ (pairs_of c.args.shares) c.requires.0.sized (divisor_small c.args.self.now.divisor_of) heating_hours (omega arith)).high;
    }

pub returns : goal.returns
unfolding heating_bounds
returns c =
    let above_zero : 0 < common_divisor c.args.self.now.hours = divisor_above_zero c.args.self.now.hours c.requires.0.loaded in
    let whole_sum : c.loop-i.sum ≡ gathered_bounds c.args.self.now.hours c.args.hour (pairs_of c.args.shares) heating_hours =
    let e : c.loop-i.i ≡ heating_hours = omega arith in
    c.loop-i.invariant ∙ ap (gathered_bounds c.args.self.now.hours c.args.hour (pairs_of c.args.shares)) e in
    let quotient : c.divided.result ≡ heating_bounds (pairs_of c.args.shares) c.args.self.now.hours c.args.hour = c.divided.ensures.is ∙ ap₂ divided_b whole_sum c.args.self.now.divisor_of.is in
    (quotient, rw quotient (sum_sized _ _ (pairs_of c.args.shares) c.requires.0.sized above_zero))
