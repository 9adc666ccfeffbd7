-- The sum over the day is the definition's, and no square is above 65,535². Assumes nothing.
use mathlib.Core.Path.{◌≡◌, ◌∙◌}
use Prim.Native.Nat.{ℕ, ◌^◌, ◌≤◌, ◌<◌}
use borrow.Author.Rules.{rules}
use native.Mathlib.Omega.{arith}
use mir.Syntax.{w16}
use mir.Val.{Fits}
use Rattle.std.specs.List.{sum_by}
use Rattle.cycle_rules.specs.Day.{load}
use Rattle.cycle_rules.proofs.Day.{squares_to}
use Rattle.heating.proofs.Days.{square, squares_summed}
use Rattle.heating.proofs.squared_loads.Goals as goal

pub sum-requires-clause-fits : goal.sum-requires-clause-fits
sum-requires-clause-fits c =
    let small : (h : ℕ) → h < 24 → load c.args.hours h ≤ 65535 = λ h p. let f : Fits w16 (load c.args.hours h) = search rules in omega (arith, f) in
    let room : sum_by square c.args.hours < 2 ^ 64 = omega (arith, squares_summed c.args.hours {n = 24} (omega arith), squares_to c.args.hours 65535 24 small) in
    search rules

pub returns : goal.returns
returns c =
    let small : (h : ℕ) → h < 24 → load c.args.hours h ≤ 65535 = λ h p. let f : Fits w16 (load c.args.hours h) = search rules in omega (arith, f) in
    let summed : c.sum.result ≡ sum_by square c.args.hours = search rules in
    (summed ∙ squares_summed c.args.hours (omega arith), omega (arith, summed, squares_summed c.args.hours {n = 24} (omega arith), squares_to c.args.hours 65535 24 small))
