-- The test falls and 0 A passes it, so the bisection ends with the largest current that is certified. Assumes nothing.
use borrow.Author.Rules.{rules}
use lib.IntN.{pos}
use native.Mathlib.Omega.{arith}
use Rattle.numbers.proofs.Integers.{lin_le}
use Rattle.emergency_rules.specs.Certifying.{certified}
use Rattle.emergency_rules.proofs.Certifying.{certified_falls, nothing_certified}
use Rattle.certifying.proofs.largest_certified.Goals as goal

pub returns : goal.returns
returns c =
    let s = c.args in
    c.largest_passing.ensures.is (certified s.rated s.h s.r (pos s.g)) (record { says = λ n b h p. search rules })
    (certified_falls s.rated s.h s.r (pos s.g) (lin_le (pos 0) (pos s.g) (omega arith)))
    (nothing_certified s.rated s.h s.r s.g c.requires.1)
