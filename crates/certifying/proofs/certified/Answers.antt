-- The test is that of the rule with both sides moved, and its products stay below 2^64. Assumes nothing.
use mathlib.Core.Path.{refl}
use native.Mathlib.Omega.{arith}
use Rattle.emergency_rules.proofs.Certifying.{certified_moved, products}
use Rattle.certifying.proofs.certified.Goals as goal

pub overflow_mul-preload : goal.overflow_mul-preload
overflow_mul-preload c =
    omega (arith, products {i = 0} c.requires.0 (omega arith) c.square-rated_squared.ensures c.square.ensures refl)

pub overflow_mul-load : goal.overflow_mul-load
overflow_mul-load c =
    omega (arith, products c.requires.0 c.requires.1 c.square-rated_squared.ensures c.square.ensures c.square-load.ensures)

pub overflow_mul-limit-2 : goal.overflow_mul-limit-2
overflow_mul-limit-2 c =
    rw (c.from.ensures, c.from-2.ensures) (omega (arith, products c.requires.0 c.requires.1 c.square-rated_squared.ensures c.square.ensures c.square-load.ensures))

pub overflow_mul-result : goal.overflow_mul-result
overflow_mul-result c =
    omega (arith, products c.requires.0 c.requires.1 c.square-rated_squared.ensures c.square.ensures c.square-load.ensures)

pub overflow_mul-result-2 : goal.overflow_mul-result-2
overflow_mul-result-2 c =
    omega (arith, products c.requires.0 c.requires.1 c.square-rated_squared.ensures c.square.ensures c.square-load.ensures)

pub overflow_add-result : goal.overflow_add-result
overflow_add-result c =
    omega (arith, products c.requires.0 c.requires.1 c.square-rated_squared.ensures c.square.ensures c.square-load.ensures)

pub overflow_mul-result-3 : goal.overflow_mul-result-3
overflow_mul-result-3 c =
    rw (c.from.ensures, c.from-2.ensures) (omega (arith, products c.requires.0 c.requires.1 c.square-rated_squared.ensures c.square.ensures c.square-load.ensures))

pub overflow_mul-result-4 : goal.overflow_mul-result-4
overflow_mul-result-4 c =
    omega (arith, products c.requires.0 c.requires.1 c.square-rated_squared.ensures c.square.ensures c.square-load.ensures)

pub overflow_add-result-2 : goal.overflow_add-result-2
overflow_add-result-2 c =
    rw (c.from.ensures, c.from-2.ensures) (omega (arith, products c.requires.0 c.requires.1 c.square-rated_squared.ensures c.square.ensures c.square-load.ensures))

pub returns : goal.returns
returns c =
    rw (c.square-rated_squared.ensures, c.square.ensures, c.square-load.ensures, c.from.ensures, c.from-2.ensures)
    (certified_moved c.args.rated c.args.h c.args.r c.args.g c.args.i)
