-- Each of the four products lies between the definition's ends, which fit; the rest follows the calls. Assumes nothing.
use mathlib.Core.Path.{◌∙◌, ap₂}
use native.Mathlib.Omega.{arith}
use borrow.Author.Rules.{rules}
use Rattle.numbers.specs.Integer.{lesser, greater}
use Rattle.numbers.proofs.Integers.{min_lesser, max_greater}
use Rattle.numbers.proofs.Machine.{result_seen, mul_fits, mul_seen}
use Rattle.bounds.specs.Operations.{mul_b}
use Rattle.bounds.proofs.Enclosure.{same_ends, product}
use Rattle.bounds.proofs.Sizes.{products_sized}
use Rattle.bounds.proofs.Bounds.mul.Goals as goal

pub overflow_mul-ll : goal.overflow_mul-ll
overflow_mul-ll c =
    mul_fits c.args.self.low c.args.other.low (search rules) (search rules)
    (omega (arith, (products_sized c.args.self c.args.other c.requires).ll))

pub overflow_mul-lh : goal.overflow_mul-lh
overflow_mul-lh c =
    mul_fits c.args.self.low c.args.other.high (search rules) (search rules)
    (omega (arith, (products_sized c.args.self c.args.other c.requires).lh))

pub overflow_mul-hl : goal.overflow_mul-hl
overflow_mul-hl c =
    mul_fits c.args.self.high c.args.other.low (search rules) (search rules)
    (omega (arith, (products_sized c.args.self c.args.other c.requires).hl))

pub overflow_mul-hh : goal.overflow_mul-hh
overflow_mul-hh c =
    mul_fits c.args.self.high c.args.other.high (search rules) (search rules)
    (omega (arith, (products_sized c.args.self c.args.other c.requires).hh))

pub returns : goal.returns
unfolding mul_b
returns c =
    let fit = products_sized c.args.self c.args.other c.requires in
    let ll = mul_seen c.args.self.low c.args.other.low (search rules) (search rules) (omega (arith, fit.ll)) in
    let lh = mul_seen c.args.self.low c.args.other.high (search rules) (search rules) (omega (arith, fit.lh)) in
    let hl = mul_seen c.args.self.high c.args.other.low (search rules) (search rules) (omega (arith, fit.hl)) in
    let hh = mul_seen c.args.self.high c.args.other.high (search rules) (search rules) (omega (arith, fit.hh)) in
    let min_lh = c.min in
    let min_hl = c.min-2 in
    let max_lh = c.max in
    let max_hl = c.max-2 in
    product
    (same_ends
    (result_seen c.min-3.result c.min-3.type_inv ∙ c.min-3.ensures.value ∙ min_lesser _ _
    ∙ ap₂ lesser (result_seen min_lh.result min_lh.type_inv ∙ min_lh.ensures.value ∙ min_lesser _ _ ∙ ap₂ lesser ll lh)
    (result_seen min_hl.result min_hl.type_inv ∙ min_hl.ensures.value ∙ min_lesser _ _ ∙ ap₂ lesser hl hh))
    (result_seen c.max-3.result c.max-3.type_inv ∙ c.max-3.ensures.value ∙ max_greater _ _
    ∙ ap₂ greater (result_seen max_lh.result max_lh.type_inv ∙ max_lh.ensures.value ∙ max_greater _ _ ∙ ap₂ greater ll lh)
    (result_seen max_hl.result max_hl.type_inv ∙ max_hl.ensures.value ∙ max_greater _ _ ∙ ap₂ greater hl hh)))
