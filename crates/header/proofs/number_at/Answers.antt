-- The loop's invariant: `number` is that of the bytes passed.
use Rattle.std.proofs.Common.{◌≡◌, ◌+◌, ◌-◌, ◌^◌, ◌<◌, get_or, drop, refl, ◌∙◌, rules, arith}
use Rattle.std.proofs.lemmas.List.{get_or-drop, get_or-take}
use Rattle.sheet_rules.specs.BigEndian.{big_endian}
use Rattle.sheet_rules.proofs.BigEndian.{one_byte_more, below_wider}
use Rattle.header.proofs.number_at.Goals as goal

pub loop-byte-init : goal.loop-byte-init
unfolding big_endian
loop-byte-init c = refl

pub overflow_mul-number : goal.overflow_mul-number
overflow_mul-number c =
    let v = c.loop-byte in
    let within : v.byte-index < c.args.width = search rules in
    let room : v.number < 256 ^ 3 =
    rw v.invariant (below_wider c.args.sheet.now c.args.at (λ i. search rules) v.byte-index 3 (omega arith)) in
    omega (arith, room)

pub overflow_add-number : goal.overflow_add-number
overflow_add-number c =
    let v = c.loop-byte in
    let within : v.byte-index < c.args.width = search rules in
    let room : v.number < 256 ^ 3 =
    rw v.invariant (below_wider c.args.sheet.now c.args.at (λ i. search rules) v.byte-index 3 (omega arith)) in
    search (rules, room)

pub loop-byte-preserved : goal.loop-byte-preserved
loop-byte-preserved c =
    let v = c.loop-byte in
    let within : v.byte-index < c.args.at + c.args.width - c.args.at = search rules in
    let byte_is : c.from.result ≡ get_or c.args.sheet.now (c.args.at + v.byte-index) 0 =
    search rules ∙ get_or-take _ (drop c.args.at c.args.sheet.now) v.byte-index 0 within ∙ get_or-drop c.args.at c.args.sheet.now v.byte-index 0 in
    rw (one_byte_more c.args.sheet.now c.args.at v.byte-index, byte_is, v.invariant) refl
