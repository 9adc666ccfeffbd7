-- Each dividend and divisor is that of the natural ends; the dividends stay below 2^63. Assumes nothing.
use mathlib.Core.Path.{◌≡◌, ap₂, ◌∙◌}
use Prim.Native.Nat.{ℕ, ◌+◌, ◌*◌, ◌/◌}
use borrow.Author.Rules.{rules}
use lib.IntN.{pos}
use Rattle.numbers.specs.Integer.{up}
use Rattle.numbers.proofs.Machine.{seen_up}
use Rattle.bounds.specs.Pair.{quotient_p}
use Rattle.bounds.specs.Operations.{quotient_b}
use Rattle.bounds.proofs.Enclosure.{same_ends, quotient}
use Rattle.bounds.proofs.Bounds.quotient.Goals as goal

pub returns : goal.returns
unfolding quotient_b quotient_p
returns c =
    let low : c.natural.result ≡ up c.args.self.low = seen_up c.args.self.low (search rules) c.natural.ensures in
    let divisor_high : c.natural-2.result ≡ up c.args.divisor.high = seen_up c.args.divisor.high (search rules) c.natural-2.ensures in
    let high : c.natural-3.result ≡ up c.args.self.high = seen_up c.args.self.high (search rules) c.natural-3.ensures in
    let divisor_low : c.natural-4.result ≡ up c.args.divisor.low = seen_up c.args.divisor.low (search rules) c.natural-4.ensures in
    quotient c.requires
    (c.from_naturals.ensures
    ∙ same_ends
    (ap₂ (λ (x y : ℕ). pos (x * c.args.scale / y)) low divisor_high)
    (ap₂ (λ (x y : ℕ). pos (x * c.args.scale / y + 1)) high divisor_low))
