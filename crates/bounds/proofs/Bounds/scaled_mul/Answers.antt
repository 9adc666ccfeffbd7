-- Each product is that of the natural ends, and stays below 2^63. Assumes nothing.
use mathlib.Core.Path.{◌≡◌, ap, ap₂, ◌∙◌}
use Prim.Native.Nat.{ℕ, ◌+◌, ◌*◌, ◌/◌}
use borrow.Author.Rules.{rules}
use lib.IntN.{pos}
use Rattle.numbers.proofs.Machine.{seen_up}
use Rattle.numbers.specs.Integer.{up}
use Rattle.bounds.specs.Pair.{scaled_p}
use Rattle.bounds.specs.Operations.{scaled_b}
use Rattle.bounds.proofs.Enclosure.{same_ends, scaled_product}
use Rattle.bounds.proofs.Bounds.scaled_mul.Goals as goal

pub returns : goal.returns
unfolding scaled_b scaled_p
returns c =
    let low_product : c.natural.result * c.natural-2.result ≡ up c.args.self.low * up c.args.other.low =
    ap₂ ◌*◌ (seen_up c.args.self.low (search rules) c.natural.ensures)
    (seen_up c.args.other.low (search rules) c.natural-2.ensures) in
    let high_product : c.natural-3.result * c.natural-4.result ≡ up c.args.self.high * up c.args.other.high =
    ap₂ ◌*◌ (seen_up c.args.self.high (search rules) c.natural-3.ensures)
    (seen_up c.args.other.high (search rules) c.natural-4.ensures) in
    scaled_product c.requires
    (c.from_naturals.ensures
    ∙ same_ends (ap (λ (n : ℕ). pos (n / c.args.scale)) low_product)
    (ap (λ (n : ℕ). pos (n / c.args.scale + 1)) high_product))
