-- The top that was read is the logarithm's high end. Assumes nothing.
use mathlib.Core.Path.{◌≡◌, refl}
use Rattle.numbers.specs.Integer.{up}
use Rattle.numbers.proofs.Machine.{seen_up}
use borrow.Author.Rules.{rules}
use Rattle.attained.proofs.heat_of.Goals as goal

pub heating_integral-requires : goal.heating_integral-requires
heating_integral-requires c =
    let top_is : c.natural-top.result ≡ up c.args.logarithm.high = seen_up c.args.logarithm.high (search rules) c.natural-top.ensures in
    rw top_is c.requires.span

pub returns : goal.returns
returns c =
    let top_is : c.natural-top.result ≡ up c.args.logarithm.high = seen_up c.args.logarithm.high (search rules) c.natural-top.ensures in
    rw (c.heating_integral.ensures, top_is) refl
