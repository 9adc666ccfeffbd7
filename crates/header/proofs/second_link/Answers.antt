-- A header is not short exactly where the length says so. Assumes nothing.
use mathlib.Core.Path.{sym, ◌∙◌}
use native.Mathlib.Omega.{arith}
use Rattle.sheet_rules.proofs.RightLength.{short_second, long_second}
use Rattle.header.proofs.second_link.Goals as goal

pub number_at-requires : goal.number_at-requires
number_at-requires c =
    (omega (arith, (long_second _ (λ e. c.if-header_length-eq-SHORT_HEADER.false (c.header_length.ensures ∙ e))).1, c.requires), omega arith)

pub returns-then-header_length-eq-SHORT_HEADER : goal.returns-then-header_length-eq-SHORT_HEADER
returns-then-header_length-eq-SHORT_HEADER c = simp (short_second _ (sym c.header_length.ensures ∙ c.if-header_length-eq-SHORT_HEADER.true))

pub returns-else-header_length-eq-SHORT_HEADER : goal.returns-else-header_length-eq-SHORT_HEADER
returns-else-header_length-eq-SHORT_HEADER c =
    c.number_at.ensures ∙ simp (long_second _ (λ e. c.if-header_length-eq-SHORT_HEADER.false (c.header_length.ensures ∙ e))).0
