-- Each number that is read, or that it is none.
use Rattle.std.proofs.Common.{rules, ◌≡◌, ◌∙◌, ap, sym, Some}
use Rattle.reference_rows.specs.Results.{is_value}
use Rattle.reference_rows.specs.Verdicts.{by_value}
use Rattle.reference_rows.proofs.verdicts.one_value.Goals as goal

pub returns-in_err-from : goal.returns-in_err-from
unfolding by_value
returns-in_err-from c = rw (sym c.integer.ensures ∙ c.in_err-from.was) c.from_residual.ensures

pub returns-in_err-to : goal.returns-in_err-to
unfolding by_value
returns-in_err-to c = rw (sym c.integer.ensures ∙ c.in_ok-from.was, sym c.integer-2.ensures ∙ c.in_err-to.was) c.from_residual-in_err-to.ensures

pub returns : goal.returns
unfolding by_value
returns c =
    let said_is : c.is_value.result ≡ is_value c.args.said c.in_ok-from.from c.in_ok-to.to = search rules in
    rw (sym c.integer.ensures ∙ c.in_ok-from.was, sym c.integer-2.ensures ∙ c.in_ok-to.was) (ap Some said_is)
