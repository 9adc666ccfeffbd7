-- Each number that is read, or that it is none.
use Rattle.std.proofs.Common.{rules, ◌≡◌, ◌∙◌, ap, sym, Some}
use Rattle.reference_rows.specs.Results.{in_ranges}
use Rattle.reference_rows.specs.Verdicts.{by_ranges}
use Rattle.reference_rows.proofs.verdicts.share_ranges.Goals as goal

pub returns-in_err-low_min : goal.returns-in_err-low_min
unfolding by_ranges
returns-in_err-low_min c = rw (sym c.integer.ensures ∙ c.in_err-low_min.was) c.from_residual.ensures

pub returns-in_err-low_max : goal.returns-in_err-low_max
unfolding by_ranges
returns-in_err-low_max c = rw (sym c.integer.ensures ∙ c.in_ok-low_min.was, sym c.integer-2.ensures ∙ c.in_err-low_max.was) c.from_residual-in_err-low_max.ensures

pub returns-in_err-high_min : goal.returns-in_err-high_min
unfolding by_ranges
returns-in_err-high_min c =
    rw (sym c.integer.ensures ∙ c.in_ok-low_min.was, sym c.integer-2.ensures ∙ c.in_ok-low_max.was, sym c.integer-3.ensures ∙ c.in_err-high_min.was) c.from_residual-in_err-high_min.ensures

pub returns-in_err-high_max : goal.returns-in_err-high_max
unfolding by_ranges
returns-in_err-high_max c =
    rw (sym c.integer.ensures ∙ c.in_ok-low_min.was, sym c.integer-2.ensures ∙ c.in_ok-low_max.was, sym c.integer-3.ensures ∙ c.in_ok-high_min.was, sym c.integer-4.ensures ∙ c.in_err-high_max.was) c.from_residual-in_err-high_max.ensures

pub returns : goal.returns
unfolding by_ranges
returns c =
    let said_is : c.in_ranges.result ≡ in_ranges c.args.said c.in_ok-low_min.low_min c.in_ok-low_max.low_max c.in_ok-high_min.high_min c.in_ok-high_max.high_max = search rules in
    rw (sym c.integer.ensures ∙ c.in_ok-low_min.was, sym c.integer-2.ensures ∙ c.in_ok-low_max.was, sym c.integer-3.ensures ∙ c.in_ok-high_min.was, sym c.integer-4.ensures ∙ c.in_ok-high_max.was)
    (ap Some said_is)
