-- Both parts of the exact share that are read, or that one is none.
use Rattle.std.proofs.Common.{rules, ◌≡◌, ◌∙◌, ap, sym, ℕ, List, Some}
use Rattle.text.specs.Reading.{number_of, signed_of}
use Rattle.reference_rows.specs.Cells.{part_at, value_in}
use Rattle.reference_rows.specs.Results.{is_share_of}
use Rattle.reference_rows.specs.Verdicts.{point, exact_name, by_exact}
use Rattle.reference_rows.proofs.verdicts.share_exact.Goals as goal

-- what stands before the point, and behind it
module _ (results : List ℕ) {text exact : List ℕ} (v : exact ≡ value_in exact_name results) where
  before : text ≡ part_at point 0 exact → signed_of text ≡ signed_of (part_at point 0 (value_in exact_name results))
  before e = ap signed_of (e ∙ ap (part_at point 0) v)

  behind : text ≡ part_at point 1 exact → number_of text 1 ≡ number_of (part_at point 1 (value_in exact_name results)) 1
  behind e = ap (λ (t : List ℕ). number_of t 1) (e ∙ ap (part_at point 1) v)

pub returns-in_err-floor : goal.returns-in_err-floor
unfolding by_exact
returns-in_err-floor c = rw (sym (c.signed_of.ensures ∙ before c.args.results.now c.value-exact.ensures c.part.ensures) ∙ c.in_err-floor.was) c.from_residual.ensures

pub returns-in_err-more : goal.returns-in_err-more
unfolding by_exact
returns-in_err-more c =
    rw (
      sym (c.signed_of.ensures ∙ before c.args.results.now c.value-exact.ensures c.part.ensures) ∙ c.in_ok-floor.was,
      sym (c.number_of.ensures ∙ behind c.args.results.now c.value-exact.ensures c.part-2.ensures) ∙ c.in_err-more.was,
    )
    c.from_residual-in_err-more.ensures

pub returns : goal.returns
unfolding by_exact
returns c =
    let said_is : c.is_share_of.result ≡ is_share_of c.args.said c.in_ok-floor.floor c.in_ok-more.more = search rules in
    rw (
      sym (c.signed_of.ensures ∙ before c.args.results.now c.value-exact.ensures c.part.ensures) ∙ c.in_ok-floor.was,
      sym (c.number_of.ensures ∙ behind c.args.results.now c.value-exact.ensures c.part-2.ensures) ∙ c.in_ok-more.was,
    )
    (ap Some said_is)
