-- The last test decides where the first two hold.
use Rattle.std.proofs.Common.{rules, ◌≡◌, ◌∙◌, sym}
use Rattle.reference_rows.specs.Results.{between}
use Rattle.reference_rows.proofs.results.in_ranges.Goals.{then-is_share, else-is_share}
use Rattle.reference_rows.proofs.results.in_ranges.Goals as goal

pub returns-then-between : goal.returns-then-between
returns-then-between c =
    let high_is : c.between-then-between.result ≡ between c.args.high_min c.args.said.second c.args.high_max = search rules in
    elim c.if-is_share.branch [
      | then-is_share w ↦
          let low_is : w.between.result ≡ between c.args.low_min c.args.said.first c.args.low_max = search rules in
          rw (sym c.is_share.ensures ∙ w.if-is_share.true, sym low_is ∙ sym w.value-is ∙ c.if-between.true) high_is
      | else-is_share w ↦ cc
    ]
