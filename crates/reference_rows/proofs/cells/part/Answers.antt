-- The parts are those that the library's `split` gives.
use Rattle.std.proofs.Common.{rules, tests, ◌≡◌, ◌∙◌, ap, refl, ℕ, List, [], Bor, Option, Some, None, unwrap_or, option_map, ◌==◌}
use Rattle.std.proofs.lemmas.Iterator.Consumers.{nth_from_yields_List}
use Rattle.std.proofs.lemmas.Iterator.Splits.{YieldsList-from_slice_split}
use Rattle.reference_rows.specs.Cells.{part_at}
use Rattle.reference_rows.proofs.cells.part.Goals as goal

taken : (r : Option (Bor (List ℕ))) (d : Bor (List ℕ)) {x : Bor (List ℕ)} {o : Option (List ℕ)} → x ≡ unwrap_or r d → d.now ≡ [] → option_map (λ y. y.now) r ≡ o
    → x.now ≡ unwrap_or o []
taken None d p q e = ap (λ (y : Bor (List ℕ)). y.now) p ∙ q ∙ ap (λ t. unwrap_or t []) e
taken (Some y) d p q e = ap (λ (z : Bor (List ℕ)). z.now) p ∙ ap (λ t. unwrap_or t []) e

pub returns : goal.returns
unfolding part_at
returns c =
    taken _ _ c.unwrap_or.ensures refl
    (nth_from_yields_List _ _ _ c.nth.ensures.ran (YieldsList-from_slice_split _ (λ x. x == c.args.byte) c.args.text.now c.split.ensures.rest c.split.ensures.done c.split.ensures.closure (λ x b q k. search (rules, tests))))
