-- The first part that has the name, of those that the library's `split` gives.
use Rattle.std.proofs.Common.{rules, tests, ◌≡◌, ◌∙◌, ap, sym, ℕ, List, [], Bor, Option, Some, None, unwrap_or, option_map, ◌==◌}
use Rattle.std.specs.Prelude.{bytes_eq, find}
use Rattle.std.proofs.lemmas.Iterator.Search.{find_from_yields_List}
use Rattle.std.proofs.lemmas.Iterator.Splits.{YieldsList-from_slice_split}
use Rattle.reference_rows.specs.Cells.{parts, part_at, semicolon, equals, value_in}
use Rattle.reference_rows.proofs.cells.value.Goals as goal

module _ (name cell : List ℕ) {r : Option (Bor (List ℕ))} (is : option_map (λ x. x.now) r ≡ find (λ p. bytes_eq (part_at equals 0 p) name) (parts semicolon cell)) where
  of_first : {pair : Bor (List ℕ)} {x : List ℕ} → r ≡ Some pair → x ≡ part_at equals 1 pair.now → x ≡ value_in name cell
  unfolding value_in
  of_first e p = p ∙ ap (λ t. unwrap_or (option_map (part_at equals 1) t) []) (ap (option_map (λ y. y.now)) (sym e) ∙ is)

  of_none : r ≡ None → [] ≡ value_in name cell
  unfolding value_in
  of_none e = ap (λ t. unwrap_or (option_map (part_at equals 1) t) []) (ap (option_map (λ y. y.now)) (sym e) ∙ is)

pub returns-in-Some : goal.returns-in-Some
returns-in-Some c =
    of_first c.args.name.now c.args.cell.now
    (find_from_yields_List (λ p. bytes_eq (part_at equals 0 p) c.args.name.now) _ _ _ c.find-found.ensures.ran
    (YieldsList-from_slice_split _ (λ x. x == semicolon) c.args.cell.now c.split.ensures.rest c.split.ensures.done c.split.ensures.closure (λ x b q k. search (rules, tests)))
    (λ x b q k. search (rules, tests)))
    c.in-Some.is c.part.ensures

pub returns-in-None : goal.returns-in-None
returns-in-None c =
    of_none c.args.name.now c.args.cell.now
    (find_from_yields_List (λ p. bytes_eq (part_at equals 0 p) c.args.name.now) _ _ _ c.find-found.ensures.ran
    (YieldsList-from_slice_split _ (λ x. x == semicolon) c.args.cell.now c.split.ensures.rest c.split.ensures.done c.split.ensures.closure (λ x b q k. search (rules, tests)))
    (λ x b q k. search (rules, tests)))
    c.in-None.is
