-- The first word that is the same, in the table of the code as in that of the definition.
use Rattle.std.proofs.Common.{rules, tests, ◌≡◌, ◌∙◌, ap, sym, refl, ℕ, List, [], ◌∷◌, Bool, true, false, cond, Bor, Option, Some, None, option_map, map}
use Rattle.std.specs.Prelude.{bytes_eq, find}
use Rattle.std.specs.Slice.Iter.{iter_rest}
use Rattle.std.proofs.lemmas.Iterator.{YieldsList-from_slice}
use Rattle.std.proofs.lemmas.Iterator.Search.{find_from_yields_List}
use Rattle.reference_rows.specs.Kinds.{kinds, kind_of}
use Rattle.reference_rows.specs.declared.answers.Kind.{Kind}
use Rattle.reference_rows.proofs.answers.kind_of.Goals as goal

module _ (word : List ℕ) where
  abbrev same_word : Bor (List ℕ) × Kind → Bool
  same_word k = bytes_eq k.0.now word

  abbrev first_of : List (List ℕ × Kind) → Option Kind
  first_of l = option_map (λ k. k.1) (find (λ k. bytes_eq k.0 word) l)

  found_in : (xs : List (Bor (List ℕ) × Kind)) → option_map (λ k. k.1) (find same_word xs) ≡ first_of (map (λ k. (k.0.now, k.1)) xs)
  found_in [] = refl
  found_in (x ∷ xs) = go (bytes_eq x.0.now word) (found_in xs)
    where
      go : (b : Bool) → option_map (λ k. k.1) (find same_word xs) ≡ first_of (map (λ k. (k.0.now, k.1)) xs)
          → option_map (λ (k : Bor (List ℕ) × Kind). k.1) (cond b (Some x) (find same_word xs))
          ≡ option_map (λ (k : List ℕ × Kind). k.1) (cond b (Some (x.0.now, x.1)) (find (λ k. bytes_eq k.0 word) (map (λ k. (k.0.now, k.1)) xs)))
      go true e = refl
      go false e = e

  kind_is : (xs : List (Bor (List ℕ) × Kind)) (r : Option (Bor (Bor (List ℕ) × Kind))) → map (λ k. (k.0.now, k.1)) xs ≡ kinds → option_map (λ y. y.now) r ≡ find same_word xs
      → option_map (λ k. k.now.1) r ≡ kind_of word
  unfolding kind_of
  kind_is xs None all is = ap (option_map (λ k. k.1)) is ∙ found_in xs ∙ ap first_of all
  kind_is xs (Some y) all is = ap (option_map (λ k. k.1)) is ∙ found_in xs ∙ ap first_of all

pub returns-in_err-found : goal.returns-in_err-found
returns-in_err-found c =
    let word = c.args.word.now in
    let xs = iter_rest c.iter.result in
    let all : map (λ k. (k.0.now, k.1)) xs ≡ kinds = rw c.iter.ensures.rest refl in
    c.from_residual.ensures ∙ ap (option_map (λ k. k.now.1)) (sym c.in_err-found.was)
    ∙ kind_is word xs _ all
    (find_from_yields_List (same_word word) _ _ _ c.find.ensures.ran (YieldsList-from_slice xs refl) (λ x b q k. search (rules, tests)))

pub returns : goal.returns
returns c =
    let word = c.args.word.now in
    let xs = iter_rest c.iter.result in
    let all : map (λ k. (k.0.now, k.1)) xs ≡ kinds = rw c.iter.ensures.rest refl in
    ap (option_map (λ k. k.now.1)) (sym c.in_ok-found.was)
    ∙ kind_is word xs _ all
    (find_from_yields_List (same_word word) _ _ _ c.find.ensures.ran (YieldsList-from_slice xs refl) (λ x b q k. search (rules, tests)))
