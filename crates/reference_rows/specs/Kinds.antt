-- What a row asks, by the word in its first column.
use Rattle.std.specs.Prelude.{Bool, ◌||◌, List, [], ◌∷◌, ℕ, bytes_eq, find, Option, option_map}
use Rattle.reference_rows.specs.declared.answers.Kind.{Kind}
use Rattle.reference_rows.specs.declared.answers.Kind.TheVariants.{Share, Factor, Current, ShareInSheet, FactorInSheet, CurrentInSheet}

-- "share", "factor", "current", and each with "_in_sheet" behind it
abbrev pub share_kind : List ℕ
share_kind = 115 ∷ 104 ∷ 97 ∷ 114 ∷ 101 ∷ []

abbrev pub factor_kind : List ℕ
factor_kind = 102 ∷ 97 ∷ 99 ∷ 116 ∷ 111 ∷ 114 ∷ []

abbrev pub current_kind : List ℕ
current_kind = 99 ∷ 117 ∷ 114 ∷ 114 ∷ 101 ∷ 110 ∷ 116 ∷ []

abbrev pub share_in_sheet_kind : List ℕ
share_in_sheet_kind = 115 ∷ 104 ∷ 97 ∷ 114 ∷ 101 ∷ 95 ∷ 105 ∷ 110 ∷ 95 ∷ 115 ∷ 104 ∷ 101 ∷ 101 ∷ 116 ∷ []

abbrev pub factor_in_sheet_kind : List ℕ
factor_in_sheet_kind = 102 ∷ 97 ∷ 99 ∷ 116 ∷ 111 ∷ 114 ∷ 95 ∷ 105 ∷ 110 ∷ 95 ∷ 115 ∷ 104 ∷ 101 ∷ 101 ∷ 116 ∷ []

abbrev pub current_in_sheet_kind : List ℕ
current_in_sheet_kind = 99 ∷ 117 ∷ 114 ∷ 114 ∷ 101 ∷ 110 ∷ 116 ∷ 95 ∷ 105 ∷ 110 ∷ 95 ∷ 115 ∷ 104 ∷ 101 ∷ 101 ∷ 116 ∷ []

-- "kind", which heads the columns' names, and "rise", "program", which `rise_files` runs
abbrev pub skips : List ℕ → Bool
skips word =
    bytes_eq word (107 ∷ 105 ∷ 110 ∷ 100 ∷ [])
    || bytes_eq word (114 ∷ 105 ∷ 115 ∷ 101 ∷ [])
    || bytes_eq word (112 ∷ 114 ∷ 111 ∷ 103 ∷ 114 ∷ 97 ∷ 109 ∷ [])

abbrev pub kinds : List (List ℕ × Kind)
kinds =
    (share_kind, Share)
    ∷ (factor_kind, Factor)
    ∷ (current_kind, Current)
    ∷ (share_in_sheet_kind, ShareInSheet)
    ∷ (factor_in_sheet_kind, FactorInSheet)
    ∷ (current_in_sheet_kind, CurrentInSheet)
    ∷ []

-- The kind of the first of these words that is the same.
unfoldable pub kind_of : List ℕ → Option Kind
kind_of word = option_map (λ k. k.1) (find (λ k. bytes_eq k.0 word) kinds)
