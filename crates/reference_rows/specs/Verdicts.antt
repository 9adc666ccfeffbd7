-- Whether an answer is one that a row's results allow, nothing where a number of the row cannot be read. The results are a cell `name=value;name=value`.
use Rattle.std.specs.Prelude.{Bool, cond, List, [], ◌∷◌, ℕ, ltb, ℤ, length, Option, Some, option_and_then}
use Rattle.text.specs.Reading.{number_of, signed_of}
use Rattle.refusals.specs.declared.Parts.{Parts}
use Rattle.reference_rows.specs.Cells.{part_at, value_in, number_from}
use Rattle.reference_rows.specs.Results.{refuses, is_value, in_ranges, is_share_of}
use Rattle.reference_rows.specs.declared.answers.Kind.{Kind}
use Rattle.reference_rows.specs.declared.answers.Kind.TheVariants.{Share, Factor, Current, ShareInSheet, FactorInSheet, CurrentInSheet}

-- A row with a number that cannot be read is unreadable.
abbrev pub by_read : {A : Type 0} → Option A → (A → Option Bool) → Option Bool
by_read number judged = option_and_then judged number

abbrev pub integer_in : List ℕ → List ℕ → Option ℤ
integer_in name cell = signed_of (value_in name cell)

-- ' ' and '.'
abbrev pub space : ℕ
space = 32

abbrev pub point : ℕ
point = 46

-- Of `NUMBER PLACE`.
unfoldable pub by_refusal : List ℕ → Parts → Option Bool
by_refusal refused said = by_read (number_from (part_at space 0 refused)) (λ number. by_read (number_from (part_at space 1 refused)) (λ place. Some (refuses said number place)))

-- Of one value, by the names of the least and the greatest that is allowed.
unfoldable pub by_value : List ℕ → List ℕ → List ℕ → Parts → Option Bool
by_value least most results said = by_read (integer_in least results) (λ from. by_read (integer_in most results) (λ to. Some (is_value said from to)))

-- "low_min", "low_max", "high_min", "high_max"
abbrev pub low_min : List ℕ
low_min = 108 ∷ 111 ∷ 119 ∷ 95 ∷ 109 ∷ 105 ∷ 110 ∷ []

abbrev pub low_max : List ℕ
low_max = 108 ∷ 111 ∷ 119 ∷ 95 ∷ 109 ∷ 97 ∷ 120 ∷ []

abbrev pub high_min : List ℕ
high_min = 104 ∷ 105 ∷ 103 ∷ 104 ∷ 95 ∷ 109 ∷ 105 ∷ 110 ∷ []

abbrev pub high_max : List ℕ
high_max = 104 ∷ 105 ∷ 103 ∷ 104 ∷ 95 ∷ 109 ∷ 97 ∷ 120 ∷ []

unfoldable pub by_ranges : List ℕ → Parts → Option Bool
by_ranges results said =
    by_read (integer_in low_min results) (λ lowLeast.
    by_read (integer_in low_max results) (λ lowMost.
    by_read (integer_in high_min results) (λ highLeast.
    by_read (integer_in high_max results) (λ highMost. Some (in_ranges said lowLeast lowMost highLeast highMost)))))

-- "G_millionths": the exact share, with digits behind its point of which only matters whether all are 0
abbrev pub exact_name : List ℕ
exact_name = 71 ∷ 95 ∷ 109 ∷ 105 ∷ 108 ∷ 108 ∷ 105 ∷ 111 ∷ 110 ∷ 116 ∷ 104 ∷ 115 ∷ []

unfoldable pub by_exact : List ℕ → Parts → Option Bool
by_exact results said =
    by_read (signed_of (part_at point 0 (value_in exact_name results))) (λ floor.
    by_read (number_of (part_at point 1 (value_in exact_name results)) 1) (λ more. Some (is_share_of said floor more)))

-- "note1_m_rule_min", "note1_m_rule_max"; "factor_min", "factor_max"; "i_rule_min", "i_rule_max"; "current_min", "current_max"
abbrev pub factor_rule_min : List ℕ
factor_rule_min = 110 ∷ 111 ∷ 116 ∷ 101 ∷ 49 ∷ 95 ∷ 109 ∷ 95 ∷ 114 ∷ 117 ∷ 108 ∷ 101 ∷ 95 ∷ 109 ∷ 105 ∷ 110 ∷ []

abbrev pub factor_rule_max : List ℕ
factor_rule_max = 110 ∷ 111 ∷ 116 ∷ 101 ∷ 49 ∷ 95 ∷ 109 ∷ 95 ∷ 114 ∷ 117 ∷ 108 ∷ 101 ∷ 95 ∷ 109 ∷ 97 ∷ 120 ∷ []

abbrev pub factor_min : List ℕ
factor_min = 102 ∷ 97 ∷ 99 ∷ 116 ∷ 111 ∷ 114 ∷ 95 ∷ 109 ∷ 105 ∷ 110 ∷ []

abbrev pub factor_max : List ℕ
factor_max = 102 ∷ 97 ∷ 99 ∷ 116 ∷ 111 ∷ 114 ∷ 95 ∷ 109 ∷ 97 ∷ 120 ∷ []

abbrev pub current_rule_min : List ℕ
current_rule_min = 105 ∷ 95 ∷ 114 ∷ 117 ∷ 108 ∷ 101 ∷ 95 ∷ 109 ∷ 105 ∷ 110 ∷ []

abbrev pub current_rule_max : List ℕ
current_rule_max = 105 ∷ 95 ∷ 114 ∷ 117 ∷ 108 ∷ 101 ∷ 95 ∷ 109 ∷ 97 ∷ 120 ∷ []

abbrev pub current_min : List ℕ
current_min = 99 ∷ 117 ∷ 114 ∷ 114 ∷ 101 ∷ 110 ∷ 116 ∷ 95 ∷ 109 ∷ 105 ∷ 110 ∷ []

abbrev pub current_max : List ℕ
current_max = 99 ∷ 117 ∷ 114 ∷ 114 ∷ 101 ∷ 110 ∷ 116 ∷ 95 ∷ 109 ∷ 97 ∷ 120 ∷ []

abbrev pub by_results : Kind → List ℕ → Parts → Option Bool
by_results Share results said = by_ranges results said
by_results ShareInSheet results said = by_exact results said
by_results Factor results said = by_value factor_rule_min factor_rule_max results said
by_results FactorInSheet results said = by_value factor_min factor_max results said
by_results Current results said = by_value current_rule_min current_rule_max results said
by_results CurrentInSheet results said = by_value current_min current_max results said

-- "refused": a row that names a refusal allows no values.
abbrev pub refused_name : List ℕ
refused_name = 114 ∷ 101 ∷ 102 ∷ 117 ∷ 115 ∷ 101 ∷ 100 ∷ []

unfoldable pub verdict_of : Kind → List ℕ → Parts → Option Bool
verdict_of kind results said = cond (ltb 0 (length (value_in refused_name results))) (by_refusal (value_in refused_name results) said) (by_results kind results said)
