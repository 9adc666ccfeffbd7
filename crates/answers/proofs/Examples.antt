-- Worked examples of the answers' lines. Each text is given above its bytes.
use Rattle.std.specs.Prelude.{◌≡◌, refl, [], ◌∷◌, pos}
use Rattle.text.specs.Writing.{leading, decimal_text}
use Rattle.lines.specs.Lines.{answer_line}
use Rattle.share_rules.specs.declared.ShareAnswer.TheVariants as S
use Rattle.cycle_rules.specs.declared.FactorAnswer.TheVariants as F
use Rattle.emergency_rules.specs.declared.CurrentAnswer.TheVariants as C
use Rattle.answers.specs.Lines.{share_line, factor_line, current_line}

-- "share 340185 340186"
a_share :
    share_line (S.Pair (record { low = pos 340185; high = pos 340186 }))
    ≡ 115 ∷ 104 ∷ 97 ∷ 114 ∷ 101 ∷ 32 ∷ 51 ∷ 52 ∷ 48 ∷ 49 ∷ 56 ∷ 53 ∷ 32 ∷ 51 ∷ 52 ∷ 48 ∷ 49 ∷ 56 ∷ 54 ∷ 10 ∷ []
unfolding answer_line decimal_text leading
a_share = refl

-- "factor 1125"
a_factor : factor_line (F.Factor 1125) ≡ 102 ∷ 97 ∷ 99 ∷ 116 ∷ 111 ∷ 114 ∷ 32 ∷ 49 ∷ 49 ∷ 50 ∷ 53 ∷ 10 ∷ []
unfolding answer_line decimal_text leading
a_factor = refl

-- "current 500"
a_current : current_line (C.Current 500) ≡ 99 ∷ 117 ∷ 114 ∷ 114 ∷ 101 ∷ 110 ∷ 116 ∷ 32 ∷ 53 ∷ 48 ∷ 48 ∷ 10 ∷ []
unfolding answer_line decimal_text leading
a_current = refl
