-- Worked examples of the line of a rise: document 01, 'Cases'. Each text is given above its bytes.
use Rattle.std.specs.Prelude.{◌≡◌, refl, [], ◌∷◌, pos, negsuc}
use Rattle.refusals.specs.declared.Place.TheVariants.{Record}
use Rattle.text.specs.Writing.{leading, decimal_text}
use Rattle.lines.specs.Lines.{refusal_line, answer_line}
use Rattle.history_rules.specs.declared.RiseAnswer.TheVariants.{Rise, Refused}
use Rattle.report.specs.Lines.{rise_line}

-- "rise -7 9"
a_rise : rise_line (Rise (record { low = negsuc 6; high = pos 9 })) ≡ 114 ∷ 105 ∷ 115 ∷ 101 ∷ 32 ∷ 45 ∷ 55 ∷ 32 ∷ 57 ∷ 10 ∷ []
unfolding answer_line decimal_text leading
a_rise = refl

-- "refused 5 0": a first link that leads to no record
a_refusal : rise_line (Refused (record { number = 5; place = Record 0 })) ≡ 114 ∷ 101 ∷ 102 ∷ 117 ∷ 115 ∷ 101 ∷ 100 ∷ 32 ∷ 53 ∷ 32 ∷ 48 ∷ 10 ∷ []
unfolding answer_line refusal_line decimal_text leading
a_refusal = refl
