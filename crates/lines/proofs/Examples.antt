-- Worked examples of lines: document 01, 'Cases', and "A refusal's place": each text is given above its bytes.
use Rattle.std.specs.Prelude.{◌≡◌, refl, List, [], ◌∷◌, ℕ, pos, negsuc}
use Rattle.refusals.specs.Stated.{stated_values, stated_refusal}
use Rattle.refusals.specs.Apart.{parts_of}
use Rattle.refusals.specs.declared.Place.TheVariants.{None, Record}
use Rattle.text.specs.Writing.{leading, decimal_text}
use Rattle.lines.specs.Lines.{refusal_line, answer_line}

-- "rise"
abbrev rise : List ℕ
rise = 114 ∷ 105 ∷ 115 ∷ 101 ∷ []

-- C1: "rise 562500 562500"
steady :
    answer_line rise (parts_of (stated_values (pos 562500 ∷ pos 562500 ∷ [])))
    ≡ 114 ∷ 105 ∷ 115 ∷ 101 ∷ 32 ∷ 53 ∷ 54 ∷ 50 ∷ 53 ∷ 48 ∷ 48 ∷ 32 ∷ 53 ∷ 54 ∷ 50 ∷ 53 ∷ 48 ∷ 48 ∷ 10 ∷ []
unfolding answer_line decimal_text leading
steady = refl

-- "rise -2 10"
below_zero : answer_line rise (parts_of (stated_values (negsuc 1 ∷ pos 10 ∷ []))) ≡ 114 ∷ 105 ∷ 115 ∷ 101 ∷ 32 ∷ 45 ∷ 50 ∷ 32 ∷ 49 ∷ 48 ∷ 10 ∷ []
unfolding answer_line decimal_text leading
below_zero = refl

-- C11: "refused 8 1"
looping :
    answer_line rise (parts_of (stated_refusal (record { number = 8; place = Record 1 })))
    ≡ 114 ∷ 101 ∷ 102 ∷ 117 ∷ 115 ∷ 101 ∷ 100 ∷ 32 ∷ 56 ∷ 32 ∷ 49 ∷ 10 ∷ []
unfolding answer_line refusal_line decimal_text leading
looping = refl

-- "refused 13 0"
no_place :
    answer_line rise (parts_of (stated_refusal (record { number = 13; place = None })))
    ≡ 114 ∷ 101 ∷ 102 ∷ 117 ∷ 115 ∷ 101 ∷ 100 ∷ 32 ∷ 49 ∷ 51 ∷ 32 ∷ 48 ∷ 10 ∷ []
unfolding answer_line refusal_line decimal_text leading
no_place = refl

-- C4: "factor 999"
one_value :
    answer_line (102 ∷ 97 ∷ 99 ∷ 116 ∷ 111 ∷ 114 ∷ []) (parts_of (stated_values (pos 999 ∷ [])))
    ≡ 102 ∷ 97 ∷ 99 ∷ 116 ∷ 111 ∷ 114 ∷ 32 ∷ 57 ∷ 57 ∷ 57 ∷ 10 ∷ []
unfolding answer_line decimal_text leading
one_value = refl
