-- Document 01, 'Cases': "prints the one line `rise 562500 562500`".
use Rattle.std.specs.Prelude.{List, ℕ}
use Rattle.lines.specs.Lines.{line_of, rise_word}
use Rattle.history_rules.specs.Answer.{stated_rise}
use Rattle.history_rules.specs.declared.RiseAnswer.{RiseAnswer}

abbrev pub rise_line : RiseAnswer → List ℕ
rise_line answer = line_of rise_word stated_rise answer
