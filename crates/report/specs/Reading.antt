-- What is known of an input: how much of a buffer it filled, and that an answer is the rise of some bytes. Which bytes were read no contract can say.
use Rattle.std.specs.Prelude.{List, ℕ, Result, IfOk}
use Rattle.std.specs.declared.io.Error.{Error}
use Rattle.io.specs.Counts.{IsPrefixLen}
use Rattle.history_rules.specs.Answer.{history_of, RiseSaid}
use Rattle.history_rules.specs.declared.RiseAnswer.{RiseAnswer}

abbrev pub Within : Result ℕ Error → List ℕ → Type 0
Within read buffer = IfOk read (λ n. IsPrefixLen n buffer)

pub record OfBytes (a : RiseAnswer) : Type 0 where
  pub sheet : List ℕ
  pub said : RiseSaid (history_of sheet) a

abbrev pub FromBytes : Result RiseAnswer Error → Type 0
FromBytes read = IfOk read OfBytes
