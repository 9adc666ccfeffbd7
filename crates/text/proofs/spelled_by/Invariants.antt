-- The loop's invariant: the bytes passed are digits, and the number is what they spell, held at the most.
use Rattle.text.proofs.Digits.{Passed}
use Rattle.text.proofs.spelled_by.Given as goal

abbrev pub invariant-loop-byte : goal.invariant-loop-byte
invariant-loop-byte l = Passed l.text l.most l.number l.byte-index
