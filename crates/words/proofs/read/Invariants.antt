-- No more words are read than wanted, for which there is room, and nothing but 0 stands where none was read.
use Prim.Native.Nat.{◌≤◌}
use Rattle.words.specs.Words.{ZeroFrom}
use Rattle.words.proofs.read.Given as goal

abbrev pub invariant-loop-k : goal.invariant-loop-k
invariant-loop-k l = (l.k ≤ l.wanted) × ZeroFrom l.k l.values
