-- Each turn multiplies by e^(-1), and what is left to do has the same result. Assumes nothing.
use Rattle.series.proofs.Turns.{DecayTurn}
use Rattle.series.proofs.decayed.Given as goal

abbrev pub invariant-loop : goal.invariant-loop
invariant-loop l = DecayTurn l.initial.pair l.m l.pair l.counter
