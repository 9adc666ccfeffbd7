-- The loop's invariant: `number` is that of the bytes passed.
use Rattle.std.proofs.Common.{◌≡◌}
use Rattle.sheet_rules.specs.BigEndian.{big_endian}
use Rattle.header.proofs.number_at.Given as goal

abbrev pub invariant-loop-byte : goal.invariant-loop-byte
invariant-loop-byte l = l.number ≡ big_endian l.sheet l.at l.byte-index
