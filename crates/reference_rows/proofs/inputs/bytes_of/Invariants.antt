-- The loop's invariant: the bytes are those of the digits so far, two for each, and the pairs left are of the digits behind them.
use Rattle.std.proofs.Common.{◌≡◌, ◌+◌, ◌*◌, length, drop}
use Rattle.std.specs.Slice.Iter.{chunks_exact_rest, chunks_exact_size}
use Rattle.reference_rows.specs.Inputs.{BytesOf}
use Rattle.reference_rows.proofs.inputs.bytes_of.Given as goal

abbrev pub invariant-loop-pair : goal.invariant-loop-pair
invariant-loop-pair l =
    record {
      size : chunks_exact_size l.pair-iterator ≡ 2;
      rest : drop (2 * length l.bytes.items) l.hex ≡ chunks_exact_rest l.pair-iterator;
      left : length (chunks_exact_rest l.pair-iterator) + 2 * length l.bytes.items ≡ length l.hex;
      so_far : BytesOf l.hex l.bytes.items;
    }
