-- Document 01, 'The load sheet': "Bytes, all numbers unsigned and big-endian."
use Rattle.std.specs.Prelude.{List, ℕ, zero, suc, ◌+◌, ◌*◌, get_or}

-- The number of some bytes at a place, the most significant first.
unfoldable pub big_endian : List ℕ → ℕ → ℕ → ℕ
big_endian s at zero = 0
big_endian s at (suc n) = big_endian s at n * 256 + get_or s (at + n) 0
