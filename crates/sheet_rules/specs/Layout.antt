-- Document 01, 'The load sheet', and document 02, note 2: where what stands, and refusal 1.
use Rattle.std.specs.Prelude.{Bool, cond, not, ◌||◌, ℕ, ◌+◌, ◌-◌, ◌*◌, ◌/◌, ◌%◌, eqb, ltb}

-- "36 bytes. Then n records, 0 to 48, of six bytes"
abbrev pub short_header : ℕ
short_header = 36

abbrev pub record_length : ℕ
record_length = 6

abbrev pub most_records : ℕ
most_records = 48

-- "The header gains a second link in bytes 37 and 38"
abbrev pub long_header : ℕ
long_header = 38

-- "lengths 36 + 6n and 38 + 6n are told apart by their remainder by 6"
abbrev pub is_long : ℕ → Bool
is_long size = eqb (size % record_length) (long_header % record_length)

unfoldable pub header_length : ℕ → ℕ
header_length size = cond (is_long size) long_header short_header

-- "Records are numbered from 1." In a sheet of `size` bytes
abbrev pub record_start : ℕ → ℕ → ℕ
record_start size k = header_length size + record_length * (k - 1)

-- How many records a sheet of `size` bytes has.
abbrev pub record_count : ℕ → ℕ
record_count size = (size - header_length size) / record_length

-- Refusal 1: "length is not 36 + 6n, n 0 to 48", nor 38 + 6n
unfoldable pub wrong_length : ℕ → Bool
wrong_length size = ltb most_records (record_count size) || not (eqb size (header_length size + record_length * record_count size))
