-- How many rows were counted, and how many bytes a file may have.
use Rattle.std.specs.Prelude.{ℕ, ◌+◌}
use Rattle.reference_rows.specs.declared.Counts.{Counts}

abbrev pub rows_in : Counts → ℕ
rows_in c = c.inside + c.outside + c.unreadable

abbrev pub table_room : ℕ
table_room = 65536

-- More than all files have.
abbrev pub most_rows : ℕ
most_rows = 1000000
