-- How many arguments are looked at, the program's own name among them.
use Rattle.std.specs.Prelude.{ℕ}

abbrev pub most_words : ℕ
most_words = 4096
