-- How many numbers are read for what is asked.
use Rattle.std.specs.Prelude.{Bool, cond, ℕ, ◌+◌}
use Rattle.cycle_rules.specs.Day.{day_hours}
use Rattle.words.specs.Words.{cable_fields}
use Rattle.commands.specs.declared.Asked.{Asked}
use Rattle.commands.specs.declared.Asked.TheVariants.{Share, Factor, Current}

-- how many numbers are asked with: minutes; hours; preload, limit and minutes
abbrev pub more_of : Asked → ℕ
more_of Share = 1
more_of Factor = day_hours
more_of Current = 3

-- a cable's fields, where no file is named, and those
abbrev pub wanted_by : Asked → Bool → ℕ
wanted_by asked named = cond named (more_of asked) (cable_fields + more_of asked)
