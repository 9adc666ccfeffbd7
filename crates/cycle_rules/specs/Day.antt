-- Document 01, 'The daily cycle': twenty-four hourly amperes, the highest of them, and the hours before an hour.
use Rattle.std.specs.Prelude.{List, ℕ, zero, suc, ◌+◌, ◌-◌, ◌*◌, ◌%◌, max, get_or}

-- "hours 0 to 23"
abbrev pub day_hours : ℕ
day_hours = 24

abbrev pub load : List ℕ → ℕ → ℕ
load hours hour = get_or hours hour 0

-- the highest load of the first n hours, and 0 of none
unfoldable pub highest_of : List ℕ → ℕ → ℕ
highest_of hours zero = 0
highest_of hours (suc n) = max (highest_of hours n) (load hours n)

-- "Y0 is its squared load over the squared highest"
abbrev pub highest_load : List ℕ → ℕ
highest_load hours = highest_of hours day_hours

-- i hours before an hour, "hour 23 coming before hour 0"
abbrev pub earlier : ℕ → ℕ → ℕ
earlier hour i = (hour + day_hours - i) % day_hours

abbrev pub squared_load : List ℕ → ℕ → ℕ
squared_load hours hour = load hours hour * load hours hour

-- the sum of the squared loads of the first n hours
unfoldable pub squared_loads : List ℕ → ℕ → ℕ
squared_loads hours zero = 0
squared_loads hours (suc n) = squared_loads hours n + squared_load hours n
