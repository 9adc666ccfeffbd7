-- The bytes of sheets for the worked examples, and what is said of them. Cable A, or a cable that differs from it where an example says so.
use Rattle.std.specs.Prelude.{List, [], ◌∷◌, ◌++◌, ℕ, ◌/◌, ◌%◌, Result, Err}
use Rattle.refusals.specs.declared.Refusal.{Refusal}
use Rattle.refusals.specs.declared.Place.TheVariants as P
use Rattle.cable_rules.specs.declared.Cable.{Cable}
use Rattle.sheet_rules.specs.Chain.{Step}
use Rattle.sheet_rules.specs.declared.Header.{Header}

-- ---- the bytes of a sheet

abbrev pub two : ℕ → List ℕ
two n = n / 256 ∷ n % 256 ∷ []

abbrev pub four : ℕ → List ℕ
four n = two (n / 65536) ++ two (n % 65536)

-- a diameter, a depth, a diffusivity and a slow rate, the rest as in cable A
abbrev pub fields_with : ℕ → ℕ → ℕ → ℕ → List ℕ
fields_with d l s slow =
    four d ++ (four l ++ (four s ++ (four 600000 ++ (four 500000 ++ (four 1000 ++ (four slow ++ four 400))))))

abbrev pub fields_a : List ℕ
fields_a = fields_with 500 1000 500 100

-- minutes, amperes, next link; or an offset as it is written, a depth, next link
abbrev pub record_bytes : ℕ → ℕ → ℕ → List ℕ
record_bytes minutes amperes next = two minutes ++ (two amperes ++ two next)

-- cable A, a starting current, a first link, and the records
abbrev pub sheet_a : ℕ → ℕ → List ℕ → List ℕ
sheet_a start link records = fields_a ++ (two start ++ (two link ++ records))

-- the same with a second link
abbrev pub long_sheet_a : ℕ → ℕ → ℕ → List ℕ → List ℕ
long_sheet_a start link second records = sheet_a start link (two second ++ records)

-- ---- what is said of them

abbrev pub cable_a : Cable
cable_a =
    record {
      diameter = 500;
      depth = 1000;
      diffusivity = 500;
      surface_ratio = 600000;
      fast_weight = 500000;
      fast_rate = 1000;
      slow_rate = 100;
      rated = 400;
    }

-- a starting current, a first link and a second
abbrev pub header_a : ℕ → ℕ → ℕ → Header
header_a start link second = record { cable = cable_a; start = start; link = link; neighbours = second }

abbrev pub step : ℕ → ℕ → ℕ → Step
step number minutes amperes = record { number = number; minutes = minutes; amperes = amperes }

abbrev pub at_record : ℕ → ℕ → Refusal
at_record number place = record { number = number; place = P.Record place }

abbrev pub refused_none : ℕ → Result Header Refusal
refused_none number = Err (record { number = number; place = P.None })
