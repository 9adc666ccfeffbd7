-- What an answer states, taken apart into plain numbers: the static library copies them out, a line is printed from them, and a refusal is handed on by them.
use Rattle.std.specs.Prelude.{cond, ℕ, eqb, pos, length, get_or}
use Rattle.refusals.specs.Stated.{Stated, kind_number}
use Rattle.refusals.specs.declared.Place.{Place}
use Rattle.refusals.specs.declared.Place.TheVariants.{None, Field, Record, Hour, Input}
use Rattle.refusals.specs.declared.Refusal.{Refusal}
use Rattle.refusals.specs.declared.Parts.{Parts}

-- "A refusal is its number and a place, and nothing else." A value that is not there is 0.
abbrev pub parts_of : Stated → Parts
parts_of s =
    record {
      number = s.number;
      kind = kind_number s.kind;
      place = s.place;
      count = length s.values;
      first = get_or s.values 0 (pos 0);
      second = get_or s.values 1 (pos 0);
    }

-- the place of a kind's number and of its own
abbrev pub place_of : ℕ → ℕ → Place
place_of kind n = cond (eqb kind 1) (Field n) (cond (eqb kind 2) (Record n) (cond (eqb kind 3) (Hour n) (cond (eqb kind 4) (Input n) None)))

-- put together again from its parts
abbrev pub refusal_in : Parts → Refusal
refusal_in p = record { number = p.number; place = place_of p.kind p.place }
