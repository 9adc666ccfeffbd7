-- When a value of the table agrees: the cable of its column, the shares of the hours before and after it, and the test. Φ0 to Φ5 are what the share
-- gains in an hour, and 1 − β(6) is what it lacks after 6.
use Rattle.std.specs.Prelude.{Bool, false, cond, ◌&&◌, List, [], ℕ, zero, suc, ◌+◌, ◌*◌, eqb, ltb, leb, pos, get_or}
use Rattle.numbers.specs.Integer.{up}
use Rattle.bounds.specs.Operations.{point_b}
use Rattle.bounds.specs.declared.Bounds.{Bounds}
use Rattle.cable_rules.specs.Group.{given_cable}
use Rattle.cable_rules.specs.declared.Cable.{Cable}
use Rattle.share_rules.specs.Answer.{share_answer}
use Rattle.distance.specs.Promised.{Millionths}
use Rattle.share_rules.specs.declared.ShareAnswer.{ShareAnswer}
use Rattle.share_rules.specs.declared.ShareAnswer.TheVariants.{Pair, Refused}
use Rattle.table_1972.specs.declared.Ends.{Ends}

-- all its rise is that of the surface, and the conductor's own is over at once
abbrev pub surface_cable : ℕ → ℕ → ℕ → Cable
surface_cable diameter depth diffusivity =
    record {
      diameter = diameter;
      depth = depth;
      diffusivity = diffusivity;
      surface_ratio = 1000000;
      fast_weight = 0;
      fast_rate = 100000;
      slow_rate = 100000;
      rated = 400;
    }

-- the diameters of the table, in tenths of a millimetre; those beyond the range of the call at half the size, in soil of a quarter of the diffusivity
unfoldable pub table_cable : ℕ → Cable
table_cable column = cond (ltb column 25) (surface_cable (300 + 50 * column) 1000 500) (surface_cable (150 + 25 * column) 500 125)

-- nothing at 0 hours, and all of it after more than 6
unfoldable pub share_after : Cable → ℕ → ShareAnswer
share_after cable hours =
    cond (eqb hours 0) (Pair (point_b (pos 0)))
    (cond (ltb 6 hours) (Pair (point_b (pos 1000000)))
    (share_answer (given_cable cable) (60 * hours)))

-- a pair is in millionths, from nothing to all
abbrev pub InMillionths : ShareAnswer → Type 0
InMillionths (Pair b) = Millionths b
InMillionths (Refused f) = Unit {0}

abbrev pub ends_of : Bounds → Ends
ends_of b = record { low = up b.low; high = up b.high }

-- within 0.001 of what lies in the pair, from low to high, of the later share less the earlier
abbrev pub near : Ends → Ends → ℕ → Bool
near earlier later thousandths =
    leb later.low (earlier.high + 1000 * thousandths + 1000) && leb (earlier.low + 1000 * thousandths) (later.high + 1000)

-- a share that is refused agrees with no value
abbrev pub between : ShareAnswer → ShareAnswer → ℕ → Bool
between (Pair e) (Pair l) thousandths = near (ends_of e) (ends_of l) thousandths
between (Pair e) (Refused f) thousandths = false
between (Refused f) later thousandths = false

unfoldable pub agrees_at : ℕ → ℕ → ℕ → Bool
agrees_at column line thousandths = between (share_after (table_cable column) line) (share_after (table_cable column) (line + 1)) thousandths

abbrev pub one_if : Bool → ℕ
one_if b = cond b 1 0

-- how many of the first n values of a column agree
unfoldable pub agreeing_lines : ℕ → List ℕ → ℕ → ℕ
agreeing_lines column printed zero = 0
agreeing_lines column printed (suc n) = agreeing_lines column printed n + one_if (agrees_at column n (get_or printed n 0))

-- how many values of the first n columns agree
unfoldable pub agreeing_columns : List (List ℕ) → ℕ → ℕ
agreeing_columns table zero = 0
agreeing_columns table (suc n) = agreeing_columns table n + agreeing_lines n (get_or table n []) 7
