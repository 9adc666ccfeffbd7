-- Document 01, 'The load sheet' and 'When the desk is told no': a record, and refusals 5 to 8 in their order.
use Rattle.std.specs.Prelude.{cond, List, ℕ, suc, ◌+◌, eqb, leb, ltb, length, Option, Some, None, Result, Ok, Err}
use Rattle.ranges.specs.Ranges.{outside, ◌to◌}
use Rattle.refusals.specs.declared.Place.TheVariants as P
use Rattle.sheet_rules.specs.BigEndian.{big_endian}
use Rattle.sheet_rules.specs.Layout.{record_start, record_count, wrong_length}
use Rattle.sheet_rules.specs.Header.{starting_current, first_link, most_amperes}
use Rattle.sheet_rules.specs.declared.LoadRecord.{LoadRecord}
use Rattle.refusals.specs.declared.Refusal.{Refusal}

-- "minutes before now (1 to 2,880)"
abbrev pub least_minutes : ℕ
least_minutes = 1

abbrev pub most_minutes : ℕ
most_minutes = 2880

-- "of six bytes: minutes before now (1 to 2,880), amperes from then on (0 to 4,000), next link, two bytes each"
unfoldable pub record_of : List ℕ → ℕ → LoadRecord
record_of s k =
    record {
      number = k;
      minutes = big_endian s (record_start (length s) k) 2;
      amperes = big_endian s (record_start (length s) k + 2) 2;
      next = big_endian s (record_start (length s) k + 4) 2;
    }

-- "The cable carried the starting current for ever before the first step": the header as a record of number 0, as refusal 5 counts it, with
-- more minutes than any record may have.
abbrev pub before_first : ℕ → ℕ → LoadRecord
before_first start link = record { number = 0; minutes = suc most_minutes; amperes = start; next = link }

abbrev pub origin : List ℕ → LoadRecord
origin s = before_first (starting_current s) (first_link s)

-- What is read at a number: the header at 0, and nothing above the number of records or where the length is wrong.
unfoldable pub record_at : List ℕ → ℕ → Option LoadRecord
record_at s k =
    cond (wrong_length (length s)) None
    (cond (ltb (record_count (length s)) k) None
    (cond (eqb k 0) (Some (origin s))
    (Some (record_of s k))))

abbrev pub refused_at : ℕ → ℕ → Result LoadRecord Refusal
refused_at number place = Err (record { number = number; place = P.Record place })

-- "for each record in turn 5 for the link that leads to it, 6, 7, 8"; `before` is the record that holds the link
unfoldable pub checked_record : LoadRecord → Option LoadRecord → Result LoadRecord Refusal
checked_record before None = refused_at 5 before.number
checked_record before (Some r) =
    cond (outside (least_minutes to most_minutes) r.minutes) (refused_at 6 r.number)
    (cond (ltb most_amperes r.amperes) (refused_at 7 r.number)
    (cond (leb before.minutes r.minutes) (refused_at 8 r.number)
    (Ok r)))
