-- The two tests are those of the definition.
use borrow.Author.Tests.{lt-ltb, le-ltb}
use Rattle.sheet_rules.specs.Layout.{wrong_length}
use Rattle.header.proofs.wrong_length.Goals as goal

pub returns-then-count-gt-MOST_RECORDS : goal.returns-then-count-gt-MOST_RECORDS
unfolding wrong_length
returns-then-count-gt-MOST_RECORDS c = simp (← c.record_count-count.ensures, lt-ltb _ _ c.if-count-gt-MOST_RECORDS.true)

pub returns-else-count-gt-MOST_RECORDS : goal.returns-else-count-gt-MOST_RECORDS
unfolding wrong_length
returns-else-count-gt-MOST_RECORDS c = rw c.header_length-header.ensures (simp (← c.record_count-count.ensures, le-ltb _ _ c.if-count-gt-MOST_RECORDS.false))
