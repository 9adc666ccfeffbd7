-- How large and how narrow a pair is.
use Rattle.std.specs.Prelude.{ℕ, ◌+◌, ◌≤◌}
use Rattle.bounds.specs.Pair.{Pair}

-- neither end passes `most`
pub record Under (most : ℕ) (b : Pair) : Type 0 where
  pub low : b.low ≤ most
  pub high : b.high ≤ most

-- the ends stand in order, and at most `most` apart
pub record Within (most : ℕ) (b : Pair) : Type 0 where
  pub order : b.low ≤ b.high
  pub width : b.high ≤ b.low + most

-- how far apart the ends of a share are at most, in millionths, by the fixed point's own reckoning: "The share keeps its 50 millionths for any
-- neighbours, proved once over their list" (document 02, note 2)
abbrev pub inner_width : ℕ
inner_width = 5
