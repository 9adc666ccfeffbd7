-- What a row's results allow of an answer.
use Rattle.std.specs.Prelude.{Bool, ◌&&◌, cond, ℕ, eqb, ℤ, pos, ◌+ℤ◌}
use Rattle.std.specs.Int.Signed.{lt_z, le_z}
use Rattle.refusals.specs.declared.Parts.{Parts}

-- No values, and this refusal.
abbrev pub refuses : Parts → ℕ → ℕ → Bool
refuses p number place = eqb p.count 0 && eqb p.number number && eqb p.place place

abbrev pub between : ℤ → ℤ → ℤ → Bool
between least n most = le_z least n && le_z n most

-- Of a value by its whole part, and 0 where there is no more of it.
abbrev pub encloses : Parts → ℤ → ℕ → Bool
encloses p floor more = le_z p.first floor && cond (eqb more 0) (le_z floor p.second) (lt_z floor p.second)

-- Two values, the first from 0 to a million millionths, and the second at most that and at most 50 above the first.
unfoldable pub is_share : Parts → Bool
is_share p = eqb p.count 2 && between (pos 0) p.first (pos 1000000) && le_z p.second (pos 1000000) && le_z p.second (p.first +ℤ pos 50)

-- One value, from the least to the most.
abbrev pub is_value : Parts → ℤ → ℤ → Bool
is_value p least most = eqb p.count 1 && between least p.first most

-- A share, each end of it in its range.
abbrev pub in_ranges : Parts → ℤ → ℤ → ℤ → ℤ → Bool
in_ranges p lowLeast lowMost highLeast highMost = is_share p && between lowLeast p.first lowMost && between highLeast p.second highMost

-- A share around the exact value.
abbrev pub is_share_of : Parts → ℤ → ℕ → Bool
is_share_of p floor more = is_share p && encloses p floor more
