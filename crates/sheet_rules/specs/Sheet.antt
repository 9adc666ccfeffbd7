-- Document 02, note 2: all checks of a sheet in their order, and what it gives a calculation.
use Rattle.std.specs.Prelude.{◌≡◌, List, ℕ, Result, Ok, Err}
use Rattle.cable_rules.specs.Group.{Group, Given, accepted, in_trench}
use Rattle.cable_rules.specs.Group as G
use Rattle.cable_rules.specs.InRange.{Acceptable}
use Rattle.sheet_rules.specs.Header.{cable_of, header_of, checked_header}
use Rattle.sheet_rules.specs.Records.{origin}
use Rattle.sheet_rules.specs.Walk.{Walk, reached, refused, records_in}
use Rattle.sheet_rules.specs.Chain.{load_walk}
use Rattle.sheet_rules.specs.Neighbours.{beside_first, neighbour_walk, neighbours_in, trench_of}
use Rattle.sheet_rules.specs.declared.Trench.{Trench}
use Rattle.refusals.specs.declared.Refusal.{Refusal}
use Rattle.sheet_rules.specs.declared.Header.{Header}

-- what follows where a check passes; its refusal passes out unchanged
abbrev pub after_header : Result Header Refusal → Result Header Refusal → Result Header Refusal
after_header (Ok h) check = check
after_header (Err f) check = Err f

abbrev pub after_walk : Walk → Result Header Refusal → Result Header Refusal
after_walk (reached rs) check = check
after_walk (refused f) check = Err f

-- "After all checks of the load chain come, for each neighbour in turn, 14 [..], 15 [..] and 16"
unfoldable pub checked_sheet : List ℕ → Result Header Refusal
checked_sheet s = after_header (checked_header s) (after_walk (load_walk s (origin s)) (after_walk (trench_of s) (Ok (header_of s))))

-- "Most of our trenches hold three or more cables with equal losses, and the hottest one must be rated": the cable of the header, with its neighbours
abbrev pub group_of : List ℕ → Group
group_of s = in_trench (cable_of s) (neighbours_in (trench_of s))

-- what is given where all of a sheet passes; its refusal passes out unchanged
abbrev pub after_sheet : Result Header Refusal → Given → Given
after_sheet (Ok h) given = given
after_sheet (Err f) given = G.refused f

-- "Share, cycle and emergency current can take cable and neighbours from such a sheet, whose refusals then precede their own"
unfoldable pub given_sheet : List ℕ → Given
given_sheet s = after_sheet (checked_sheet s) (accepted (group_of s))

-- ---- what the code carries: a cable in use beside the bytes, and the link that leads to its neighbours there

abbrev pub walk_in : List ℕ → Trench → Walk
walk_in s t = neighbour_walk s t.cable.diameter t.cable.depth (beside_first t.neighbours)

abbrev pub group_in : List ℕ → Trench → Group
group_in s t = record { cable = t.cable; neighbours = neighbours_in (walk_in s t) }

-- all of it is accepted
pub record Laid (s : List ℕ) (t : Trench) : Type 0 where
  pub acceptable : Acceptable (group_in s t)
  pub records : walk_in s t ≡ reached (records_in (walk_in s t))
