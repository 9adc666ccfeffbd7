-- What the functions on a sheet ask and promise.
use Rattle.std.specs.Prelude.{◌≡◌, List, ℕ, ◌≤◌, ⊤, Option, Result, Ok, Err, IfOk}
use Rattle.cable_rules.specs.Group.{only, alone, given_cable}
use Rattle.cable_rules.specs.declared.Cable.{Cable}
use Rattle.sheet_rules.specs.Header.{checked_header}
use Rattle.sheet_rules.specs.Records.{record_at, checked_record}
use Rattle.sheet_rules.specs.Walk.{Walk, reached, refused}
use Rattle.sheet_rules.specs.Chain.{age}
use Rattle.sheet_rules.specs.Neighbours.{above, checked_neighbour}
use Rattle.sheet_rules.specs.Sheet.{checked_sheet, given_sheet, group_in, Laid}
use Rattle.sheet_rules.specs.Ground.{group_at, as_given_in}
use Rattle.sheet_rules.specs.declared.Header.{Header}
use Rattle.sheet_rules.specs.declared.LoadRecord.{LoadRecord}
use Rattle.sheet_rules.specs.declared.Trench.{Trench}
use Rattle.sheet_rules.specs.declared.Ground.{Ground}
use Rattle.sheet_rules.specs.declared.Links.{Links}
use Rattle.sheet_rules.specs.declared.Links.TheVariants.{Load, Neighbours}
use Rattle.refusals.specs.declared.Refusal.{Refusal}

pub record HeaderSaid (s : List ℕ) (r : Result Header Refusal) : Type 0 where
  pub answer : r ≡ checked_header s

pub record RecordReadAs (s : List ℕ) (number : ℕ) (r : Option LoadRecord) : Type 0 where
  pub answer : r ≡ record_at s number

pub record RecordSaid (before : LoadRecord) (read : Option LoadRecord) (r : Result LoadRecord Refusal) : Type 0 where
  pub answer : r ≡ checked_record before read

-- ---- the neighbours

-- a cable whose diameter and depth are at most the largest that document 01 accepts
pub record InGround (c : Cable) : Type 0 where
  pub diameter_to : c.diameter ≤ 1500
  pub depth_to : c.depth ≤ 5000

pub record NeighbourSaid (c : Cable) (before : LoadRecord) (read : Option LoadRecord) (r : Result LoadRecord Refusal) : Type 0 where
  pub answer : r ≡ checked_neighbour c.diameter c.depth before read

-- ---- the walk along either chain

abbrev pub checked_next : Links → Cable → LoadRecord → Option LoadRecord → Result LoadRecord Refusal
checked_next Load c = checked_record
checked_next Neighbours c = checked_neighbour c.diameter c.depth

-- minutes fall on the load chain; links rise on that of neighbours, and none is above 48
abbrev pub turns_left : Links → LoadRecord → ℕ
turns_left Load r = age r
turns_left Neighbours r = above r

abbrev pub outcome_of : Walk → Result ⊤ Refusal
outcome_of (reached rs) = (Ok tt)
outcome_of (refused f) = Err f

-- ---- the whole

pub record SheetSaid (s : List ℕ) (r : Result Header Refusal) : Type 0 where
  pub answer : r ≡ checked_sheet s

pub record TrenchSaid (h : Header) (t : Trench) : Type 0 where
  pub cable : only t.cable ≡ alone h.cable
  pub neighbours : t.neighbours ≡ h.neighbours

pub record GroundSaid (s : List ℕ) (h : Header) (g : Ground) : Type 0 where
  pub sheet : g.sheet.now ≡ s
  pub trench : TrenchSaid h g.trench

-- what is given by a sheet lies beside its bytes
pub record GivenBySheet (s : List ℕ) (r : Result Ground Refusal) : Type 0 where
  pub answer : as_given_in r ≡ given_sheet s
  pub beside : IfOk r (λ g. g.sheet.now ≡ s)

-- one group beside whatever bytes
pub record AnyBeside (g : Ground) (s : List ℕ) : Type 0 where
  pub group : group_in s g.trench ≡ group_at g
  pub laid : Laid s g.trench

-- "without a sheet there are no neighbours"
pub record GivenAlone (c : Cable) (r : Result Ground Refusal) : Type 0 where
  pub answer : as_given_in r ≡ given_cable c
  pub beside : IfOk r (λ g. (s : List ℕ) → AnyBeside g s)
