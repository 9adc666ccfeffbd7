-- Demand 3 in document 01's own numbers: the widths, the caps, the limits, the certifying rule and the default stand here once more, written out, from 'The
-- attained share', 'The emergency current' and 'What the distances say'; and the 24 hours and the neighbours of document 02, notes 1 and 2. `proofs/Demands` takes every quoted line from the
-- contract of its call, so a contract that says less is refused there. A call that is added gets its sentences here, and a number that changes is changed here too.
use Rattle.std.specs.Prelude.{◌≡◌, refl, List, [], ◌∷◌, ℕ, ◌+◌, ◌*◌, ◌≤◌, ◌<◌, T, ℤ, pos, ◌+ℤ◌, ◌-ℤ◌, ◌*ℤ◌, ◌≤ℤ◌}
use Rattle.std.proofs.Math.IntN.{suc_ℤ}
use Rattle.numbers.specs.Signed.{of_int}
use Rattle.exact.specs.Value.{Value, AtMost, AtLeast, from_one, in_millionths, integer, ◌+ᵥ◌, ◌·ᵥ◌, largestᵥ}
use Rattle.exact.specs.Share.{CableNumbers, Neighbour, share}
use Rattle.cable_rules.specs.Checks.{in_use}
use Rattle.cable_rules.specs.InRange.{numbers_in}
use Rattle.cable_rules.specs.declared.Cable.{Cable}
use Rattle.share_rules.specs.Promises.{MillionthGap}
use Rattle.sheet_rules.specs.Header.{cable_of, starting_current}
use Rattle.sheet_rules.specs.Chain.{Step, steps, chain_of}
use Rattle.sheet_rules.specs.Neighbours.{neighbours_in, trench_of}
use Rattle.history_rules.specs.Exact.{exact_rise, changes}
use Rattle.history_rules.specs.Answer.{steps_of}
use Rattle.cycle_rules.specs.Exact.{exact_heating}

-- Every order from 1 gives bounds of an exact value: what is said of all orders is not empty.
pub record Bounded (x : Value) : Type 0 where
  pub bounds : (n : ℕ) → T (from_one n) → T (x.ok n)

-- A cable and its neighbours in the trench, none without a sheet, as plain numbers; a diffusivity of 0 "stands for 500".
abbrev pub numbers_of : Cable → List Neighbour → CableNumbers
numbers_of cable beside = numbers_in (record { cable = in_use 500 cable; neighbours = beside })

-- The exact G after some minutes, in millionths.
abbrev pub exact_g : Cable → List Neighbour → ℕ → Value
exact_g cable beside minutes = in_millionths (share (numbers_of cable beside) minutes)

-- ---- the share of a cable after some minutes

-- "a pair, low and high, in millionths: 0 ≤ low ≤ high ≤ 1,000,000, the exact G between them, high − low at most 50". Document 02, note 2: "The share keeps its
-- 50 millionths for any neighbours"
pub record ShareDemand (cable : Cable) (beside : List Neighbour) (minutes : ℕ) (low high : ℤ) : Type 0 where
  pub from_0 : pos 0 ≤ℤ low
  pub ordered : low ≤ℤ high
  pub to_million : high ≤ℤ pos 1000000
  pub low_at_most : AtMost (of_int low) (exact_g cable beside minutes)
  pub high_at_least : AtLeast (of_int high) (exact_g cable beside minutes)
  pub within_50 : high ≤ℤ (low +ℤ pos 50)
  pub bounded : Bounded (exact_g cable beside minutes)
  -- "for every accepted cable and minute count some order has a gap below one millionth"
  pub some_gap : MillionthGap (share (numbers_of cable beside) minutes)

-- ---- the rise of a sheet

-- the exact rise
abbrev pub rise_of_sheet : List ℕ → Value
rise_of_sheet s = exact_rise (exact_g (cable_of s) (neighbours_in (trench_of s))) (starting_current s) (cable_of s).rated (steps_of (chain_of s))

-- D, "the sum over the chain's steps of the size of amperes² − previous amperes², 0 with no steps"
abbrev pub changes_of_sheet : List ℕ → ℕ
changes_of_sheet s = changes (starting_current s) (steps_of (chain_of s))

changes_of_none : changes 300 [] ≡ 0
unfolding changes
changes_of_none = refl

-- from 10 A to 20 A, back, and to 30 A
abbrev step : ℕ → Step
step amperes = record { number = 1; minutes = 1; amperes = amperes }

changes_of_three : changes 10 (step 20 ∷ step 10 ∷ step 30 ∷ []) ≡ 300 + 300 + 800
unfolding changes
changes_of_three = refl

abbrev pub rated_squared : List ℕ → ℕ
rated_squared s = (cable_of s).rated * (cable_of s).rated

-- "low is at most the exact rise, high at least [..]. Then rated² · (high − low) is at most 2·rated² + 50·D."
pub record RiseDemand (s : List ℕ) (low high : ℤ) : Type 0 where
  pub low_at_most : AtMost (of_int low) (rise_of_sheet s)
  pub high_at_least : AtLeast (of_int high) (rise_of_sheet s)
  pub within_50_changes : (pos (rated_squared s) *ℤ (high -ℤ low)) ≤ℤ pos (2 * rated_squared s + 50 * changes_of_sheet s)
  pub bounded : Bounded (rise_of_sheet s)
  -- the steps are those of an accepted chain
  pub chained : chain_of s ≡ steps (steps_of (chain_of s))

-- ---- the factor of a cable and its hours

-- "let T be the exact heating sum in millionths". Document 02, note 1: "The factor rule now speaks of the largest exact sum, at the same distance."
-- The largest of hours 0 to 23.
abbrev pub heating_of : Cable → List Neighbour → List ℕ → Value
heating_of cable beside hours = largestᵥ (exact_heating (exact_g cable beside) hours) 24

-- "m²·T is at most 10^12. If m is below 5,000, each larger whole number, squared and times T + 301, is at least 10^12 + 1."
pub record FactorDemand (cable : Cable) (beside : List Neighbour) (hours : List ℕ) (m : ℕ) : Type 0 where
  pub not_above : AtLeast (of_int (pos 1000000000000)) (integer (pos (m * m)) ·ᵥ heating_of cable beside hours)
  pub larger_above : m < 5000 → (k : ℕ) → m < k → AtMost (of_int (pos 1000000000001)) (integer (pos (k * k)) ·ᵥ (heating_of cable beside hours +ᵥ integer (pos 301)))
  pub bounded : Bounded (heating_of cable beside hours)
  -- a law beside the promise: the largest of the 24 sums is at least 1/24, so the cap of 5,000 never binds
  pub below_cap : m ≤ 4898

-- ---- the current of a cable, a preload h, a limit r and minutes

-- "(10,000·i² − h²·rated²) · g ≤ (100·r − h²) · rated² · 1,000,000"
abbrev pub load_rise : ℕ → ℕ → ℕ → ℤ
load_rise rated h i = pos (10000 * (i * i)) -ℤ pos (h * h * (rated * rated))

abbrev pub most_rise : ℕ → ℕ → ℕ → ℤ
most_rise rated h r = (pos (100 * r) -ℤ pos (h * h)) *ℤ pos (rated * rated * 1000000)

-- "the certifying rule, written in whole numbers as above, holds with the exact G in millionths for g. If i is below 10,000, each larger whole ampere breaks it
-- with the exact G in millionths plus 50 for g: the left side is at least 1 above the right."
pub record CurrentDemand (cable : Cable) (beside : List Neighbour) (h r minutes i : ℕ) : Type 0 where
  pub keeps : AtLeast (of_int (most_rise cable.rated h r)) (integer (load_rise cable.rated h i) ·ᵥ exact_g cable beside minutes)
  pub larger_breaks : i < 10000 → (j : ℕ) → i < j
      → AtMost (of_int (suc_ℤ (most_rise cable.rated h r))) (integer (load_rise cable.rated h j) ·ᵥ (exact_g cable beside minutes +ᵥ integer (pos 50)))
  pub bounded : Bounded (exact_g cable beside minutes)
