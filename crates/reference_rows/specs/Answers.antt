-- What a row asks, of the inputs in its cell, and what is answered: by the public call of its kind, of a cable or of a sheet.
use Rattle.std.specs.Prelude.{◌≡◌, List, [], ◌∷◌, ℕ, Option, Some, IfSome}
use Rattle.refusals.specs.Apart.{parts_of}
use Rattle.refusals.specs.declared.Parts.{Parts}
use Rattle.cable_rules.specs.Group.{Given, given_cable}
use Rattle.cable_rules.specs.declared.Cable.{Cable}
use Rattle.sheet_rules.specs.Sheet.{given_sheet}
use Rattle.share_rules.specs.Answer.{share_answer, stated_share}
use Rattle.cycle_rules.specs.Day.{day_hours}
use Rattle.cycle_rules.specs.Answer.{factor_answer, stated_factor}
use Rattle.emergency_rules.specs.Answer.{current_answer, stated_current}
use Rattle.reference_rows.specs.Cells.{value_in, number_from}
use Rattle.reference_rows.specs.Inputs.{sheet_name, SheetFrom, hours_name, HoursTo}
use Rattle.reference_rows.specs.declared.answers.Kind.{Kind}
use Rattle.reference_rows.specs.declared.answers.Kind.TheVariants.{Share, Factor, Current, ShareInSheet, FactorInSheet, CurrentInSheet}

abbrev pub number_in : List ℕ → List ℕ → Option ℕ
number_in name cell = number_from (value_in name cell)

-- ---- what is given

-- "d", "l", "s", "k", "w", "fast", "slow", "rated"
abbrev pub diameter_name : List ℕ
diameter_name = 100 ∷ []

abbrev pub depth_name : List ℕ
depth_name = 108 ∷ []

abbrev pub diffusivity_name : List ℕ
diffusivity_name = 115 ∷ []

abbrev pub surface_ratio_name : List ℕ
surface_ratio_name = 107 ∷ []

abbrev pub fast_weight_name : List ℕ
fast_weight_name = 119 ∷ []

abbrev pub fast_rate_name : List ℕ
fast_rate_name = 102 ∷ 97 ∷ 115 ∷ 116 ∷ []

abbrev pub slow_rate_name : List ℕ
slow_rate_name = 115 ∷ 108 ∷ 111 ∷ 119 ∷ []

abbrev pub rated_name : List ℕ
rated_name = 114 ∷ 97 ∷ 116 ∷ 101 ∷ 100 ∷ []

pub record CableIn (cell : List ℕ) (cable : Cable) : Type 0 where
  pub diameter : number_in diameter_name cell ≡ Some cable.diameter
  pub depth : number_in depth_name cell ≡ Some cable.depth
  pub diffusivity : number_in diffusivity_name cell ≡ Some cable.diffusivity
  pub surface_ratio : number_in surface_ratio_name cell ≡ Some cable.surface_ratio
  pub fast_weight : number_in fast_weight_name cell ≡ Some cable.fast_weight
  pub fast_rate : number_in fast_rate_name cell ≡ Some cable.fast_rate
  pub slow_rate : number_in slow_rate_name cell ≡ Some cable.slow_rate
  pub rated : number_in rated_name cell ≡ Some cable.rated

pub record FromCable (cell : List ℕ) (given : Given) : Type 0 where
  pub cable : Cable
  pub read : CableIn cell cable
  pub gives : given ≡ given_cable cable

pub record FromSheet (cell : List ℕ) (given : Given) : Type 0 where
  pub sheet : List ℕ
  pub read : SheetFrom (value_in sheet_name cell) sheet
  pub gives : given ≡ given_sheet sheet

-- ---- what is asked of it: "minutes"; "hours"; "h", "r", "minutes"

abbrev pub minutes_name : List ℕ
minutes_name = 109 ∷ 105 ∷ 110 ∷ 117 ∷ 116 ∷ 101 ∷ 115 ∷ []

abbrev pub preload_name : List ℕ
preload_name = 104 ∷ []

abbrev pub limit_name : List ℕ
limit_name = 114 ∷ []

pub record ShareTo (cell : List ℕ) (given : Given) (said : Parts) : Type 0 where
  pub minutes : ℕ
  pub read : number_in minutes_name cell ≡ Some minutes
  pub answer : said ≡ parts_of (stated_share (share_answer given minutes))

pub record FactorTo (cell : List ℕ) (given : Given) (said : Parts) : Type 0 where
  pub hours : List ℕ
  pub read : HoursTo day_hours (value_in hours_name cell) hours
  pub answer : said ≡ parts_of (stated_factor (factor_answer given hours))

pub record CurrentTo (cell : List ℕ) (given : Given) (said : Parts) : Type 0 where
  pub h : ℕ
  pub r : ℕ
  pub minutes : ℕ
  pub preload : number_in preload_name cell ≡ Some h
  pub limit : number_in limit_name cell ≡ Some r
  pub read : number_in minutes_name cell ≡ Some minutes
  pub answer : said ≡ parts_of (stated_current (current_answer given h r minutes))

-- ---- what is answered

pub record Answered (From : Given → Type 0) (To : Given → Parts → Type 0) (said : Parts) : Type 0 where
  pub given : Given
  pub from : From given
  pub to : To given said

-- What is said is that; of a row that cannot be read nothing is said.
abbrev pub AnswerTo : Kind → List ℕ → Option Parts → Type 0
AnswerTo Share cell answer = IfSome answer (Answered (FromCable cell) (ShareTo cell))
AnswerTo Factor cell answer = IfSome answer (Answered (FromCable cell) (FactorTo cell))
AnswerTo Current cell answer = IfSome answer (Answered (FromCable cell) (CurrentTo cell))
AnswerTo ShareInSheet cell answer = IfSome answer (Answered (FromSheet cell) (ShareTo cell))
AnswerTo FactorInSheet cell answer = IfSome answer (Answered (FromSheet cell) (FactorTo cell))
AnswerTo CurrentInSheet cell answer = IfSome answer (Answered (FromSheet cell) (CurrentTo cell))
