-- What the functions below `emergency::current` ask of their numbers.
use Rattle.std.specs.Prelude.{◌≡◌, ℕ, ◌≤◌, Result, Ok, Err}
use Rattle.bounds.specs.declared.Bounds.{Bounds}
use Rattle.distance.specs.Promised.{Millionths}
use Rattle.share_rules.specs.declared.ShareAnswer.{ShareAnswer}
use Rattle.share_rules.specs.declared.ShareAnswer.TheVariants.{Pair}
use Rattle.emergency_rules.specs.Certifying.{million}
use Rattle.emergency_rules.specs.Answer.{most_percent}
use Rattle.refusals.specs.declared.Refusal.{Refusal}
use Rattle.sheet_rules.specs.declared.Ground.{Ground}

-- A rated current, a preload, a limit and a high share in their ranges.
pub record InRange (rated h r g : ℕ) : Type 0 where
  pub rated_to : rated ≤ 2000
  pub preload_to : h ≤ most_percent
  pub limit_to : r ≤ most_percent
  pub share_to : g ≤ million

-- The rated current of what is given, 0 where it is refused.
abbrev pub rated_of : Result Ground Refusal → ℕ
rated_of (Ok g) = g.trench.cable.rated
rated_of (Err f) = 0

-- Where the share is a pair, that and the rated current of its cable are in their ranges.
abbrev pub Rated : ℕ → ShareAnswer → Type 0
Rated rated answer = (pair : Bounds) → answer ≡ Pair pair → (rated ≤ 2000) × Millionths pair
