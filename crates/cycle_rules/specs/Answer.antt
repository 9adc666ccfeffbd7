-- Document 01, 'The daily cycle' and 'When the desk is told no': the answer of a cyclic factor, in the order 2, 3, 10, 11. Document 02, note 2:
-- of a sheet, "whose refusals then precede their own".
use Rattle.std.specs.Prelude.{◌≡◌, Bool, true, cond, ◌&&◌, List, [], ◌∷◌, ℕ, ◌*◌, nat_lt, eqb, pos, Option, Some, None}
use Rattle.std.specs.List.{position}
use Rattle.bounds.specs.declared.Bounds.{Bounds}
use Rattle.refusals.specs.Stated.{Stated, stated_values, stated_refusal}
use Rattle.refusals.specs.declared.Refusal.{Refusal}
use Rattle.refusals.specs.declared.Place.TheVariants as P
use Rattle.cable_rules.specs.Group.{Group, Given, accepted, refused}
use Rattle.share_rules.specs.Pair.{share_pair}
use Rattle.share_rules.specs.Promises.{width_of, exact_share}
use Rattle.cycle_rules.specs.Heating.{heating_sum, reference_hour}
use Rattle.cycle_rules.specs.Factor.{largest_factor}
use Rattle.cycle_rules.specs.Exact.{largest_heating, FactorDistance}
use Rattle.cycle_rules.specs.declared.FactorAnswer.{FactorAnswer}
use Rattle.cycle_rules.specs.declared.FactorAnswer.TheVariants.{Factor, Refused}

-- "each 0 to 4,000"
abbrev pub most_amperes : ℕ
most_amperes = 4000

-- the first hour above 4,000 A, counted from 0
abbrev pub first_above : List ℕ → Option ℕ
first_above hours = position (λ x. nat_lt most_amperes x) hours

-- "all hours 0"
abbrev pub all_zero : List ℕ → Bool
all_zero [] = true
all_zero (x ∷ hours) = eqb x 0 && all_zero hours

abbrev pub refused10 : ℕ → Refusal
refused10 hour = record { number = 10; place = P.Hour hour }

abbrev pub refused11 : Refusal
refused11 = record { number = 11; place = P.None }

-- what follows where no hour is above
abbrev pub after_hours : Option ℕ → FactorAnswer → FactorAnswer
after_hours (Some hour) answer = Refused (refused10 hour)
after_hours None answer = answer

-- 10, 11 and the factor, from the shares at whole hours
unfoldable pub factor_from : (ℕ → Bounds) → List ℕ → FactorAnswer
factor_from pairs hours =
    after_hours (first_above hours)
    (cond (all_zero hours) (Refused refused11)
    (Factor (largest_factor (heating_sum pairs hours (reference_hour pairs hours)))))

-- "G at whole hours", of 60 minutes each
abbrev pub hour_pair : Group → ℕ → Bounds
hour_pair g hour = share_pair g (60 * hour)

-- the refusal of what was handed in comes first
abbrev pub factor_answer : Given → List ℕ → FactorAnswer
factor_answer (accepted g) hours = factor_from (hour_pair g) hours
factor_answer (refused f) hours = Refused f

-- the paper's number, place and values of each answer
abbrev pub stated_factor : FactorAnswer → Stated
stated_factor (Factor m) = stated_values (pos m ∷ [])
stated_factor (Refused f) = stated_refusal f

-- the answer, and how far a factor may be from the exact one: 'What the distances say'
pub record FactorSaid (given : Given) (hours : List ℕ) (r : FactorAnswer) : Type 0 where
  pub answer : r ≡ factor_answer given hours
  pub distance : (g : Group) → given ≡ accepted g → (m : ℕ) → stated_factor r ≡ stated_values (pos m ∷ []) → FactorDistance (width_of g) (largest_heating (exact_share g) hours) m
