-- Document 01, 'The emergency current' and 'When the desk is told no': the answer of an emergency current, in the order 2, 3, 9, 12, 13. Document
-- 02, note 2: of a sheet, "whose refusals then precede their own".
use Rattle.std.specs.Prelude.{◌≡◌, Bool, cond, [], ◌∷◌, ℕ, ◌*◌, ltb, pos}
use Rattle.bounds.specs.declared.Bounds.{Bounds}
use Rattle.ranges.specs.Ranges.{outside, ◌to◌}
use Rattle.refusals.specs.Stated.{Stated, stated_values, stated_refusal}
use Rattle.refusals.specs.declared.Refusal.{Refusal}
use Rattle.refusals.specs.declared.Place.TheVariants.{None, Input}
use Rattle.cable_rules.specs.Group.{Group, Given, accepted, refused}
use Rattle.share_rules.specs.Promises.{width_of, exact_share}
use Rattle.share_rules.specs.Answer.{share_from}
use Rattle.share_rules.specs.declared.ShareAnswer.{ShareAnswer}
use Rattle.share_rules.specs.declared.ShareAnswer.TheVariants as S
use Rattle.emergency_rules.specs.Certifying.{steady_limit, largest_certified}
use Rattle.emergency_rules.specs.Exact.{CurrentDistance}
use Rattle.emergency_rules.specs.declared.CurrentAnswer.{CurrentAnswer}
use Rattle.emergency_rules.specs.declared.CurrentAnswer.TheVariants.{Current, Refused}

-- "h outside 0 to 200, or r outside 1 to 200"
abbrev pub most_percent : ℕ
most_percent = 200

abbrev pub refused12 : ℕ → Refusal
refused12 input = record { number = 12; place = Input input }

abbrev pub refused13 : Refusal
refused13 = record { number = 13; place = None }

-- "h² above 100·r"
abbrev pub too_hot : ℕ → ℕ → Bool
too_hot h r = ltb (steady_limit r) (h * h)

-- 12, 13 and the current, from the rated current and the share: "g being the high share"
unfoldable pub current_from : ℕ → ℕ → ℕ → Bounds → CurrentAnswer
current_from rated h r pair =
    cond (outside (0 to most_percent) h) (Refused (refused12 1))
    (cond (outside (1 to most_percent) r) (Refused (refused12 2))
    (cond (too_hot h r) (Refused refused13)
    (Current (largest_certified rated h r pair.high))))

-- from what the share answers: "A refusal of the share inside another calculation passes out unchanged."
abbrev pub after_share : ℕ → ℕ → ℕ → ShareAnswer → CurrentAnswer
after_share rated h r (S.Pair pair) = current_from rated h r pair
after_share rated h r (S.Refused f) = Refused f

-- of an accepted group: 9, 12, 13
unfoldable pub current_of : Group → ℕ → ℕ → ℕ → CurrentAnswer
current_of g h r minutes = after_share g.cable.rated h r (share_from g minutes)

-- the refusal of what was handed in comes first
abbrev pub current_answer : Given → ℕ → ℕ → ℕ → CurrentAnswer
current_answer (accepted g) h r minutes = current_of g h r minutes
current_answer (refused f) h r minutes = Refused f

-- the paper's number, place and values of each answer
abbrev pub stated_current : CurrentAnswer → Stated
stated_current (Current i) = stated_values (pos i ∷ [])
stated_current (Refused f) = stated_refusal f

pub record CurrentSaid (given : Given) (h r minutes : ℕ) (a : CurrentAnswer) : Type 0 where
  pub answer : a ≡ current_answer given h r minutes
  -- 'What the distances say', of every current that is stated
  pub distance : (g : Group) → given ≡ accepted g → (i : ℕ) → stated_current a ≡ stated_values (pos i ∷ []) → CurrentDistance (width_of g) g.cable.rated h r (exact_share g minutes) i
