-- Document 01, 'The attained share' and 'When the desk is told no': the answer of a share, in the order 2, 3, 9. Document 02, note 2: of a sheet, "whose
-- refusals then precede their own".
use Rattle.std.specs.Prelude.{◌≡◌, cond, [], ◌∷◌, ℕ, ℤ}
use Rattle.ranges.specs.Ranges.{outside, ◌to◌}
use Rattle.refusals.specs.Stated.{Stated, stated_values, stated_refusal}
use Rattle.refusals.specs.declared.Refusal.{Refusal}
use Rattle.refusals.specs.declared.Place.TheVariants.{None}
use Rattle.cable_rules.specs.Group.{Group, Given, accepted, refused}
use Rattle.distance.specs.Promised.{Promised}
use Rattle.share_rules.specs.Pair.{share_pair}
use Rattle.share_rules.specs.Promises.{width_of, exact_share}
use Rattle.share_rules.specs.declared.ShareAnswer.{ShareAnswer}
use Rattle.share_rules.specs.declared.ShareAnswer.TheVariants.{Pair, Refused}

-- "minutes asked outside 1 to 2,880"
abbrev pub most_minutes : ℕ
most_minutes = 2880

abbrev pub refused9 : Refusal
refused9 = record { number = 9; place = None }

-- of an accepted group
unfoldable pub share_from : Group → ℕ → ShareAnswer
share_from g minutes = cond (outside (1 to most_minutes) minutes) (Refused refused9) (Pair (share_pair g minutes))

-- the refusal of what was handed in comes first
abbrev pub share_answer : Given → ℕ → ShareAnswer
share_answer (accepted g) minutes = share_from g minutes
share_answer (refused f) minutes = Refused f

-- the paper's number, place and values of each answer
abbrev pub stated_share : ShareAnswer → Stated
stated_share (Pair b) = stated_values (b.low ∷ b.high ∷ [])
stated_share (Refused f) = stated_refusal f

pub record ShareSaid (given : Given) (minutes : ℕ) (r : ShareAnswer) : Type 0 where
  pub answer : r ≡ share_answer given minutes
  -- 'What the distances say', of every pair that is stated
  pub distance : (g : Group) → given ≡ accepted g → (low high : ℤ) → stated_share r ≡ stated_values (low ∷ high ∷ []) → Promised (width_of g) (exact_share g minutes) (record { low = low; high = high })
