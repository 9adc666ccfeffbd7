-- The answer of a share in each of its ways out, and the refusal that it hands on.
use mathlib.Core.Path.{◌≡◌, ap, ◌∙◌}
use mathlib.Core.Bool.{true, false}
use Prim.Native.Nat.{ℕ}
use Rattle.exact.specs.Share.{Accepted}
use Rattle.ranges.specs.Ranges.{outside, ◌to◌}
use Rattle.refusals.specs.Apart.{parts_of, refusal_in}
use Rattle.refusals.specs.declared.Refusal.{Refusal}
use Rattle.ranges.proofs.Ranges.{passed_within}
use Rattle.refusals.proofs.Apart.{refusal_back}
use Rattle.cable_rules.specs.Group.{Group, Given, refused}
use Rattle.cable_rules.specs.InRange.{numbers_in, Acceptable}
use Rattle.share_rules.specs.Pair.{share_pair}
use Rattle.share_rules.specs.Answer.{most_minutes, refused9, share_from, share_answer, stated_share}
use Rattle.share_rules.specs.declared.ShareAnswer.{ShareAnswer}
use Rattle.share_rules.specs.declared.ShareAnswer.TheVariants.{Pair, Refused}

module _ (g : Group) (minutes : ℕ) where
  pub minutes_refused : outside (1 to most_minutes) minutes ≡ true → Refused refused9 ≡ share_from g minutes
  unfolding share_from
  minutes_refused o = rw (o, share_from)

  module _ (o : outside (1 to most_minutes) minutes ≡ false) where
    pub minutes_accepted : Acceptable g → Accepted (numbers_in g) minutes
    minutes_accepted a =
        let within = passed_within 1 most_minutes minutes o in
        record { cable = a.numbers; neighbours = a.beside; minutes_from = within.0; minutes_to = within.1 }

    pub share_given : Pair (share_pair g minutes) ≡ share_from g minutes
    unfolding share_from
    share_given = rw (o, share_from)

-- what is given decides
pub answer_given : {given is : Given} (minutes : ℕ) {r : ShareAnswer} → given ≡ is → r ≡ share_answer is minutes → r ≡ share_answer given minutes
answer_given minutes e q = rw e q

pub answer_refused : {given : Given} (minutes : ℕ) {f : Refusal} → given ≡ refused f → Refused f ≡ share_answer given minutes
answer_refused minutes e = rw e

-- the refusal in the parts of a refused share is the share's own
pub refusal_handed_on : {answer : ShareAnswer} {f : Refusal} → answer ≡ Refused f → refusal_in (parts_of (stated_share answer)) ≡ f
refusal_handed_on {answer} {f} e = ap (λ a. refusal_in (parts_of (stated_share a))) e ∙ refusal_back f
