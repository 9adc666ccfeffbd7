-- What the contract of `current` says follows from its answer: a reported current has its distance.
use mathlib.Core.Path.{◌≡◌, refl, sym, ap, ◌∙◌}
use mathlib.Core.Bool.{Bool, true, false, cond}
use mathlib.Core.List.{[], ◌∷◌}
use Prim.Native.Nat.{ℕ, ◌*◌, ◌≤◌}
use native.Mathlib.Omega.{arith}
use borrow.Author.Tests.{ltb-false}
use lib.Dec.{T}
use lib.IntN.{pos}
use Rattle.exact.specs.Value.{from_one}
use Rattle.exact.specs.Share.{Accepted}
use Rattle.bounds.specs.declared.Bounds.{Bounds}
use Rattle.ranges.specs.Ranges.{outside, ◌to◌}
use Rattle.refusals.specs.Stated.{stated_values}
use Rattle.refusals.proofs.Stated.{same_values, no_values}
use Rattle.cable_rules.specs.Group.{Group, Given}
use Rattle.cable_rules.specs.InRange.{numbers_in, Acceptable, Sound}
use Rattle.share_rules.specs.Pair.{share_pair}
use Rattle.share_rules.specs.Promises.{width_of, exact_share}
use Rattle.share_rules.specs.Answer.{share_from}
use Rattle.share_rules.specs.declared.ShareAnswer.{ShareAnswer}
use Rattle.share_rules.specs.declared.ShareAnswer.TheVariants as S
use Rattle.share_rules.proofs.Promises.{answered_pair, answered_accepted}
use Rattle.share_rules.proofs.Rising.{share_enclosed, exact_share_bounds}
use Rattle.emergency_rules.specs.Certifying.{largest_certified}
use Rattle.emergency_rules.specs.Exact.{CurrentDistance}
use Rattle.emergency_rules.specs.Answer.{most_percent, refused12, refused13, too_hot, current_from, after_share, current_of, current_answer, stated_current, CurrentSaid}
use Rattle.emergency_rules.specs.declared.CurrentAnswer.{CurrentAnswer}
use Rattle.emergency_rules.specs.declared.CurrentAnswer.TheVariants.{Current, Refused}
use Rattle.emergency_rules.proofs.Distance.{current_distance}

-- a reported current has passed every check and is the largest certified one
reported_largest : (oh or hot : Bool) {i m : ℕ} → cond oh (Refused (refused12 1)) (cond or (Refused (refused12 2)) (cond hot (Refused refused13) (Current m))) ≡ Current i → (hot ≡ false) × (i ≡ m)
reported_largest true or hot e = let z : ◌≡◌ {A = ℕ} 0 1 = cc in absurd (omega arith)
reported_largest false true hot e = let z : ◌≡◌ {A = ℕ} 0 1 = cc in absurd (omega arith)
reported_largest false false true e = let z : ◌≡◌ {A = ℕ} 0 1 = cc in absurd (omega arith)
reported_largest false false false e = (refl, cc)

-- it is reported only where the share is given, and where the preload keeps the limit
record Reported (g : Group) (h r minutes i : ℕ) : Type 0 where
  accepted : Accepted (numbers_in g) minutes
  cool : h * h ≤ 100 * r
  largest_is : i ≡ largest_certified g.cable.rated h r (share_pair g minutes).high

module _ (g : Group) (acceptable : Acceptable g) (h r minutes : ℕ) {i : ℕ} where
  from_share : (s : ShareAnswer) → share_from g minutes ≡ s → after_share g.cable.rated h r s ≡ Current i → Reported g h r minutes i
  unfolding current_from
  from_share (S.Pair p) given e =
      let passed = reported_largest (outside (0 to most_percent) h) (outside (1 to most_percent) r) (too_hot h r) e in
      record {
        accepted = answered_accepted g minutes given acceptable;
        cool = ltb-false (100 * r) (h * h) passed.0;
        largest_is = passed.1 ∙ ap (λ (b : Bounds). largest_certified g.cable.rated h r b.high) (answered_pair g minutes given);
      }
  from_share (S.Refused f) given e = let z : ◌≡◌ {A = ℕ} 0 1 = cc in absurd (omega arith)

  of_current : current_of g h r minutes ≡ Current i → Reported g h r minutes i
  unfolding current_of
  of_current e = from_share (share_from g minutes) refl e

  reported_distance : Reported g h r minutes i → CurrentDistance (width_of g) g.cable.rated h r (exact_share g minutes) i
  reported_distance k =
      let share = share_enclosed g minutes k.accepted in
      rw k.largest_is
      (current_distance (width_of g) g.cable.rated h r (exact_share g minutes) share.sound (share_pair g minutes) share.promised k.cool)

  -- every order from 1 gives bounds of the exact share that a current is held against
  pub current_share_bounds : current_of g h r minutes ≡ Current i → (n : ℕ) → T (from_one n) → T ((exact_share g minutes).ok n)
  current_share_bounds e n t = exact_share_bounds g minutes (of_current e).accepted n t

-- every current is stated
stated_itself : (i : ℕ) → stated_current (Current i) ≡ stated_values (pos i ∷ [])
stated_itself i = refl

-- one value is stated of a current alone
reported : (a : CurrentAnswer) {i : ℕ} → stated_current a ≡ stated_values (pos i ∷ []) → a ≡ Current i
reported (Current k) e = let only = same_values (sym (stated_itself k) ∙ e) in cc
reported (Refused f) e = absurd (no_values f e)

pub said : {given : Given} {h r minutes : ℕ} {a : CurrentAnswer} → Sound given → a ≡ current_answer given h r minutes → CurrentSaid given h r minutes a
said {given} {h} {r} {minutes} {a} sound e = record {
  answer = e;
  distance = λ g is i q.
      let from : current_of g h r minutes ≡ Current i = sym (ap (λ x. current_answer x h r minutes) is) ∙ sym e ∙ reported a q in
      reported_distance g (sound g is) h r minutes (of_current g (sound g is) h r minutes from);
}
