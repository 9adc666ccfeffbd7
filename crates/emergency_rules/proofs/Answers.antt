-- The answer of an emergency current in each of its ways out, and what is known of its numbers where the share is given.
use Rattle.std.proofs.Common.{Result, Ok, Err}
use mathlib.Core.Path.{◌≡◌, refl, sym, ap, ◌∙◌}
use mathlib.Core.Bool.{true, false}
use Prim.Native.Nat.{ℕ, ◌*◌, ◌≤◌, ◌<◌}
use native.Mathlib.Omega.{arith}
use borrow.Author.Tests.{lt-ltb, le-ltb}
use lib.IntN.{ℤ, pos, negsuc}
use lib.Signed.{◌≤ℤ◌}
use Rattle.numbers.specs.Integer.{up}
use Rattle.numbers.proofs.Integers.{le_lin}
use Rattle.bounds.specs.declared.Bounds.{Bounds}
use Rattle.ranges.specs.Ranges.{outside, ◌to◌}
use Rattle.refusals.specs.declared.Refusal.{Refusal}
use Rattle.ranges.proofs.Ranges.{passed_within}
use Rattle.cable_rules.specs.Group.{Given}
use Rattle.sheet_rules.specs.Ground.{group_at, as_given_in}
use Rattle.distance.specs.Promised.{Millionths}
use Rattle.share_rules.specs.Answer.{share_answer}
use Rattle.share_rules.specs.declared.ShareAnswer.{ShareAnswer}
use Rattle.share_rules.specs.declared.ShareAnswer.TheVariants as S
use Rattle.share_rules.proofs.Promises.{share_pair_range, answered_pair}
use Rattle.emergency_rules.specs.Asked.{InRange, Rated, rated_of}
use Rattle.emergency_rules.specs.Certifying.{largest_certified}
use Rattle.emergency_rules.specs.Answer.{most_percent, refused12, refused13, current_from, after_share, current_of, current_answer}
use Rattle.emergency_rules.specs.declared.CurrentAnswer.{CurrentAnswer}
use Rattle.emergency_rules.specs.declared.CurrentAnswer.TheVariants.{Current, Refused}
use Rattle.sheet_rules.specs.declared.Ground.{Ground}

-- ---- a share that is given

-- an integer not below 0 is its positive part
pub whole_part : (z : ℤ) → pos 0 ≤ℤ z → pos (up z) ≡ z
whole_part (pos n) h = refl
whole_part (negsuc n) h = absurd h.le

part_to : (z : ℤ) {k : ℕ} → z ≤ℤ pos k → up z ≤ k
part_to (pos n) h = omega (arith, le_lin h)
part_to (negsuc n) h = omega arith

pub numbers_in_range : {rated h r s : ℕ} {p : Bounds} → rated ≤ 2000 → Millionths p → outside (0 to most_percent) h ≡ false → outside (1 to most_percent) r ≡ false → s ≡ up p.high → InRange rated h r s
numbers_in_range {rated} {h} {r} {s} {p} few m oh or es =
    record {
      rated_to = few;
      preload_to = (passed_within 0 most_percent h oh).1;
      limit_to = (passed_within 1 most_percent r or).1;
      share_to = rw es (part_to p.high m.high_to);
    }

-- ---- the ways out

module _ (rated h r : ℕ) {answer : ShareAnswer} where
  pub share_refused : {f : Refusal} → answer ≡ S.Refused f → Refused f ≡ after_share rated h r answer
  share_refused e = rw e

  module _ {p : Bounds} (e : answer ≡ S.Pair p) where
    pub preload_refused : outside (0 to most_percent) h ≡ true → Refused (refused12 1) ≡ after_share rated h r answer
    unfolding current_from
    preload_refused o = rw (e, o, current_from)

    module _ (oh : outside (0 to most_percent) h ≡ false) where
      pub limit_refused : outside (1 to most_percent) r ≡ true → Refused (refused12 2) ≡ after_share rated h r answer
      unfolding current_from
      limit_refused o = rw (e, oh, o, current_from)

      module _ (or : outside (1 to most_percent) r ≡ false) where
        pub too_hot_refused : 100 * r < h * h → Refused refused13 ≡ after_share rated h r answer
        unfolding current_from
        too_hot_refused t = rw (e, oh, or, lt-ltb (100 * r) (h * h) t, current_from)

        pub current_given : {i s : ℕ} → h * h ≤ 100 * r → Millionths p → s ≡ up p.high → i ≡ largest_certified rated h r (pos s) → Current i ≡ after_share rated h r answer
        unfolding current_from
        current_given t m es ei =
            let high : pos (up p.high) ≡ p.high = whole_part p.high m.high_from in
            ap Current (ei ∙ ap (λ x. largest_certified rated h r x) (ap pos es ∙ high))
            ∙ rw (e, oh, or, le-ltb (100 * r) (h * h) t, current_from)

-- ---- what is given decides

module _ (minutes : ℕ) {answer : ShareAnswer} {rated : ℕ} where
  -- its share and its rated current are in their ranges
  pub rated_share : (given : Result Ground Refusal) → rated ≡ rated_of given → answer ≡ share_answer (as_given_in given) minutes → Rated rated answer
  rated_share (Ok g) q e pair is = (rw q g.laid.acceptable.rated_to, rw (answered_pair (group_at g) minutes (sym e ∙ is)) (share_pair_range (group_at g) minutes))
  rated_share (Err f) q e pair is = let z : ◌≡◌ {A = ℕ} 0 1 = cc in absurd (omega arith)

  -- and what follows from them is its current
  pub answer_after : (given : Result Ground Refusal) (h r : ℕ) {a : CurrentAnswer} → rated ≡ rated_of given → answer ≡ share_answer (as_given_in given) minutes → a ≡ after_share rated h r answer → a ≡ current_answer (as_given_in given) h r minutes
  unfolding current_of
  answer_after (Ok g) h r q e is = is ∙ ap (λ x. after_share x h r answer) q ∙ ap (λ x. after_share g.trench.cable.rated h r x) e
  answer_after (Err f) h r q e is = is ∙ ap (λ x. after_share rated h r x) e

pub answer_given : {given is : Given} (h r minutes : ℕ) {a : CurrentAnswer} → given ≡ is → a ≡ current_answer is h r minutes → a ≡ current_answer given h r minutes
answer_given h r minutes e q = rw e q
