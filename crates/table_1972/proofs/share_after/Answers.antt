-- The pair that a share answers is in millionths, and so are those of nothing and of all.
use mathlib.Core.Path.{◌≡◌, sym, subst, ◌∙◌}
use mathlib.Core.Bool.{Bool, true, false, cond}
use Prim.Native.Nat.{ℕ, ◌*◌, ◌≤◌, ◌<◌}
use native.Mathlib.Omega.{arith}
use borrow.Author.Rules.{rules}
use borrow.Author.Tests.{eq-eqb, ne_eqb, lt-ltb, le-ltb}
use lib.IntN.{pos}
use Rattle.bounds.specs.Operations.{point_b}
use Rattle.cable_rules.specs.declared.Cable.{Cable}
use Rattle.ranges.specs.Ranges.{outside, ◌to◌}
use Rattle.cable_rules.specs.Group.{Group, Given, accepted, refused, given_cable}
use Rattle.share_rules.specs.Pair.{share_pair}
use Rattle.share_rules.specs.Answer.{most_minutes, refused9, share_from, share_answer}
use Rattle.share_rules.proofs.Promises.{share_pair_range}
use Rattle.share_rules.specs.declared.ShareAnswer.TheVariants.{Pair, Refused}
use Rattle.table_1972.specs.Agreement.{share_after, InMillionths}
use Rattle.table_1972.proofs.share_after.Goals as goal

by_minutes : (g : Group) (minutes : ℕ) (o : Bool) → InMillionths (cond o (Refused refused9) (Pair (share_pair g minutes)))
by_minutes g minutes true = tt
by_minutes g minutes false = share_pair_range g minutes

answer_in_millionths : (given : Given) (minutes : ℕ) → InMillionths (share_answer given minutes)
unfolding share_from
answer_in_millionths (accepted g) minutes = by_minutes g minutes (outside (1 to most_minutes) minutes)
answer_in_millionths (refused f) minutes = tt

module _ (cable : Cable) (hours : ℕ) where
  nothing : hours ≡ 0 → Pair (point_b (pos 0)) ≡ share_after cable hours
  unfolding share_after
  nothing h = rw (eq-eqb hours 0 h, share_after)

  module _ (n : hours ≡ 0 → ⊥) where
    all : 6 < hours → Pair (point_b (pos 1000000)) ≡ share_after cable hours
    unfolding share_after
    all h = rw (ne_eqb hours 0 n, lt-ltb 6 hours h, share_after)

    asked : hours ≤ 6 → share_answer (given_cable cable) (60 * hours) ≡ share_after cable hours
    unfolding share_after
    asked h = rw (ne_eqb hours 0 n, le-ltb 6 hours h, share_after)

pub returns-in-0 : goal.returns-in-0
returns-in-0 c = rw c.point.ensures.is (nothing _ _ c.in-0.is, search rules)

pub returns-in-1-to-6 : goal.returns-in-1-to-6
returns-in-1-to-6 c = (
  c.share.ensures.answer ∙ asked _ _ (λ e. omega arith) (omega arith),
  subst InMillionths (sym c.share.ensures.answer) (answer_in_millionths (given_cable c.args.cable) _),
)

pub returns-in_default : goal.returns-in_default
returns-in_default c = rw c.point-in_default.ensures.is (all _ _ (λ e. omega arith) (omega arith), search rules)
