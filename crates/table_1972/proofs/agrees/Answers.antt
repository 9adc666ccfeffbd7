-- The pairs of both shares are in millionths, and each way out is that of the definition.
use mathlib.Core.Path.{◌≡◌, sym, ap, ap₂, ◌∙◌}
use mathlib.Core.Bool.{false}
use Prim.Native.Nat.{ℕ, ◌+◌}
use native.Mathlib.Omega.{arith}
use Rattle.bounds.specs.declared.Bounds.{Bounds}
use Rattle.cable_rules.specs.declared.Cable.{Cable}
use Rattle.refusals.specs.declared.Refusal.{Refusal}
use Rattle.distance.specs.Promised.{Millionths}
use Rattle.share_rules.specs.declared.ShareAnswer.{ShareAnswer}
use Rattle.share_rules.specs.declared.ShareAnswer.TheVariants.{Pair, Refused}
use Rattle.table_1972.specs.Agreement.{table_cable, share_after, InMillionths, ends_of, near, between, agrees_at}
use Rattle.table_1972.specs.declared.Ends.{Ends}
use Rattle.table_1972.proofs.agrees.Goals as goal

in_millionths : {r : ShareAnswer} {b : Bounds} → InMillionths r → r ≡ Pair b → Millionths b
in_millionths m e = rw e at m

-- both shares are those of the definition
module _ (column line thousandths : ℕ) {hours : ℕ} {cable : Cable} {earlier later : ShareAnswer} (eh : hours ≡ line) (ec : cable ≡ table_cable column)
    (ee : earlier ≡ share_after cable hours) (el : later ≡ share_after cable (hours + 1)) where
  both : between earlier later thousandths ≡ agrees_at column line thousandths
  unfolding agrees_at
  both = rw (ee, el, ec, eh, agrees_at)

  earlier_refused : {f : Refusal} → earlier ≡ Refused f → false ≡ agrees_at column line thousandths
  earlier_refused e = ap (λ a. between a later thousandths) (sym e) ∙ both

  later_refused : {b : Bounds} {f : Refusal} → earlier ≡ Pair b → later ≡ Refused f → false ≡ agrees_at column line thousandths
  later_refused e h = ap₂ (λ a b. between a b thousandths) (sym e) (sym h) ∙ both

  both_pairs : {a b : Bounds} {x y : Ends} → earlier ≡ Pair a → later ≡ Pair b → x ≡ ends_of a → y ≡ ends_of b
      → near x y thousandths ≡ agrees_at column line thousandths
  both_pairs e h ex ey = ap₂ (λ x y. near x y thousandths) ex ey ∙ ap₂ (λ a b. between a b thousandths) (sym e) (sym h) ∙ both

pub returns-in_default : goal.returns-in_default
returns-in_default c =
    let hours_is : c.from-hours.result ≡ c.args.line = omega arith in
    earlier_refused _ _ _ hours_is c.cable_of-cable.ensures c.share_after-earlier.ensures.0 c.share_after-later.ensures.0
    c.in_default.is

pub returns-in_default-later : goal.returns-in_default-later
returns-in_default-later c =
    let hours_is : c.from-hours.result ≡ c.args.line = omega arith in
    later_refused _ _ _ hours_is c.cable_of-cable.ensures c.share_after-earlier.ensures.0 c.share_after-later.ensures.0
    c.in-Pair.is c.in_default-later.is

pub ends_of-requires : goal.ends_of-requires
ends_of-requires c = in_millionths c.share_after-earlier.ensures.1 c.in-Pair.is

pub ends_of-requires-2 : goal.ends_of-requires-2
ends_of-requires-2 c = in_millionths c.share_after-later.ensures.1 c.in-Pair-later.is

pub returns : goal.returns
returns c =
    let hours_is : c.from-hours.result ≡ c.args.line = omega arith in
    c.near.ensures
    ∙ both_pairs _ _ _ hours_is c.cable_of-cable.ensures c.share_after-earlier.ensures.0 c.share_after-later.ensures.0
    c.in-Pair.is c.in-Pair-later.is
    c.ends_of.ensures c.ends_of-2.ensures
