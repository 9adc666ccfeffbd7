-- `granting::after_share` hands the share's refusal on, or answers by 12, 13 or the largest certified current. Assumes nothing.
use mathlib.Core.Path.{◌≡◌, sym, ◌∙◌}
use mathlib.Core.Bool.{false}
use Prim.Native.Nat.{◌≤◌}
use Rattle.ranges.specs.Ranges.{outside, ◌to◌}
use Rattle.distance.specs.Promised.{Millionths}
use Rattle.emergency_rules.specs.Answer.{most_percent}
use Rattle.emergency_rules.proofs.Answers.{numbers_in_range, preload_refused, limit_refused, too_hot_refused, current_given}
use Rattle.granting.proofs.after_share.Goals as goal

-- the refusal that is put together from the parts is the share's
pub returns-then-outside : goal.returns-then-outside
returns-then-outside c = preload_refused _ _ _ c.in-Pair.is (sym c.outside.ensures ∙ c.if-outside.true)

pub returns-then-outside-2 : goal.returns-then-outside-2
returns-then-outside-2 c =
    let preload_passed : outside (0 to most_percent) c.args.h ≡ false = sym c.outside.ensures ∙ c.if-outside.false in
    limit_refused _ _ _ c.in-Pair.is preload_passed (sym c.outside-2.ensures ∙ c.if-outside-2.true)

pub returns-then-r-h : goal.returns-then-r-h
returns-then-r-h c =
    let preload_passed : outside (0 to most_percent) c.args.h ≡ false = sym c.outside.ensures ∙ c.if-outside.false in
    let limit_passed : outside (1 to most_percent) c.args.r ≡ false = sym c.outside-2.ensures ∙ c.if-outside-2.false in
    too_hot_refused _ _ _ c.in-Pair.is preload_passed limit_passed c.if-r-h.true

pub largest_certified-requires : goal.largest_certified-requires
largest_certified-requires c =
    let range : (c.args.rated ≤ 2000) × Millionths c.in-Pair.pair = c.requires _ c.in-Pair.is in
    let preload_passed : outside (0 to most_percent) c.args.h ≡ false = sym c.outside.ensures ∙ c.if-outside.false in
    let limit_passed : outside (1 to most_percent) c.args.r ≡ false = sym c.outside-2.ensures ∙ c.if-outside-2.false in
    let both = range in
    (numbers_in_range both.0 both.1 preload_passed limit_passed c.high_share.ensures, c.if-r-h.false)

pub returns : goal.returns
returns c =
    let range : (c.args.rated ≤ 2000) × Millionths c.in-Pair.pair = c.requires _ c.in-Pair.is in
    let preload_passed : outside (0 to most_percent) c.args.h ≡ false = sym c.outside.ensures ∙ c.if-outside.false in
    let limit_passed : outside (1 to most_percent) c.args.r ≡ false = sym c.outside-2.ensures ∙ c.if-outside-2.false in
    current_given _ _ _ c.in-Pair.is preload_passed limit_passed c.if-r-h.false range.1 c.high_share.ensures
    c.largest_certified.ensures
