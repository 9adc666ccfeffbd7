-- Each return is one of the definition's ways out.
use mathlib.Core.Path.{◌≡◌, sym, ◌∙◌}
use mathlib.Core.Bool.{false}
use Prim.Native.Nat.{◌≤◌}
use lib.IntN.{nat_abs}
use Rattle.ranges.specs.Ranges.{outside, ◌to◌}
use Rattle.sheet_rules.specs.Neighbours.{neighbour_of, most_offset, least_depth, most_depth}
use Rattle.sheet_rules.proofs.NeighbourChecks.{link_missing, link_not_above, offset_refused, depth_refused, near_refused, neighbour_accepted}
use Rattle.neighbours.proofs.check_neighbour.Goals as goal

pub returns-in_default : goal.returns-in_default
returns-in_default c = record { answer = c.refused_at.ensures ∙ link_missing _ _ _ c.in_default.is }

pub returns-then-record-holder : goal.returns-then-record-holder
returns-then-record-holder c = record { answer = c.refused_at-then-record-holder.ensures ∙ link_not_above _ _ _ c.in-Some.is c.if-record-holder.true }

pub returns-then-aside-gt-MOST_OFFSET : goal.returns-then-aside-gt-MOST_OFFSET
returns-then-aside-gt-MOST_OFFSET c =
    record {
      answer =
          c.refused_at-then-aside-gt-MOST_OFFSET.ensures
          ∙ offset_refused _ _ _ c.in-Some.is c.if-record-holder.false (rw c.aside.ensures.0 at c.if-aside-gt-MOST_OFFSET.true);
    }

pub returns-then-outside : goal.returns-then-outside
returns-then-outside c =
    let offset_within : nat_abs (neighbour_of c.in-Some.record).offset ≤ most_offset = rw c.aside.ensures.0 at c.if-aside-gt-MOST_OFFSET.false in
    record {
      answer =
          c.refused_at-then-outside.ensures
          ∙ depth_refused _ _ _ c.in-Some.is c.if-record-holder.false offset_within (sym c.outside.ensures ∙ c.if-outside.true);
    }

pub returns-then-near_of-square : goal.returns-then-near_of-square
returns-then-near_of-square c =
    let offset_within : nat_abs (neighbour_of c.in-Some.record).offset ≤ most_offset = rw c.aside.ensures.0 at c.if-aside-gt-MOST_OFFSET.false in
    let depth_within : outside (least_depth to most_depth) c.in-Some.record.amperes ≡ false = sym c.outside.ensures ∙ c.if-outside.false in
    record {
      answer =
          c.refused_at-then-near_of-square.ensures
          ∙ near_refused _ _ _ c.in-Some.is c.if-record-holder.false offset_within depth_within
          (rw (c.square.ensures, c.near_of.ensures) at c.if-near_of-square.true);
    }

pub returns : goal.returns
returns c =
    let offset_within : nat_abs (neighbour_of c.in-Some.record).offset ≤ most_offset = rw c.aside.ensures.0 at c.if-aside-gt-MOST_OFFSET.false in
    let depth_within : outside (least_depth to most_depth) c.in-Some.record.amperes ≡ false = sym c.outside.ensures ∙ c.if-outside.false in
    record {
      answer =
          neighbour_accepted _ _ _ c.in-Some.is c.if-record-holder.false offset_within depth_within
          (rw (c.square.ensures, c.near_of.ensures) at c.if-near_of-square.false);
    }
