-- The loop's invariant is `AtNeighbour`: what is summed and what is left is the group's whole sum. The measure is how many records stand above the one reached.
-- Assumes nothing.
use Rattle.pair.proofs.AtNeighbour.{begins, ends, not_missing, depths, nearer, joining, joined_next}
use Rattle.pair.proofs.sums_in.Goals as goal

pub loop-at-init : goal.loop-at-init
loop-at-init c = rw c.beside_first-at.ensures (begins c.requires c.cable_sums-sums.ensures)

pub returns-in_default : goal.returns-in_default
returns-in_default c =
    absurd (not_missing c.loop-at.invariant c.loop-at-test.true c.record_at-read.ensures.answer c.in_default.is)

pub near_of-near-requires : goal.near_of-near-requires
near_of-near-requires c =
    depths c.loop-at.invariant c.loop-at-test.true c.record_at-read.ensures.answer c.in-Some.is

pub image_of-image-requires : goal.image_of-image-requires
image_of-image-requires c =
    depths c.loop-at.invariant c.loop-at-test.true c.record_at-read.ensures.answer c.in-Some.is

pub joined-sums-requires : goal.joined-sums-requires
joined-sums-requires c =
    joining c.loop-at.invariant c.loop-at-test.true c.record_at-read.ensures.answer c.in-Some.is c.near_of-near.ensures c.image_of-image.ensures

pub loop-at-smaller : goal.loop-at-smaller
loop-at-smaller c =
    nearer c.loop-at.invariant c.loop-at-test.true c.record_at-read.ensures.answer c.in-Some.is

pub loop-at-preserved : goal.loop-at-preserved
loop-at-preserved c =
    joined_next c.loop-at.invariant c.loop-at-test.true c.record_at-read.ensures.answer c.in-Some.is c.near_of-near.ensures c.image_of-image.ensures c.joined-sums.ensures

pub returns : goal.returns
returns c =
    rw c.beside_first-at.ensures at (ends c.loop-at.invariant c.loop-at-test.false)
