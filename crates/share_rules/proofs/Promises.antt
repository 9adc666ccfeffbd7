-- The promises of the share's pair: it encloses the exact share, is narrow, and is a function of its group and minutes alone.
use mathlib.Core.Path.{◌≡◌, refl, sym, ap, ◌∙◌}
use mathlib.Core.Bool.{Bool, true, false, cond}
use mathlib.Core.List.{[], ◌∷◌}
use Prim.Native.Nat.{ℕ, ◌+◌, ◌≤◌}
use native.Mathlib.Nat.{le_refl}
use native.Mathlib.Omega.{arith}
use lib.IntN.{ℤ, pos, ◌+ℤ◌}
use lib.Signed.{◌≤ℤ◌}
use Rattle.numbers.proofs.Integers.{lin_le, add_lin}
use Rattle.exact.specs.Value.{in_millionths}
use Rattle.exact.specs.Share.{CableNumbers, sources, Accepted, share, seconds}
use Rattle.exact.proofs.Share.{share_rises_p}
use Rattle.exact.proofs.SignedShare.{share_plain, millionth_order, millionth_bounds, millionth_gap}
use Rattle.exact.proofs.Pairs.{millionths_most, millionths_least}
use Rattle.bounds.specs.Pair.{Pair, as_bounds}
use Rattle.bounds.specs.declared.Bounds.{Bounds}
use Rattle.ranges.specs.Ranges.{outside, ◌to◌}
use Rattle.refusals.specs.Stated.{stated_values}
use Rattle.refusals.proofs.Stated.{same_values, no_values}
use Rattle.cable_rules.specs.Checks.{in_use}
use Rattle.cable_rules.specs.Group.{Group, Given, alone}
use Rattle.cable_rules.specs.InRange.{numbers_in, Acceptable, Sound}
use Rattle.cable_rules.specs.declared.Cable.{Cable}
use Rattle.model.specs.Share.{attained_share}
use Rattle.model.specs.Width.{inner_width}
use Rattle.model.specs.ShareEnclosed.{ShareEnclosed}
use Rattle.model.proofs.Group.{share_at_most_million}
use Rattle.model.proofs.Enclosure.Share.{share_held, share_enclosed}
use Rattle.distance.specs.Promised.{Millionths, Promised}
use Rattle.share_rules.specs.Pair.{seconds_of, share_pair, share_pair_is}
use Rattle.share_rules.specs.Promises.{share_width, width_of, exact_share, MillionthGap}
use Rattle.share_rules.specs.Answer.{most_minutes, refused9, share_from, share_answer, stated_share, ShareSaid}
use Rattle.share_rules.specs.declared.ShareAnswer.{ShareAnswer}
use Rattle.share_rules.specs.declared.ShareAnswer.TheVariants as S
use Rattle.share_rules.proofs.Answers.{minutes_accepted}

-- ---- the range, whatever the group and the minutes are
natural_range : (p : Pair) → p.low ≤ 1000000 → p.high ≤ 1000000 → Millionths (as_bounds p)
natural_range p l h = record { low_from = lin_le _ _ (omega arith); low_to = lin_le _ _ (omega arith); high_from = lin_le _ _ (omega arith); high_to = lin_le _ _ (omega arith) }

pub share_pair_range : (g : Group) (minutes : ℕ) → Millionths (share_pair g minutes)
share_pair_range g minutes =
    let c = numbers_in g in
    let m = share_at_most_million c.d c.l c.s c.k c.w c.fast c.slow (seconds_of minutes) (sources c) in
    rw (share_pair_is g minutes) (natural_range _ m.low m.high)

natural_narrow : (low high w v : ℕ) → w ≤ v → high ≤ low + w → pos high ≤ℤ (pos low +ℤ pos v)
natural_narrow low high w v k h = lin_le (pos high) (pos low +ℤ pos v) (omega (arith, add_lin (pos low) (pos v)))

-- ---- the promises of accepted numbers and an accepted minute count
module _ (c : CableNumbers) (m : ℕ) (a : Accepted c m) where
  abbrev pair_here : Pair
  pair_here = attained_share c.d c.l c.s c.k c.w c.fast c.slow (seconds m) (sources c)

  -- at every width from the inner one on
  enclosed : (width : ℕ) → inner_width ≤ width → ShareEnclosed c m pair_here → Promised width (in_millionths (share c m)) (as_bounds pair_here)
  enclosed width h e = record {
    range = natural_range pair_here (omega (arith, e.ordered, e.at_most_one)) e.at_most_one;
    ordered = lin_le _ _ (omega (arith, e.ordered));
    narrow = natural_narrow pair_here.low pair_here.high inner_width width h e.narrow;
    around = record {
      low_at_most = millionths_most (share_plain c m a) (share_rises_p c m m a a (le_refl m)) (share_held c m a);
      high_at_least = millionths_least (share_plain c m a) (share_rises_p c m m a a (le_refl m)) (share_held c m a);
    };
  }

-- Document 02, note 2: "The share keeps its 50 millionths for any neighbours"
pub share_promised : (g : Group) (minutes : ℕ) → Accepted (numbers_in g) minutes → Promised (width_of g) (exact_share g minutes) (share_pair g minutes)
share_promised g minutes a = rw (share_pair_is g minutes) (enclosed (numbers_in g) minutes a share_width (omega arith) (share_enclosed (numbers_in g) minutes a))

-- ---- a pair that is answered is that of the group and the minutes
from_test : (o : Bool) (q : Bounds) {p : Bounds} → cond o (S.Refused refused9) (S.Pair q) ≡ S.Pair p → (o ≡ false) × (p ≡ q)
from_test true q e = let z : ◌≡◌ {A = ℕ} 0 1 = cc in absurd (omega arith)
from_test false q e = (refl, cc)

module _ (g : Group) (minutes : ℕ) {p : Bounds} (e : share_from g minutes ≡ S.Pair p) where
  by_test : (outside (1 to most_minutes) minutes ≡ false) × (p ≡ share_pair g minutes)
  unfolding share_from
  by_test = from_test (outside (1 to most_minutes) minutes) (share_pair g minutes) e

  pub answered_pair : p ≡ share_pair g minutes
  answered_pair = by_test.1

  -- .. which are then accepted
  pub answered_accepted : Acceptable g → Accepted (numbers_in g) minutes
  answered_accepted a = minutes_accepted g minutes by_test.0 a

-- a pair's two values are its ends
pub stated_pair : {b : Bounds} {low high : ℤ} → stated_values (b.low ∷ b.high ∷ []) ≡ stated_values (low ∷ high ∷ []) → b ≡ record { low = low; high = high }
stated_pair {b} {low} {high} e =
    let ends : b.low ∷ b.high ∷ [] ≡ low ∷ high ∷ [] = same_values e in
    let l : b.low ≡ low = cc in
    let h : b.high ≡ high = cc in
    rw (← l, ← h)

-- two values are stated of a pair alone
reported : (r : ShareAnswer) {low high : ℤ} → stated_share r ≡ stated_values (low ∷ high ∷ []) → r ≡ S.Pair (record { low = low; high = high })
reported (S.Pair b) e = ap S.Pair (stated_pair e)
reported (S.Refused f) e = absurd (no_values f e)

-- what the contract of `share` says follows from its answer
pub said : {given : Given} {minutes : ℕ} {r : ShareAnswer} → Sound given → r ≡ share_answer given minutes → ShareSaid given minutes r
said {given} {minutes} {r} sound e = record {
  answer = e;
  distance = λ g is low high f.
      let from : share_from g minutes ≡ S.Pair (record { low = low; high = high }) = sym (ap (λ x. share_answer x minutes) is) ∙ sym e ∙ reported r f in
      rw (answered_pair g minutes from) (share_promised g minutes (answered_accepted g minutes from (sound g is)));
}

-- "for every accepted cable and minute count some order has a gap below one millionth": of every group and minute count that is answered with a pair
pub answered_gap : (g : Group) → Acceptable g → (minutes : ℕ) {p : Bounds} → share_from g minutes ≡ S.Pair p → MillionthGap (share (numbers_in g) minutes)
answered_gap g acceptable minutes e =
    let a = answered_accepted g minutes e acceptable in
    record { order = millionth_order (numbers_in g) minutes a; bounds = millionth_bounds (numbers_in g) minutes a; gap = millionth_gap (numbers_in g) minutes a }

-- ---- the pair depends on fields 1 to 7 of the cable in use alone: not on the rated current, and 0 and 500 in field 3 give the same
abbrev with_rated : Cable → ℕ → Cable
with_rated c rated = record {
  diameter = c.diameter;
  depth = c.depth;
  diffusivity = c.diffusivity;
  surface_ratio = c.surface_ratio;
  fast_weight = c.fast_weight;
  fast_rate = c.fast_rate;
  slow_rate = c.slow_rate;
  rated = rated;
}

abbrev with_diffusivity : Cable → ℕ → Cable
with_diffusivity c s = record {
  diameter = c.diameter;
  depth = c.depth;
  diffusivity = s;
  surface_ratio = c.surface_ratio;
  fast_weight = c.fast_weight;
  fast_rate = c.fast_rate;
  slow_rate = c.slow_rate;
  rated = c.rated;
}

pub rated_not_used : (c : Cable) (rated minutes : ℕ) → share_pair (alone (with_rated c rated)) minutes ≡ share_pair (alone c) minutes
unfolding in_use
rated_not_used c rated minutes = rw (share_pair_is (alone (with_rated c rated)) minutes, share_pair_is (alone c) minutes) refl

pub zero_is_the_default : (c : Cable) (minutes : ℕ) → share_pair (alone (with_diffusivity c 0)) minutes ≡ share_pair (alone (with_diffusivity c 500)) minutes
unfolding in_use
zero_is_the_default c minutes = refl
