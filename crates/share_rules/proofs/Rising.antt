-- The exact share: every order from 1 gives bounds of it, it never falls as the minutes grow and lies from nothing to all, and the pair encloses it. So no low share
-- exceeds a later high one.
use Prim.Native.Nat.{ℕ, ◌≤◌}
use native.Mathlib.Nat.{le_refl}
use native.Mathlib.Omega.{arith}
use lib.Dec.{T}
use lib.IntN.{pos}
use lib.Signed.{◌≤ℤ◌}
use Rattle.numbers.specs.Signed.{of_int}
use Rattle.numbers.proofs.SignedFractions.{refl≼ₛ}
use Rattle.numbers.proofs.SignedIntegers.{of_int_order}
use Rattle.exact.specs.Value.{◌⊴◌, Fine, from_one}
use Rattle.exact.specs.Share.{Accepted, share}
use Rattle.exact.proofs.Values.{constant⊴, most_to_least, fine_constant, fine_mul}
use Rattle.exact.proofs.SignedShare.{share_bounds, share_rises, fine_share, zero_at_most, one_at_least}
use Rattle.cable_rules.specs.Group.{Group}
use Rattle.cable_rules.specs.InRange.{numbers_in, Acceptable}
use Rattle.distance.proofs.Enclosed.{Enclosed}
use Rattle.distance.proofs.Rising.{Rising}
use Rattle.distance.proofs.Spread.{most_times, least_times, times⊴}
use Rattle.share_rules.specs.Pair.{share_pair}
use Rattle.share_rules.specs.Promises.{width_of, exact_share}
use Rattle.share_rules.proofs.Promises.{share_promised}

module _ (g : Group) where
  abbrev AcceptedAt : ℕ → Type 0
  AcceptedAt = Accepted (numbers_in g)

  -- every order from 1 gives bounds of the exact share in millionths
  pub exact_share_bounds : (minutes : ℕ) → AcceptedAt minutes → (n : ℕ) → T (from_one n) → T ((exact_share g minutes).ok n)
  exact_share_bounds minutes a n t = share_bounds (numbers_in g) minutes a n t

  pub fine_exact_share : (minutes : ℕ) → AcceptedAt minutes → Fine (exact_share g minutes)
  fine_exact_share minutes a =
      let c = numbers_in g in
      let million = of_int (pos 1000000) in
      fine_mul (constant⊴ (refl≼ₛ million)) (share_rises c minutes minutes a a (le_refl minutes)) (fine_constant million) (fine_share c minutes a)

  module _ (j i : ℕ) (a : AcceptedAt j) (b : AcceptedAt i) (h : j ≤ i) where
    pub exact_share_rises : exact_share g j ⊴ exact_share g i
    exact_share_rises =
        let rises = share_rises (numbers_in g) in
        times⊴ 1000000 (rises j j a a (le_refl j)) (rises i i b b (le_refl i)) (rises j i a b h)

    -- the low share is at most the exact one, which is at most the later exact one
    pub low_at_most_later_high : (share_pair g j).low ≤ℤ (share_pair g i).high
    low_at_most_later_high =
        of_int_order (share_pair g j).low (share_pair g i).high
        (most_to_least exact_share_rises (fine_exact_share j a) (fine_exact_share i b) (share_promised g j a).around.low_at_most (share_promised g i b).around.high_at_least)

  -- no lower fraction of the exact share exceeds an upper one, and the pair is around it
  pub share_enclosed : (minutes : ℕ) → AcceptedAt minutes → Enclosed (width_of g) (exact_share g minutes) (share_pair g minutes)
  share_enclosed minutes a = record { sound = exact_share_rises minutes minutes a a (le_refl minutes); promised = share_promised g minutes a }

  module _ (acceptable : Acceptable g) where
    pub accepted_at : (minutes : ℕ) → 1 ≤ minutes → minutes ≤ 2880 → AcceptedAt minutes
    accepted_at minutes from to = record { cable = acceptable.numbers; neighbours = acceptable.beside; minutes_from = from; minutes_to = to }

    pub exact_shares_rise : (last : ℕ) → last ≤ 2880 → Rising (exact_share g) last
    exact_shares_rise last l =
        let c = numbers_in g in
        let at : (i : ℕ) → 1 ≤ i → i ≤ last → AcceptedAt i = λ i p q. accepted_at i p (omega arith) in
        let sound : (i : ℕ) → AcceptedAt i → share c i ⊴ share c i = λ i a. share_rises c i i a a (le_refl i) in
        record {
          rises = λ j i p h q. exact_share_rises j i (at j p (omega arith)) (at i (omega arith) q) h;
          fine = λ i p q. fine_exact_share i (at i p q);
          from_zero = λ i p q. most_times 1000000 (pos 0) (sound i (at i p q)) (zero_at_most c i (at i p q));
          to_one = λ i p q. least_times 1000000 (pos 1) (sound i (at i p q)) (one_at_least c i (at i p q));
        }
