-- The loops against their models: what holds before the first turn, that a turn keeps it, and what it gives after the last.
use mathlib.Core.Path.{◌≡◌, refl, ap, ◌∙◌}
use Prim.Native.Nat.{ℕ, zero, suc, ◌+◌, ◌*◌, ◌/◌, ◌-◌, ◌≤◌, ◌<◌}
use native.Mathlib.Numerals.{add-one, sub-one}
use native.Mathlib.Omega.{arith}
use lib.IntN.{pos}
use Rattle.bounds.specs.Pair.{Pair, as_bounds, as_pair, scaled_p}
use Rattle.bounds.specs.Operations.{scaled_b, quotient_b, at_most_b}
use Rattle.bounds.specs.declared.Bounds.{Bounds}
use Rattle.bounds.proofs.Pairs.{scaled_pair, quotient_pair, at_most_pair}
use Rattle.model.specs.Scale.{one, series_order, series_loss, term_loss, exp_order, exp_loss, inverse_e_low, inverse_e_high, exactly}
use Rattle.model.specs.Exponential.{exp_term, exp_sum, fraction_exp_pair, decayed_once, decayed}
use Rattle.model.specs.Series.{series_term, series_sum, series_pair}
use Rattle.model.specs.Width.{Under}
use Rattle.model.proofs.Exponential.{ExpRoom, exp_room}
use Rattle.model.proofs.Series.{SeriesRoom, series_room}
use Rattle.series.specs.Asked.{SliceFractions, PartOfOne}

-- ---- `series`, at order k
pub record SeriesTurn (theta tau power term sum k : ℕ) : Type 0 where
  pub from : 1 ≤ k
  pub to : k ≤ series_order
  pub power_is : power ≡ exp_term tau k
  pub term_is : term ≡ series_term theta tau k
  pub sum_is : sum ≡ series_sum theta tau k
  pub room : SeriesRoom power term sum

pub series_begin : (theta tau : ℕ) → SliceFractions theta tau → SeriesTurn theta tau tau (theta + tau) (one + (theta + tau) / 2) 1
unfolding exp_term series_term series_sum
series_begin theta tau a = omega arith

pub series_again : {theta tau power term sum : ℕ} (k : ℕ) → SliceFractions theta tau → 2 ≤ k → k ≤ series_order → SeriesTurn theta tau power term sum (k - 1) →
    SeriesTurn theta tau (power * tau / one / k) (theta * term / one + power * tau / one / k) (sum + (theta * term / one + power * tau / one / k) / (k + 1)) (k + 1 - 1)
unfolding exp_term series_term series_sum
series_again zero a f l r = absurd (omega arith)
series_again {theta} {tau} {power} {term} {sum} (suc k) a f l r = next (rw sub-one at r)
  where
    next : SeriesTurn theta tau power term sum k → SeriesTurn theta tau (power * tau / one / suc k) (theta * term / one + power * tau / one / suc k)
        (sum + (theta * term / one + power * tau / one / suc k) / (suc k + 1)) (suc k + 1 - 1)
    next r =
        let p : power * tau / one / suc k ≡ exp_term tau (suc k) = rw r.power_is refl in
        let t : theta * term / one + power * tau / one / suc k ≡ series_term theta tau (suc k) = rw (r.power_is, r.term_is) refl in
        let s : sum + (theta * term / one + power * tau / one / suc k) / (suc k + 1) ≡ series_sum theta tau (suc k) =
        rw (r.power_is, r.term_is, r.sum_is, add-one (suc k)) refl
        in
        let done : suc k + 1 - 1 ≡ suc k = omega arith in
        rw done
        (record {
          from = omega arith;
          to = omega arith;
          power_is = p;
          term_is = t;
          sum_is = s;
          room = rw (s, t, p) (series_room theta tau k a.theta_most a.tau_most);
        })

pub series_done : {theta tau power term sum k : ℕ} → series_order ≤ k → SeriesTurn theta tau power term sum k →
    as_bounds (record { low = sum; high = sum + series_loss + 2 * (term + term_loss) / suc series_order }) ≡ as_bounds (series_pair theta tau)
unfolding series_pair
series_done {k} l r = let q : k ≡ series_order = omega arith in rw (r.term_is, r.sum_is, q) refl

-- ---- `exp_fraction`, at order k
pub record ExpTurn (x term sum k : ℕ) : Type 0 where
  pub from : 1 ≤ k
  pub to : k ≤ exp_order
  pub term_is : term ≡ exp_term x k
  pub sum_is : sum ≡ exp_sum x k
  pub room : ExpRoom term sum

pub exp_begin : (x : ℕ) → PartOfOne x → ExpTurn x x (one + x) 1
unfolding exp_term exp_sum
exp_begin x a = omega arith

pub exp_again : {x term sum : ℕ} (k : ℕ) → PartOfOne x → 2 ≤ k → k ≤ exp_order → ExpTurn x term sum (k - 1) →
    ExpTurn x (term * x / one / k) (sum + term * x / one / k) (k + 1 - 1)
unfolding exp_term exp_sum
exp_again zero a f l r = absurd (omega arith)
exp_again {x} {term} {sum} (suc k) a f l r = next (rw sub-one at r)
  where
    next : ExpTurn x term sum k → ExpTurn x (term * x / one / suc k) (sum + term * x / one / suc k) (suc k + 1 - 1)
    next r =
        let t : term * x / one / suc k ≡ exp_term x (suc k) = rw r.term_is refl in
        let s : sum + term * x / one / suc k ≡ exp_sum x (suc k) = rw (r.term_is, r.sum_is) refl in
        let done : suc k + 1 - 1 ≡ suc k = omega arith in
        rw done (record { from = omega arith; to = omega arith; term_is = t; sum_is = s; room = rw (s, t) (exp_room x k a.most) })

abbrev pub exp_divisor : ℕ → Pair
exp_divisor sum = record { low = sum; high = sum + exp_loss }

pub exp_done : {x term sum k : ℕ} {whole divisor part r : Bounds} → exp_order ≤ k → ExpTurn x term sum k → whole ≡ as_bounds (exactly one) →
    divisor ≡ as_bounds (exp_divisor sum) → part ≡ quotient_b whole divisor one → r ≡ at_most_b part (pos one) → r ≡ as_bounds (fraction_exp_pair x)
unfolding fraction_exp_pair
exp_done {k} l t ew ed ep er =
    let q : k ≡ exp_order = omega arith in
    rw (er, ep, ew, ed, quotient_pair, at_most_pair, t.sum_is, q) refl

-- ---- `decayed`, after i times
pub record DecayTurn (start : Bounds) (m : ℕ) (pair : Bounds) (i : ℕ) : Type 0 where
  pub ends : Pair
  pub is : pair ≡ as_bounds ends
  pub small : Under one ends
  pub same : decayed (m - i) ends ≡ decayed m (as_pair start)

-- what each turn multiplies by
abbrev pub inverse_e : Pair
inverse_e = record { low = inverse_e_low; high = inverse_e_high }

decayed_once_small : {ends : Pair} → Under one ends → Under one (decayed_once ends)
unfolding scaled_p
decayed_once_small h = omega arith

pub decay_again : {start pair next : Bounds} {m i : ℕ} → i < m → next ≡ scaled_b pair (as_bounds inverse_e) one → DecayTurn start m pair i →
    DecayTurn start m next (i + 1)
unfolding decayed
decay_again {start} {pair} {next} {m} {i} h e r =
    record {
      ends = decayed_once r.ends;
      is = e ∙ rw r.is (scaled_pair r.ends inverse_e one);
      small = decayed_once_small r.small;
      same = let one_less : m - i ≡ suc (m - (i + 1)) = omega arith in rw one_less at r.same;
    }

pub decay_done : {start pair : Bounds} {m i : ℕ} → m ≤ i → DecayTurn start m pair i → pair ≡ as_bounds (decayed m (as_pair start))
unfolding decayed
decay_done {start} {pair} {m} {i} h r = let none_left : m - i ≡ 0 = omega arith in r.is ∙ ap as_bounds (rw none_left at r.same)
