-- The loop that doubles the lower end of the logarithm, against the number of doublings of the model.
use mathlib.Core.Path.{◌≡◌, refl}
use Prim.Native.Nat.{ℕ, zero, suc, ◌+◌, ◌*◌, ◌≤◌, ◌<◌}
use borrow.Author.Tests.{le-leb, lt-leb}
use native.Mathlib.Numerals.{add-one}
use native.Mathlib.Omega.{arith}
use Rattle.bounds.specs.Pair.{Pair, as_bounds, times_p}
use Rattle.bounds.specs.Operations.{add_b}
use Rattle.bounds.specs.Promises.{Sized, largest, TimesRoom}
use Rattle.bounds.proofs.Pairs.{add_pair, add_room, times_room}
use Rattle.model.specs.Scale.{most_doublings}
use Rattle.model.specs.Logarithm.{power_of_two, logarithm_slice, doublings, logarithm_after, logarithm}
use Rattle.model.proofs.Logarithm.{slice_most, logarithm_of_two}
use Rattle.integral.specs.Asked.{OneOctave, Ratio}

-- `base` is x doubled n times; `left` is the fuel that the model has left there
pub record DoublingTurn (x y base n : ℕ) : Type 0 where
  pub left : ℕ
  pub base_is : base ≡ x * power_of_two n
  pub same : doublings left base y + n ≡ doublings most_doublings x y
  pub fuel : y < base * power_of_two left
  pub some : 0 < base
  pub most : base ≤ y
  pub few : left + n ≤ most_doublings

pub doubling_begin : {x y : ℕ} → Ratio x y → DoublingTurn x y x 0
unfolding power_of_two
doubling_begin a =
    record {
      left = most_doublings;
      base_is = omega arith;
      same = omega arith;
      fuel = omega arith;
      some = a.some;
      most = a.order;
      few = omega arith;
    }

one_doubling : (left base y : ℕ) → 2 * base ≤ y → doublings (suc left) base y ≡ suc (doublings left (2 * base) y)
unfolding doublings
one_doubling left base y h = rw (le-leb (2 * base) y h, doublings) refl

no_doubling : (left base y : ℕ) → y < 2 * base → doublings left base y ≡ 0
unfolding doublings
no_doubling zero base y h = refl
no_doubling (suc left) base y h = rw (lt-leb (2 * base) y h, doublings) refl

pub doubling_again : {x y base n : ℕ} → 2 * base ≤ y → DoublingTurn x y base n → DoublingTurn x y (2 * base) (n + 1)
unfolding power_of_two
doubling_again {x} {y} {base} {n} h t = go t.left t.same t.fuel t.few
  where
    go : (left : ℕ) → doublings left base y + n ≡ doublings most_doublings x y → y < base * power_of_two left → left + n ≤ most_doublings → DoublingTurn x y (2 * base) (n + 1)
    go zero e r k = absurd (let m = t.most in omega arith)
    go (suc left) e r k =
        record {
          left = left;
          base_is = rw add-one (let i = t.base_is in omega arith);
          same = let o = one_doubling left base y h in omega arith;
          fuel = omega arith;
          some = let p = t.some in omega arith;
          most = h;
          few = omega arith;
        }

-- ---- after the last doubling
-- the constant of the code
abbrev pub ln_two : Pair
ln_two = record { low = 744261068; high = 744261259 }

module _ {x y base n : ℕ} (a : Ratio x y) (h : y < 2 * base) (t : DoublingTurn x y base n) where
  pub rest_octave : OneOctave base y
  rest_octave = record { some = t.some; order = t.most; near = omega arith; small = omega (arith, a.small) }

  pub doublings_room : TimesRoom (as_bounds ln_two) n
  doublings_room = let f = t.few in times_room ln_two n (omega arith) (omega arith) (omega arith)

  pub rest_room : Sized largest (add_b (as_bounds (times_p ln_two n)) (as_bounds (logarithm_slice base y)))
  unfolding times_p
  rest_room =
      let f = t.few in
      let s = slice_most base y (omega arith) in
      add_room (times_p ln_two n) (logarithm_slice base y) (omega (arith, s.low)) (omega (arith, s.high))

  pub doubling_done : add_b (as_bounds (times_p ln_two n)) (as_bounds (logarithm_slice base y)) ≡ as_bounds (logarithm x y)
  unfolding logarithm logarithm_after
  doubling_done =
      let o = no_doubling t.left base y h in
      let e = t.same in
      let q : n ≡ doublings most_doublings x y = omega arith in
      rw (← logarithm_of_two, add_pair, t.base_is, q) refl
