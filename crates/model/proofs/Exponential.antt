-- The pair of e^(-x): at most 1, at most 51 units wide for every quotient, and at most 122 units high from 16 on.
use mathlib.Core.Path.{◌≡◌, refl, sym, ap}
use mathlib.Core.Bool.{Bool, true, false}
use Prim.Native.Nat.{ℕ, zero, suc, ◌+◌, ◌*◌, ◌/◌, ◌%◌, ◌≤◌, ◌<◌}
use lib.Dec.{ltb}
use borrow.Author.Tests.{lt-ltb, le-ltb, ltb-false}
use native.Mathlib.Nat.{div-mul-le_self, div-add-mod', mul-div-mul_left, lt-div-mul-add, mul-le-mul_right, lt_of_mul-lt-mul_right, div-le_of_le-mul, mod-lt, le_of_lt}
use native.Mathlib.Omega.{arith}
use Rattle.bounds.specs.Pair.{Pair, scaled_p, quotient_p, at_most_p}
use Rattle.model.specs.Scale.{one, exp_order, exp_loss, far_from}
use Rattle.model.specs.Exponential.{exp_term, exp_sum, fraction_exp_pair, decayed_once, decayed, exp_pair}
use Rattle.model.specs.Width.{Under, Within}
use Rattle.model.proofs.Rounding.{times_fraction_less, half_of, fraction_at_most_one, larger_divisor_less}

-- ---- sizes on the way: a term of order 1 or more, and the sum with it
pub record ExpRoom (term sum : ℕ) : Type 0 where
  pub term_most : term ≤ one
  pub sum_least : one ≤ sum
  pub sum_most : sum + term ≤ 3 * one

room_step : (x term sum k : ℕ) → x ≤ one → ExpRoom term sum → ExpRoom (term * x / one / suc (suc k)) (sum + term * x / one / suc (suc k))
room_step x term sum k h r =
    let a = times_fraction_less term x h in
    let b = half_of (term * x / one) k in
    omega arith

pub exp_room : (x k : ℕ) → x ≤ one → ExpRoom (exp_term x (suc k)) (exp_sum x (suc k))
unfolding exp_term exp_sum
exp_room x zero h = omega arith
exp_room x (suc k) h = room_step x (exp_term x (suc k)) (exp_sum x (suc k)) k h (exp_room x k h)

-- ---- e^(-x) for x at most 1
one_over_at_most_one : (sum : ℕ) → one ≤ sum → one * one / sum ≤ one
one_over_at_most_one sum h = div-le_of_le-mul sum (omega (arith, mul-le-mul_right one h))

pub fraction_exp_at_most_one : (x : ℕ) → Under one (fraction_exp_pair x)
unfolding fraction_exp_pair at_most_p
fraction_exp_at_most_one x = omega arith

pub fraction_exp_within_51 : (x : ℕ) → x ≤ one → Within 51 (fraction_exp_pair x)
unfolding fraction_exp_pair at_most_p quotient_p
fraction_exp_within_51 x h =
    let r = exp_room x 11 h in
    let z = exp_sum x exp_order in
    let a = div-mul-le_self (one * one) z in
    let b = lt-div-mul-add {a = one * one} {b = z + exp_loss} (omega arith) in
    let c = one_over_at_most_one (z + exp_loss) (omega arith) in
    let d : one * one / z < one * one / (z + exp_loss) + 51 = lt_of_mul-lt-mul_right z (omega arith) in
    let e = larger_divisor_less (one * one) z (z + exp_loss) (omega arith) (omega arith) in
    record { order = omega arith; width = omega arith }

-- ---- times e^(-m)
pub decayed_at_most_one : (m : ℕ) (b : Pair) → Under one b → Under one (decayed m b)
unfolding decayed scaled_p
decayed_at_most_one zero b h = h
decayed_at_most_one (suc m) b h = decayed_at_most_one m (decayed_once b) (omega arith)

decayed_within_51 : (m : ℕ) (b : Pair) → b.high ≤ one → Within 51 b → Within 51 (decayed m b)
unfolding decayed scaled_p
decayed_within_51 zero b h w = w
decayed_within_51 (suc m) b h w = decayed_within_51 m (decayed_once b) (omega arith) (omega arith)

decayed_rises : (m : ℕ) (b c : Pair) → b.high ≤ c.high → (decayed m b).high ≤ (decayed m c).high
unfolding decayed scaled_p
decayed_rises zero b c h = h
decayed_rises (suc m) b c h = decayed_rises m (decayed_once b) (decayed_once c) (omega arith)

sixteen_times : (decayed 16 (record { low = 0; high = one })).high ≡ 122
unfolding decayed scaled_p
sixteen_times = refl

seventeen_times : ◌≡◌ {A = Pair} (decayed 17 (record { low = 0; high = one })) (record { low = 0; high = 45 })
unfolding decayed scaled_p
seventeen_times = refl

-- ---- e^(-num/den)
pub remainder_at_most_one : (num den : ℕ) → 0 < den → num % den * one / den ≤ one
remainder_at_most_one num den h = fraction_at_most_one (num % den) den (le_of_lt (mod-lt num h))

pub exp_far : (num den : ℕ) → far_from < num / den → ◌≡◌ {A = Pair} (record { low = 0; high = 45 }) (exp_pair num den)
unfolding exp_pair
exp_far num den h = rw (lt-ltb _ _ h, exp_pair) (sym seventeen_times)

pub exp_near : (num den : ℕ) → num / den ≤ far_from → decayed (num / den) (fraction_exp_pair (num % den * one / den)) ≡ exp_pair num den
unfolding exp_pair
exp_near num den h = rw (le-ltb _ _ h, exp_pair) refl

-- with both numbers times c
rest_scaled : (c num den : ℕ) → 0 < c → (c * num) % (c * den) * one / (c * den) ≡ num % den * one / den
rest_scaled c num den z =
    let q = mul-div-mul_left num den z in
    let a = rw q at (div-add-mod' (c * num) (c * den)) in
    let b = ap (λ t. c * t) (div-add-mod' num den) in
    let r : (c * num) % (c * den) ≡ c * (num % den) = omega arith in
    let s : c * (num % den) * one ≡ c * (num % den * one) = omega arith in
    rw (r, s) (mul-div-mul_left (num % den * one) den z)

-- the pair by its whole part and its rest
of_parts : ℕ → ℕ → Pair
of_parts m rest = elim (ltb far_from m) [ true ↦ decayed (suc far_from) (record { low = 0; high = one }) | false ↦ decayed m (fraction_exp_pair rest) ]

same_parts : {m n x y : ℕ} → m ≡ n → x ≡ y → of_parts m x ≡ of_parts n y
same_parts e f = rw (e, f) refl

pub exp_scaled : (c num den : ℕ) → 0 < c → exp_pair (c * num) (c * den) ≡ exp_pair num den
unfolding exp_pair of_parts
exp_scaled c num den z = same_parts (mul-div-mul_left num den z) (rest_scaled c num den z)

pub exp_at_most_one : (num den : ℕ) → Under one (exp_pair num den)
unfolding exp_pair
exp_at_most_one num den = go (ltb far_from (num / den))
  where
    go : (b : Bool) → Under one (elim b [ true ↦ decayed (suc far_from) (record { low = 0; high = one }) | false ↦ decayed (num / den) (fraction_exp_pair (num % den * one / den)) ])
    go true = decayed_at_most_one 17 _ (omega arith)
    go false = decayed_at_most_one (num / den) _ (fraction_exp_at_most_one _)

pub exp_within_51 : (num den : ℕ) → 0 < den → Within 51 (exp_pair num den)
unfolding exp_pair
exp_within_51 num den h = go (ltb far_from (num / den))
  where
    go : (b : Bool) → Within 51 (elim b [ true ↦ decayed (suc far_from) (record { low = 0; high = one }) | false ↦ decayed (num / den) (fraction_exp_pair (num % den * one / den)) ])
    go true = rw seventeen_times (omega arith)
    go false = decayed_within_51 (num / den) _ (fraction_exp_at_most_one _).high (fraction_exp_within_51 _ (remainder_at_most_one num den h))

abbrev HighUnder : ℕ → Pair → Type 0
HighUnder n b = b.high ≤ n

pub exp_from_16_at_most_122 : (num den : ℕ) → 0 < den → far_from * den ≤ num → (exp_pair num den).high ≤ 122
unfolding exp_pair
exp_from_16_at_most_122 num den h k = go (ltb far_from (num / den)) refl
  where
    go : (b : Bool) → ltb far_from (num / den) ≡ b →
        HighUnder 122 (elim b [ true ↦ decayed (suc far_from) (record { low = 0; high = one }) | false ↦ decayed (num / den) (fraction_exp_pair (num % den * one / den)) ])
    go true e = rw seventeen_times (omega arith)
    go false e =
        let w = ltb-false far_from (num / den) e in
        let l = lt-div-mul-add {a = num} {b = den} h in
        let m : far_from < num / den + 1 = lt_of_mul-lt-mul_right den (omega arith) in
        let q : num / den ≡ 16 = omega arith in
        let f = decayed_rises 16 (fraction_exp_pair (num % den * one / den)) (record { low = 0; high = one }) (fraction_exp_at_most_one _).high in
        rw q (omega (arith, sixteen_times))
