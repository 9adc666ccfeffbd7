-- From the widths of the integral, the logarithm and the exponentials to that of the share.
use Prim.Native.Nat.{ℕ, ◌+◌, ◌*◌, ◌/◌, ◌-◌, ◌≤◌, ◌<◌}
use native.Mathlib.Nat.{div-mul-le_self, lt-div-mul-add, mul-le-mul, mul-le-mul_left, mul-le-mul_right, lt_of_mul-lt-mul_right}
use native.Mathlib.Omega.{arith}
use Rattle.bounds.specs.Pair.{Pair, add_p, less_p, scaled_p, quotient_p, times_p, divided_p, at_most_p}
use Rattle.numbers.specs.Rounding.{ceil_n}
use Rattle.model.specs.Scale.{one, million, beta_one, surface_one, beta_to_surface, attainment_one}
use Rattle.model.specs.Share.{beta, surface_factor, attainment_of, attainment, share_of}
use Rattle.model.specs.Width.{Under, Within, inner_width}
use Rattle.model.proofs.Exponential.{exp_at_most_one, exp_within_51}

-- ---- β
pub beta_within : (w : ℕ) (j n : Pair) → j.low ≤ j.high → n.low ≤ n.high → 0 < n.low → j.low ≤ n.high →
    beta_one * j.high + n.high + beta_one * n.high ≤ beta_one * j.low + beta_one * n.low + w * n.low → Within w (beta j n)
unfolding beta at_most_p quotient_p
beta_within w j n h k z u r =
    let bl = j.low * beta_one / n.high in
    let bh = j.high * beta_one / n.low in
    let p = div-mul-le_self (j.low * beta_one) n.high in
    let q = lt-div-mul-add {a = j.low * beta_one} {b = n.high} (omega arith) in
    let p' = div-mul-le_self (j.high * beta_one) n.low in
    let q' = lt-div-mul-add {a = j.high * beta_one} {b = n.low} z in
    let g = n.high - n.low in
    let m = mul-le-mul_left bl k in
    let o : bl < bh + 1 = lt_of_mul-lt-mul_right n.low (omega arith) in
    let c : bl < beta_one + 1 = lt_of_mul-lt-mul_right n.high (omega arith) in
    let e : n.high ≤ n.low + g = omega arith in
    let f : bl ≤ beta_one = omega arith in
    let v = mul-le-mul_left bl e in
    let v' = mul-le-mul_right g f in
    let d : bh < bl + w = lt_of_mul-lt-mul_right n.low (omega arith) in
    record { order = omega arith; width = omega arith }

pub beta_at_most_one : (j n : Pair) → Under beta_one (beta j n)
unfolding beta at_most_p
beta_at_most_one j n = omega arith

-- ---- the surface factor: v is k's width, w that of β
pub surface_within : (v w x : ℕ) (k b : Pair) → k.high ≤ million → b.high ≤ beta_one → Within v k → Within w b → beta_one * v + million * w ≤ beta_to_surface * x →
    Within (x + 1) (surface_factor k b)
unfolding surface_factor less_p at_most_p scaled_p
surface_within v w x k b h t i z r =
    let most = beta_one - b.low in
    let least = beta_one - b.high in
    let a = mul-le-mul_right most i.width in
    let m : most ≤ least + w = omega arith in
    let c = mul-le-mul_left k.low m in
    let o : most ≤ beta_one = omega arith in
    let e = mul-le-mul_left v o in
    let kl : k.low ≤ million = omega arith in
    let f = mul-le-mul_right w kl in
    let n : least ≤ most = omega arith in
    let g = mul-le-mul i.order n in
    record { order = omega arith; width = omega arith }

pub surface_at_most_one : (k b : Pair) → Under surface_one (surface_factor k b)
unfolding surface_factor less_p at_most_p
surface_at_most_one k b = omega arith

-- ---- the attainment
attainment_of_within_52 : (w : ℕ) (p q : Pair) → w ≤ million → Under one p → Under one q → Within 51 p → Within 51 q → Within 52 (attainment_of w p q)
unfolding attainment_of add_p times_p less_p divided_p ceil_n
attainment_of_within_52 w p q h i j u v =
    let x = million - w in
    let a = mul-le-mul_left w u.width in
    let b = mul-le-mul_left x v.width in
    let a' = mul-le-mul_left w u.order in
    let b' = mul-le-mul_left x v.order in
    let c = mul-le-mul_left w i.high in
    let d = mul-le-mul_left x j.high in
    record { order = omega arith; width = omega arith }

pub attainment_within_52 : (w fast slow t : ℕ) → w ≤ million → Within 52 (attainment w fast slow t)
unfolding attainment
attainment_within_52 w fast slow t h =
    attainment_of_within_52 w _ _ h (exp_at_most_one (fast * t) million) (exp_at_most_one (slow * t) million) (exp_within_51 (fast * t) million (omega arith))
    (exp_within_51 (slow * t) million (omega arith))

-- what the two parts have yet to rise is at most the whole, so that nothing is cut off in its subtraction
pub lost_at_most_all : (w p q : ℕ) → w ≤ million → p ≤ one → q ≤ one → p * w + q * (million - w) ≤ attainment_one
lost_at_most_all w p q h i j = let a = mul-le-mul_left w i in let b = mul-le-mul_left (million - w) j in omega arith

pub attainment_at_most_one : (w fast slow t : ℕ) → Under one (attainment w fast slow t)
unfolding attainment attainment_of less_p divided_p ceil_n
attainment_at_most_one w fast slow t = omega arith

-- ---- the product
pub share_of_at_most_million : (x a : Pair) → Under million (share_of x a)
unfolding share_of at_most_p
share_of_at_most_million x a = omega arith

pub share_of_within : (x a : Pair) → Within 3335 x → Within 52 a → x.low ≤ surface_one → a.low ≤ one → Within inner_width (share_of x a)
unfolding share_of at_most_p scaled_p
share_of_within x a v w h k =
    let m = mul-le-mul v.order w.order in
    let n = mul-le-mul v.width w.width in
    record { order = omega arith; width = omega arith }
