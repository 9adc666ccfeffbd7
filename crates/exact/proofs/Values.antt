-- The laws of exact values of either sign: what keeps `◌⊴◌` and `Fine`, and the joining law.
use Prim.Native.Nat.{ℕ, ◌+◌, ◌≤◌, ◌<◌}
use mathlib.Core.List.{[], ◌∷◌}
use mathlib.Core.Bool.{true}
use lib.Dec.{T}
use native.Mathlib.Omega.{arith}
use Rattle.numbers.specs.Fraction.{Frac, ◌≼◌, 1F, ◌⊕◌}
use Rattle.numbers.specs.Signed.{Signed, ◌≼ₛ◌, ◌≺ₛ◌, of_frac, amount, add_s, max_s, least4, most4}
use Rattle.numbers.proofs.Fractions.{refl≼, trans≼, add≼, one_above}
use Rattle.numbers.proofs.FractionProver.{qv, qn, ◌+'◌, q_le, le, q_from}
use Rattle.numbers.proofs.Subtraction.{less_on, less_least}
use Rattle.numbers.proofs.Strict.{strictly, half, half_above, halves_in, portion, portion_above, portion_in}
use Rattle.numbers.proofs.SignedFractions.{refl≼ₛ, trans≼ₛ, add≼ₛ, neg≼ₛ, of_frac≼, withinₛ, max_left, max_right, max_is, In, below_most, above_least, Size, hull_near, amount≼}
use Rattle.exact.specs.Value.{Value, AtMost, AtLeast, ◌⊴◌, Fine, -ᵥ◌, ◌+ᵥ◌, ◌·ᵥ◌, ◌/ᵥ◌}
use Rattle.exact.proofs.Plain.{Plain, ◌⊴ₚ◌, and_0, and_1, both, known, quot_p, known⊴ₚ, quot⊴ₚ}
use Rattle.exact.proofs.PlainFine.{FineP, fine_p_known, fine_p_quot}

-- a signed fraction that is known
abbrev pub constant : Signed → Value
constant a = record { ok = λ n. true; low = λ n. a; high = λ n. a }

abbrev pub lift : Plain → Value
lift x = record { ok = x.ok; low = λ n. of_frac (x.low n); high = λ n. of_frac (x.high n) }

-- ---- no lower fraction above an upper one
pub constant⊴ : {a b : Signed} → a ≼ₛ b → (constant a) ⊴ (constant b)
constant⊴ h = record { apart = λ n m s t. h }

pub lift⊴ : {x y : Plain} → x ⊴ₚ y → lift x ⊴ lift y
lift⊴ h = record { apart = λ n m s t. of_frac≼ (h.apart n m s t) }

pub neg⊴ : {x y : Value} → x ⊴ y → (-ᵥ y) ⊴ (-ᵥ x)
neg⊴ h = record { apart = λ n m s t. neg≼ₛ (h.apart m n t s) }

pub add⊴ : {x x' y y' : Value} → x ⊴ x' → y ⊴ y' → (x +ᵥ y) ⊴ (x' +ᵥ y')
add⊴ {x} {x'} {y} {y'} h k = record { apart = λ n m s t. add≼ₛ (h.apart n m (and_0 (x.ok n) (y.ok n) s) (and_0 (x'.ok m) (y'.ok m) t)) (k.apart n m (and_1 (x.ok n) (y.ok n) s) (and_1 (x'.ok m) (y'.ok m) t)) }

-- two orders' bounds of one value share a point, so two orders' bounds of a product do
meet_n : (x : Value) → x ⊴ x → (n m : ℕ) → T (x.ok n) → T (x.ok m) → In (x.low n) (x.high n) (max_s (x.low n) (x.low m))
meet_n x h n m s t = record { from = max_left (x.low n) (x.low m); to = max_is (λ a. a ≼ₛ x.high n) (x.low n) (x.low m) (h.apart n n s s) (h.apart m n t s) }

meet_m : (x : Value) → x ⊴ x → (n m : ℕ) → T (x.ok n) → T (x.ok m) → In (x.low m) (x.high m) (max_s (x.low n) (x.low m))
meet_m x h n m s t = record { from = max_right (x.low n) (x.low m); to = max_is (λ a. a ≼ₛ x.high m) (x.low n) (x.low m) (h.apart n m s t) (h.apart m m t t) }

pub mul⊴ : {x y : Value} → x ⊴ x → y ⊴ y → (x ·ᵥ y) ⊴ (x ·ᵥ y)
mul⊴ {x} {y} h k = record { apart = λ n m s t. go n m (and_0 (x.ok n) (y.ok n) s) (and_1 (x.ok n) (y.ok n) s) (and_0 (x.ok m) (y.ok m) t) (and_1 (x.ok m) (y.ok m) t) }
  where
    go : (n m : ℕ) → T (x.ok n) → T (y.ok n) → T (x.ok m) → T (y.ok m) → least4 (x.low n) (x.high n) (y.low n) (y.high n) ≼ₛ most4 (x.low m) (x.high m) (y.low m) (y.high m)
    go n m a b c d = trans≼ₛ
        (above_least (x.low n) (x.high n) (y.low n) (y.high n) (max_s (x.low n) (x.low m)) (max_s (y.low n) (y.low m)) (meet_n x h n m a c) (meet_n y k n m b d))
        (below_most (x.low m) (x.high m) (y.low m) (y.high m) (max_s (x.low n) (x.low m)) (max_s (y.low n) (y.low m)) (meet_m x h n m a c) (meet_m y k n m b d))

-- ---- the joining law: if no lower fraction of x exceeds an upper one of y, what is at least y is at least x, and what is at most x is at most y
pub at_least_join : {a : Signed} {x y : Value} → x ⊴ y → Fine y → AtLeast a y → AtLeast a x
at_least_join {a} {x} {y} h f k = record {
  least = λ n s. withinₛ (x.low n) a (λ e z.
      trans≼ₛ (h.apart n (f.order e z) s (f.bounds e z (f.order e z) (omega arith)))
      (trans≼ₛ (f.gap e z (f.order e z) (omega arith)) (add≼ₛ (k.least (f.order e z) (f.bounds e z (f.order e z) (omega arith))) (refl≼ₛ (of_frac e)))));
}

pub at_most_join : {a : Signed} {x y : Value} → x ⊴ y → Fine x → AtMost a x → AtMost a y
at_most_join {a} {x} {y} h f k = record {
  most = λ n s. withinₛ a (y.high n) (λ e z.
      trans≼ₛ (k.most (f.order e z) (f.bounds e z (f.order e z) (omega arith)))
      (trans≼ₛ (f.gap e z (f.order e z) (omega arith)) (add≼ₛ (h.apart (f.order e z) n (f.bounds e z (f.order e z) (omega arith)) s) (refl≼ₛ (of_frac e)))));
}

-- .. and what is at most x is at most what is at least y
pub most_to_least : {a b : Signed} {x y : Value} → x ⊴ y → Fine x → Fine y → AtMost a x → AtLeast b y → a ≼ₛ b
most_to_least {a} {b} h f g p q =
    withinₛ a b
    (λ e z.
    let n = g.order e z in
    let t = g.bounds e z n (omega arith) in
    trans≼ₛ ((at_most_join h f p).most n t) (trans≼ₛ (g.gap e z n (omega arith)) (add≼ₛ (q.least n t) (refl≼ₛ (of_frac e)))))

-- ---- from some order on
pub fine_constant : (q : Signed) → Fine (constant q)
fine_constant q = record { order = λ e z. 0; bounds = λ e z n h. tt; gap = λ e z n h. record { le = q_le (q.plus ∷ q.minus ∷ e ∷ []) (qv 0 +' (qv 1 +' qn 0)) (qv 0 +' qv 2 +' qv 1) tt } }

pub fine_lift : {x : Plain} → FineP x → Fine (lift x)
fine_lift {x} f = record { order = f.order; bounds = f.bounds; gap = λ e z n h. record { le = q_from (x.high n ∷ x.low n ∷ e ∷ []) (le (qn 1) (qv 0) (qv 1 +' qv 2) ∷ []) (qv 0 +' (qn 0 +' qn 0)) (qv 1 +' qv 2 +' qn 0) tt (f.gap e z n h) } }

pub fine_neg : {x : Value} → Fine x → Fine (-ᵥ x)
fine_neg {x} f = record {
  order = f.order;
  bounds = f.bounds;
  gap = λ e z n h. record {
    le = q_from ((x.high n).plus ∷ (x.high n).minus ∷ (x.low n).plus ∷ (x.low n).minus ∷ e ∷ [])
        (le (qn 1) (qv 0 +' (qv 3 +' qn 0)) (qv 2 +' qv 4 +' qv 1) ∷ []) (qv 3 +' (qv 0 +' qn 0)) (qv 1 +' qv 4 +' qv 2) tt (f.gap e z n h).le;
  };
}

add_near : (A a B b : Signed) (h e : Frac) → h ⊕ h ≼ e → A ≼ₛ add_s a (of_frac h) → B ≼ₛ add_s b (of_frac h) → add_s A B ≼ₛ add_s (add_s a b) (of_frac e)
add_near A a B b h e k p q = record {
  le = q_from (A.plus ∷ A.minus ∷ a.plus ∷ a.minus ∷ B.plus ∷ B.minus ∷ b.plus ∷ b.minus ∷ h ∷ e ∷ [])
      (le (qn 1) (qv 0 +' (qv 3 +' qn 0)) (qv 2 +' qv 8 +' qv 1) ∷ le (qn 1) (qv 4 +' (qv 7 +' qn 0)) (qv 6 +' qv 8 +' qv 5) ∷ le (qn 1) (qv 8 +' qv 8) (qv 9) ∷ [])
      (qv 0 +' qv 4 +' (qv 3 +' qv 7 +' qn 0)) (qv 2 +' qv 6 +' qv 9 +' (qv 1 +' qv 5)) tt p.le q.le k;
}

pub fine_add : {x y : Value} → Fine x → Fine y → Fine (x +ᵥ y)
fine_add {x} {y} f g = record {
  order = λ e z. f.order (half e) (half_above e z) + g.order (half e) (half_above e z);
  bounds = λ e z n h. both (x.ok n) (y.ok n) (f.bounds (half e) (half_above e z) n (omega arith)) (g.bounds (half e) (half_above e z) n (omega arith));
  gap = λ e z n h. add_near (x.high n) (x.low n) (y.high n) (y.low n) (half e) e (halves_in e) (f.gap (half e) (half_above e z) n (omega arith)) (g.gap (half e) (half_above e z) n (omega arith));
}

-- a size that no bound of x exceeds from an order on
module _ (x : Value) (s : x ⊴ x) (f : Fine x) where
  abbrev pub start : ℕ
  start = f.order 1F one_above

  start_ok : T (x.ok start)
  start_ok = f.bounds 1F one_above start (omega arith)

  abbrev pub size : Frac
  size = (x.high start).plus ⊕ (x.high start).minus ⊕ ((x.low start).plus ⊕ (x.low start).minus) ⊕ 1F

  pub size_on : (n : ℕ) → start ≤ n → (y : Signed) → In (x.low n) (x.high n) y → Size size y
  size_on n h y i = record {
    below = q_from (y.plus ∷ y.minus ∷ (x.high n).plus ∷ (x.high n).minus ∷ (x.low n).plus ∷ (x.low n).minus ∷ (x.high start).plus ∷ (x.high start).minus ∷ (x.low start).plus ∷ (x.low start).minus ∷ [])
        (le (qn 1) (qv 0 +' qv 3) (qv 2 +' qv 1) ∷ le (qn 1) (qv 2 +' (qv 5 +' qn 0)) (qv 4 +' qn 1 +' qv 3) ∷ le (qn 1) (qv 4 +' qv 7) (qv 6 +' qv 5) ∷ [])
        (qv 0) (qv 1 +' (qv 6 +' qv 7 +' (qv 8 +' qv 9) +' qn 1)) tt i.to.le (f.gap 1F one_above n h).le (s.apart n start (f.bounds 1F one_above n h) start_ok).le;
    over = q_from (y.plus ∷ y.minus ∷ (x.high n).plus ∷ (x.high n).minus ∷ (x.low n).plus ∷ (x.low n).minus ∷ (x.high start).plus ∷ (x.high start).minus ∷ (x.low start).plus ∷ (x.low start).minus ∷ [])
        (le (qn 1) (qv 4 +' qv 1) (qv 0 +' qv 5) ∷ le (qn 1) (qv 2 +' (qv 5 +' qn 0)) (qv 4 +' qn 1 +' qv 3) ∷ le (qn 1) (qv 8 +' qv 3) (qv 2 +' qv 9) ∷ [])
        (qv 1) (qv 0 +' (qv 6 +' qv 7 +' (qv 8 +' qv 9) +' qn 1)) tt i.from.le (f.gap 1F one_above n h).le (s.apart start n start_ok (f.bounds 1F one_above n h)).le;
  }

pub fine_mul : {x y : Value} → x ⊴ x → y ⊴ y → Fine x → Fine y → Fine (x ·ᵥ y)
fine_mul {x} {y} s t f g = record {
  order = λ e z. f.order (α e) (αz e z) + g.order (β e) (βz e z) + start x s f + start y t g;
  bounds = λ e z n h. both (x.ok n) (y.ok n) (f.bounds (α e) (αz e z) n (omega arith)) (g.bounds (β e) (βz e z) n (omega arith));
  gap = λ e z n h. trans≼ₛ (hull_near (x.low n) (x.high n) (y.low n) (y.high n) (α e) (β e) (size x s f) (size y t g)
      (f.gap (α e) (αz e z) n (omega arith)) (g.gap (β e) (βz e z) n (omega arith)) (size_on x s f n (omega arith)) (size_on y t g n (omega arith))
      (s.apart n n (f.bounds (α e) (αz e z) n (omega arith)) (f.bounds (α e) (αz e z) n (omega arith))) (t.apart n n (g.bounds (β e) (βz e z) n (omega arith)) (g.bounds (β e) (βz e z) n (omega arith))))
      (add≼ₛ (refl≼ₛ (least4 (x.low n) (x.high n) (y.low n) (y.high n))) (of_frac≼ (trans≼ (add≼ (portion_in (half e) (size x s f)) (portion_in (half e) (size y t g))) (halves_in e))));
}
  where
    α : Frac → Frac
    α e = portion (half e) (size y t g)

    αz : (e : Frac) → 0 < e.num → 0 < (α e).num
    αz e z = portion_above (half e) (size y t g) (half_above e z)

    β : Frac → Frac
    β e = portion (half e) (size x s f)

    βz : (e : Frac) → 0 < e.num → 0 < (β e).num
    βz e z = portion_above (half e) (size x s f) (half_above e z)

-- ---- the quotient
-- the divisor, without what of it is below 0
abbrev pub divisor : Value → Plain
divisor y = record { ok = y.ok; low = λ n. amount (y.low n); high = λ n. amount (y.high n) }

pub divisor⊴ : {x y : Value} → x ⊴ y → divisor x ⊴ₚ divisor y
divisor⊴ h = record { apart = λ n m s t. amount≼ (h.apart n m s t) }

fine_divisor : {x : Value} → Fine x → FineP (divisor x)
fine_divisor {x} f = record { order = f.order; bounds = f.bounds; gap = λ e z n h. go (x.high n) (x.low n) e (f.gap e z n h) }
  where
    go : (a b : Signed) (e : Frac) → a ≼ₛ add_s b (of_frac e) → amount a ≼ amount b ⊕ e
    go a b e k = less_least a.plus a.minus (amount b ⊕ e) (q_from (a.plus ∷ a.minus ∷ b.plus ∷ b.minus ∷ amount b ∷ e ∷ [])
        (le (qn 1) (qv 0 +' (qv 3 +' qn 0)) (qv 2 +' qv 5 +' qv 1) ∷ le (qn 1) (qv 2) (qv 3 +' qv 4) ∷ []) (qv 0) (qv 1 +' (qv 4 +' qv 5)) tt k.le (less_on b.plus b.minus))

module _ {x y : Value} (s : x ⊴ x) (t : y ⊴ y) where
  recip⊴ₚ : quot_p (known 1F) (divisor y) ⊴ₚ quot_p (known 1F) (divisor y)
  recip⊴ₚ = quot⊴ₚ (known⊴ₚ (refl≼ 1F)) (divisor⊴ t)

  pub quot⊴ : x /ᵥ y ⊴ x /ᵥ y
  quot⊴ = mul⊴ s (lift⊴ recip⊴ₚ)

  -- the divisor's lower fractions being at least c above 0
  pub fine_quot : Fine x → Fine y → (c : Frac) → 0 < c.num → ((n : ℕ) → T (y.ok n) → of_frac c ≼ₛ y.low n) → Fine (x /ᵥ y)
  fine_quot f g c zc low = fine_mul s (lift⊴ recip⊴ₚ) f (fine_lift (fine_p_quot (known 1F) (divisor y) (known⊴ₚ (refl≼ 1F)) (divisor⊴ t) (fine_p_known 1F) (fine_divisor g) c zc (λ n o. go (y.low n) (low n o))))
    where
      go : (b : Signed) → of_frac c ≼ₛ b → c ≼ amount b
      go b k = q_from (c ∷ b.plus ∷ b.minus ∷ amount b ∷ []) (le (qn 1) (qv 0 +' qv 2) (qv 1 +' qn 0) ∷ le (qn 1) (qv 1) (qv 2 +' qv 3) ∷ []) (qv 0) (qv 3) tt k.le (less_on b.plus b.minus)

-- ---- a gap below e, strictly
pub gap_below : {x : Value} (f : Fine x) (e : Frac) (z : 0 < e.num) (n : ℕ) → f.order (half e) (half_above e z) ≤ n → x.high n ≺ₛ add_s (x.low n) (of_frac e)
gap_below {x} f e z n h = record {
  lt = strictly (half e) (half_above e z) (q_from ((x.high n).plus ∷ (x.high n).minus ∷ (x.low n).plus ∷ (x.low n).minus ∷ e ∷ half e ∷ [])
      (le (qn 1) (qv 0 +' (qv 3 +' qn 0)) (qv 2 +' qv 5 +' qv 1) ∷ le (qn 1) (qv 5 +' qv 5) (qv 4) ∷ []) (qv 0 +' (qv 3 +' qn 0) +' qv 5) (qv 2 +' qv 4 +' qv 1) tt (f.gap (half e) (half_above e z) n h).le (halves_in e));
}
