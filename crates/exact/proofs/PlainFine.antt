-- Plain values whose gaps vanish, and that sums, products, quotients and c − x keep this.
use Prim.Native.Nat.{ℕ, ◌+◌, ◌≤◌, ◌<◌}
use mathlib.Core.List.{[], ◌∷◌}
use lib.Dec.{T, leb, le→leb}
use native.Mathlib.Nat.{mul-pos}
use native.Mathlib.Omega.{arith}
use Rattle.numbers.specs.Fraction.{Frac, ◌≼◌, 1F, ◌⊕◌, ◌⊗◌, ◌÷◌, ◌∸◌}
use Rattle.numbers.proofs.Fractions.{refl≼, trans≼, add≼, above, one_above, ÷-times}
use Rattle.numbers.proofs.FractionProver.{qv, qn, ◌+'◌, ◌*'◌, q_le, le, eq, q_from, q_cancel}
use Rattle.numbers.proofs.Subtraction.{less_on, less_least}
use Rattle.numbers.proofs.Strict.{half, half_above, halves_in, portion, portion_above, portion_in}
use Rattle.exact.specs.Value.{and}
use Rattle.exact.proofs.Plain.{Plain, ◌⊴ₚ◌, both, known, add_p, mul_p, less_p, quot_p}

pub record FineP (x : Plain) : Type 0 where
  pub order : (e : Frac) → 0 < e.num → ℕ
  pub bounds : (e : Frac) (z : 0 < e.num) (n : ℕ) → order e z ≤ n → T (x.ok n)
  pub gap : (e : Frac) (z : 0 < e.num) (n : ℕ) → order e z ≤ n → x.high n ≼ x.low n ⊕ e

-- ---- closure
pub fine_p_known : (q : Frac) → FineP (known q)
fine_p_known q = record { order = λ e z. 0; bounds = λ e z n h. tt; gap = λ e z n h. q_le (q ∷ e ∷ []) (qv 0) (qv 0 +' qv 1) tt }

add_near : (A a B b h : Frac) → A ≼ a ⊕ h → B ≼ b ⊕ h → A ⊕ B ≼ a ⊕ b ⊕ (h ⊕ h)
add_near A a B b h p q = q_from (A ∷ a ∷ B ∷ b ∷ h ∷ []) (le (qn 1) (qv 0) (qv 1 +' qv 4) ∷ le (qn 1) (qv 2) (qv 3 +' qv 4) ∷ []) (qv 0 +' qv 2) (qv 1 +' qv 3 +' (qv 4 +' qv 4)) tt p q

pub fine_p_add : {x y : Plain} → FineP x → FineP y → FineP (add_p x y)
fine_p_add {x} {y} f g = record {
  order = λ e z. f.order (half e) (half_above e z) + g.order (half e) (half_above e z);
  bounds = λ e z n h. both (x.ok n) (y.ok n) (f.bounds (half e) (half_above e z) n (omega arith)) (g.bounds (half e) (half_above e z) n (omega arith));
  gap = λ e z n h. trans≼ (add_near (x.high n) (x.low n) (y.high n) (y.low n) (half e) (f.gap (half e) (half_above e z) n (omega arith)) (g.gap (half e) (half_above e z) n (omega arith))) (add≼ (refl≼ (x.low n ⊕ y.low n)) (halves_in e));
}

less_near : (c A a e : Frac) → A ≼ a ⊕ e → c ∸ a ≼ (c ∸ A) ⊕ e
less_near c A a e h = less_least c a ((c ∸ A) ⊕ e) (q_from (c ∷ A ∷ a ∷ e ∷ (c ∸ A) ∷ []) (le (qn 1) (qv 0) (qv 1 +' qv 4) ∷ le (qn 1) (qv 1) (qv 2 +' qv 3) ∷ []) (qv 0) (qv 2 +' (qv 4 +' qv 3)) tt (less_on c A) h)

pub fine_p_less : {x : Plain} (c : Frac) → FineP x → FineP (less_p c x)
fine_p_less {x} c f = record { order = f.order; bounds = f.bounds; gap = λ e z n h. less_near c (x.high n) (x.low n) e (f.gap e z n h) }

-- a bound of all lower fractions, and from an order on of the upper ones
module _ (x : Plain) (s : x ⊴ₚ x) (f : FineP x) where
  abbrev pub start : ℕ
  start = f.order 1F one_above

  abbrev pub cap : Frac
  cap = x.high start

  pub low_cap : (n : ℕ) → T (x.ok n) → x.low n ≼ cap
  low_cap n t = s.apart n start t (f.bounds 1F one_above start (omega arith))

  pub up_cap : (n : ℕ) → start ≤ n → x.high n ≼ cap ⊕ 1F
  up_cap n h = trans≼ (f.gap 1F one_above n h) (add≼ (low_cap n (f.bounds 1F one_above n h)) (refl≼ 1F))

mul_near : (A a α B b β M K h : Frac) → A ≼ a ⊕ α → B ≼ b ⊕ β → a ≼ M → B ≼ K → α ⊗ K ≼ h → β ⊗ M ≼ h → A ⊗ B ≼ a ⊗ b ⊕ (h ⊕ h)
mul_near A a α B b β M K h p q r s u v = q_from (A ∷ a ∷ α ∷ B ∷ b ∷ β ∷ M ∷ K ∷ h ∷ [])
    (le (qv 3) (qv 0) (qv 1 +' qv 2) ∷ le (qv 1) (qv 3) (qv 4 +' qv 5) ∷ le (qv 5) (qv 1) (qv 6) ∷ le (qv 2) (qv 3) (qv 7) ∷ le (qn 1) (qv 2 *' qv 7) (qv 8) ∷ le (qn 1) (qv 5 *' qv 6) (qv 8) ∷ [])
    (qv 0 *' qv 3) (qv 1 *' qv 4 +' (qv 8 +' qv 8)) tt p q r s u v

pub fine_p_mul : {x y : Plain} → x ⊴ₚ x → y ⊴ₚ y → FineP x → FineP y → FineP (mul_p x y)
fine_p_mul {x} {y} s t f g = record {
  order = λ e z. f.order (α e) (αz e z) + g.order (β e) (βz e z) + start y t g;
  bounds = λ e z n h. both (x.ok n) (y.ok n) (f.bounds (α e) (αz e z) n (omega arith)) (g.bounds (β e) (βz e z) n (omega arith));
  gap = λ e z n h. trans≼ (mul_near (x.high n) (x.low n) (α e) (y.high n) (y.low n) (β e) (cap x s f) (cap y t g ⊕ 1F) (half e)
      (f.gap (α e) (αz e z) n (omega arith)) (g.gap (β e) (βz e z) n (omega arith)) (low_cap x s f n (f.bounds (α e) (αz e z) n (omega arith))) (up_cap y t g n (omega arith))
      (portion_in (half e) (cap y t g ⊕ 1F)) (portion_in (half e) (cap x s f))) (add≼ (refl≼ (x.low n ⊗ y.low n)) (halves_in e));
}
  where
    α : Frac → Frac
    α e = portion (half e) (cap y t g ⊕ 1F)

    αz : (e : Frac) → 0 < e.num → 0 < (α e).num
    αz e z = portion_above (half e) (cap y t g ⊕ 1F) (half_above e z)

    β : Frac → Frac
    β e = portion (half e) (cap x s f)

    βz : (e : Frac) → 0 < e.num → 0 < (β e).num
    βz e z = portion_above (half e) (cap x s f) (half_above e z)

quot_near : (A a α B b β M c h : Frac) (zb : 0 < b.num) (zB : 0 < B.num) → A ≼ a ⊕ α → B ≼ b ⊕ β → a ≼ M → c ≼ b → b ≼ B → α ≼ h ⊗ c → β ⊗ M ≼ h ⊗ c ⊗ c → (A ÷ b) ≼ (a ÷ B) ⊕ (h ⊕ h)
quot_near A a α B b β M c h zb zB p q r s d u v = q_cancel (A ∷ a ∷ α ∷ B ∷ b ∷ β ∷ M ∷ c ∷ h ∷ (A ÷ b) ∷ (a ÷ B) ∷ [])
    (eq (qv 3) (qn 0) (qv 9 *' qv 4) (qv 0) ∷ le (qv 3) (qv 0) (qv 1 +' qv 2) ∷ le (qv 1) (qv 3) (qv 4 +' qv 5) ∷ le (qv 5) (qv 1) (qv 6) ∷ le (qn 1) (qv 5 *' qv 6) (qv 8 *' qv 7 *' qv 7) ∷ le (qv 8 *' qv 7) (qv 7) (qv 4) ∷ le (qv 8 *' qv 4) (qv 7) (qv 4) ∷ le (qv 8 *' qv 4) (qv 4) (qv 3)
    ∷ le (qv 3) (qv 2) (qv 8 *' qv 7) ∷ le (qv 8 *' qv 3) (qv 7) (qv 4) ∷ eq (qn 0) (qv 4) (qv 10 *' qv 3) (qv 1) ∷ [])
    (qv 4 *' qv 3) (qv 9) (qv 10 +' (qv 8 +' qv 8)) tt (mul-pos zb zB)
    (÷-times A b zb) p q r v s s d u s (÷-times a B zB)

module _ (x y : Plain) (s : x ⊴ₚ x) (t : y ⊴ₚ y) (f : FineP x) (g : FineP y) (c : Frac) (zc : 0 < c.num) (lower : (n : ℕ) → T (y.ok n) → c ≼ y.low n) where
  abbrev γ : Frac → Frac
  γ e = half e ⊗ c

  abbrev γz : (e : Frac) → 0 < e.num → 0 < (γ e).num
  γz e z = mul-pos (half_above e z) zc

  abbrev δ : Frac → Frac
  δ e = portion (half e ⊗ c ⊗ c) (cap x s f)

  abbrev δz : (e : Frac) → 0 < e.num → 0 < (δ e).num
  δz e z = portion_above (half e ⊗ c ⊗ c) (cap x s f) (mul-pos (mul-pos (half_above e z) zc) zc)

  -- every order of both gives bounds of the quotient
  pub quot_ok : (n : ℕ) → T (x.ok n) → T (y.ok n) → T ((quot_p x y).ok n)
  quot_ok n a b = both (x.ok n) (and (y.ok n) (leb 1 (y.low n).num)) a (both (y.ok n) (leb 1 (y.low n).num) b (le→leb 1 (y.low n).num (above zc (lower n b))))

  near_at : (e : Frac) (z : 0 < e.num) (n : ℕ) → f.order (γ e) (γz e z) + g.order (δ e) (δz e z) ≤ n → x.high n ÷ y.low n ≼ x.low n ÷ y.high n ⊕ e
  near_at e z n h = go (f.bounds (γ e) (γz e z) n (omega arith)) (g.bounds (δ e) (δz e z) n (omega arith))
    where
      go : T (x.ok n) → T (y.ok n) → x.high n ÷ y.low n ≼ x.low n ÷ y.high n ⊕ e
      go a b = trans≼ (quot_near (x.high n) (x.low n) (γ e) (y.high n) (y.low n) (δ e) (cap x s f) c (half e) (above zc (lower n b)) (above zc (trans≼ (lower n b) (t.apart n n b b)))
          (f.gap (γ e) (γz e z) n (omega arith)) (g.gap (δ e) (δz e z) n (omega arith)) (low_cap x s f n a) (lower n b) (t.apart n n b b) (refl≼ (half e ⊗ c)) (portion_in (half e ⊗ c ⊗ c) (cap x s f)))
          (add≼ (refl≼ (x.low n ÷ y.high n)) (halves_in e))

  pub fine_p_quot : FineP (quot_p x y)
  fine_p_quot = record {
    order = λ e z. f.order (γ e) (γz e z) + g.order (δ e) (δz e z);
    bounds = λ e z n h. quot_ok n (f.bounds (γ e) (γz e z) n (omega arith)) (g.bounds (δ e) (δz e z) n (omega arith));
    gap = near_at;
  }
