-- β, the surface factor, the attainment and their product in whole numbers, each against the plain value made from any plain values that its pairs hold.
use Prim.Native.Nat.{ℕ, ◌+◌, ◌*◌, ◌/◌, ◌-◌, ◌≤◌, ◌<◌, min}
use mathlib.Core.Path.{◌≡◌, refl}
use mathlib.Core.Bool.{Bool, true, false}
use mathlib.Core.List.{[], ◌∷◌}
use lib.Dec.{T, leb, ltb}
use borrow.Author.Tests.{ltb-true, ltb-false}
use native.Mathlib.Nat.{div-mul-le_self, lt-div-mul-add}
use native.Mathlib.Omega.{arith}
use Rattle.numbers.specs.Fraction.{Frac, ◌≼◌, ◌≈◌, ◌per◌, whole, 0F, 1F, ◌⊕◌, ◌⊗◌, ◌÷◌, ◌∸◌}
use Rattle.numbers.specs.Rounding.{ceil_n}
use Rattle.numbers.proofs.Fractions.{trans≼, zero≼, above, ≼÷, ÷≼of}
use Rattle.numbers.proofs.FractionProver.{qv, qn, ◌+'◌, ◌*'◌, q_from, q_eqfrom, q_le, le, eq}
use Rattle.numbers.proofs.Subtraction.{less_on, less_least, less_exact}
use Rattle.numbers.proofs.Rounding.{ceil_n_high}
use Rattle.bounds.specs.Pair.{Pair, add_p, less_p, scaled_p, quotient_p, times_p, divided_p, at_most_p}
use Rattle.exact.specs.Value.{and}
use Rattle.exact.proofs.Plain.{Plain, ◌⊴ₚ◌, and_0, and_1, known, mul_p, quot_p, above_0}
use Rattle.exact.proofs.Plain as plain
use Rattle.exact.proofs.Pairs.{around_known, around_wider, around_add, around_mul, around_less, around_quot}
use Rattle.model.specs.Scale.{one, million, beta_one, surface_one, beta_to_surface, surface_to_share, attainment_one}
use Rattle.model.specs.Share.{beta, surface_factor, attainment_of, share_of}
use Rattle.model.specs.Width.{Under}
use Rattle.model.proofs.Share.{lost_at_most_all}
use Rattle.model.specs.Encloses.{unit}
use Rattle.model.proofs.Enclosure.Units.{of_lesser}
use Rattle.model.proofs.Enclosure.Encloses.{Holds}

-- ---- β, a quotient of a value by one that is no less
quotient_low : (a b : ℕ) → 0 < b → (a * beta_one / b) per beta_one ≼ unit a ÷ unit b
quotient_low a b z = ≼÷ ((a * beta_one / b) per beta_one) (unit b) (unit a) z (omega (arith, div-mul-le_self (a * beta_one) b))

quotient_over : (a b : ℕ) → 0 < b → unit a ÷ unit b ≼ (a * beta_one / b + 1) per beta_one
quotient_over a b z = ÷≼of ((a * beta_one / b + 1) per beta_one) (unit b) (unit a) z (omega (arith, lt-div-mul-add {a = a * beta_one} {b = b} z))

quotient_at_most_one : {x y : Plain} → x ⊴ₚ y → y ⊴ₚ y → (n : ℕ) → T ((quot_p x y).ok n) → (quot_p x y).low n ≼ 1F
quotient_at_most_one {x} {y} h k n t = ÷≼of 1F (y.high n) (x.low n) (above (above_0 y n divides) (k.apart n n divisor divisor))
    (trans≼ (h.apart n n (and_0 (x.ok n) (and (y.ok n) (leb 1 (y.low n).num)) t) divisor) (q_le (y.high n ∷ []) (qv 0) (qn 1 *' qv 0) tt))
  where
    divides : T (and (y.ok n) (leb 1 (y.low n).num))
    divides = and_1 (x.ok n) (and (y.ok n) (leb 1 (y.low n).num)) t

    divisor : T (y.ok n)
    divisor = and_0 (y.ok n) (leb 1 (y.low n).num) divides

pub beta_holds : {j n : Pair} {x y : Plain} → x ⊴ₚ y → y ⊴ₚ y → 0 < n.low → n.low ≤ n.high → Holds one j x → Holds one n y → Holds beta_one (beta j n) (quot_p x y)
unfolding beta at_most_p quotient_p
beta_holds {j} {n} {x} {y} h k z o p q =
    let r = around_quot z p q in
    record {
      most = λ m t. trans≼ (trans≼ (lesser (j.low * beta_one / n.high)) (quotient_low j.low n.high (omega arith))) (r.most m t);
      least = λ m t. of_lesser (λ e. (quot_p x y).low m ≼ e per beta_one) (j.high * beta_one / n.low + 1) beta_one
          (trans≼ (r.least m t) (quotient_over j.high n.low z)) (trans≼ (quotient_at_most_one h k m t) (omega arith));
    }
  where
    lesser : (a : ℕ) → min a beta_one per beta_one ≼ a per beta_one
    lesser a = omega arith

-- ---- 1 − κ + κ·x, which the model takes as 1 − κ·(1 − x)
both_parts : (a : ℕ) → a ≤ beta_one → a per beta_one ⊕ (beta_one - a) per beta_one ≈ 1F
both_parts a h = omega arith

product_low : (a v : ℕ) → (a * v / beta_to_surface) per surface_one ≼ a per million ⊗ v per beta_one
product_low a v = omega arith

product_over : (a v : ℕ) → a per million ⊗ v per beta_one ≼ (a * v / beta_to_surface + 1) per surface_one
product_over a v = omega arith

module _ (κ : Frac) where
  less_than_one : (m k b : ℕ) → b ≤ beta_one → κ ≼ k per million → k per million ⊗ (beta_one - b) per beta_one ≼ m per surface_one →
      (surface_one - min m surface_one) per surface_one ≼ (1F ∸ κ) ⊕ κ ⊗ b per beta_one
  less_than_one m k b h i p = go (ltb m surface_one) refl
    where
      inside : m ≤ surface_one → (surface_one - min m surface_one) per surface_one ⊕ m per surface_one ≼ 1F
      inside l = omega arith

      go : (o : Bool) → ltb m surface_one ≡ o → (surface_one - min m surface_one) per surface_one ≼ (1F ∸ κ) ⊕ κ ⊗ b per beta_one
      go true e = let l = ltb-true m surface_one e in q_from ((1F ∸ κ) ∷ κ ∷ (b per beta_one) ∷ ((surface_one - min m surface_one) per surface_one) ∷ (m per surface_one) ∷ (k per million) ∷ ((beta_one - b) per beta_one) ∷ [])
          (le (qn 1) (qv 3 +' qv 4) (qn 1) ∷ le (qn 1) (qv 5 *' qv 6) (qv 4) ∷ le (qv 6) (qv 1) (qv 5) ∷ le (qn 1) (qn 1) (qv 1 +' qv 0) ∷ eq (qn 0) (qv 1) (qv 2 +' qv 6) (qn 1) ∷ [])
          (qv 3) (qv 0 +' qv 1 *' qv 2) tt
          (inside (omega arith)) p i (less_on 1F κ) (both_parts b h)
      go false e = let l = ltb-false m surface_one e in trans≼ {b = 0F} (omega arith) (zero≼ _)

  more_than_one : (m k b : ℕ) → b ≤ beta_one → κ ≼ 1F → k per million ≼ κ → m per surface_one ≼ k per million ⊗ (beta_one - b) per beta_one →
      (1F ∸ κ) ⊕ κ ⊗ b per beta_one ≼ (surface_one - min m surface_one) per surface_one
  more_than_one m k b h o i p = q_from (((surface_one - min m surface_one) per surface_one) ∷ (1F ∸ κ) ∷ κ ∷ (b per beta_one) ∷ ((beta_one - b) per beta_one) ∷ (k per million) ∷ (m per surface_one) ∷ [])
      (le (qn 1) (qv 2 +' qv 1) (qn 1) ∷ eq (qv 2) (qn 0) (qv 3 +' qv 4) (qn 1) ∷ le (qv 4) (qv 5) (qv 2) ∷ le (qn 1) (qv 6) (qv 5 *' qv 4) ∷ le (qn 1) (qn 1) (qv 0 +' qv 6) ∷ [])
      (qv 1 +' qv 2 *' qv 3) (qv 0) tt
      (less_exact o) (both_parts b h) i p whole_again
    where
      whole_again : 1F ≼ (surface_one - min m surface_one) per surface_one ⊕ m per surface_one
      whole_again = omega arith

  pub surface_holds : {k b : Pair} {x : Plain} → κ ≼ 1F → k.low per million ≼ κ → κ ≼ k.high per million → Under beta_one b → Holds beta_one b x →
      Holds surface_one (surface_factor k b) (plain.add_p (known (1F ∸ κ)) (mul_p (known κ) x))
  unfolding surface_factor less_p at_most_p scaled_p
  surface_holds {k} {b} {x} o from to u h =
      around_wider (less_than_one (k.high * (beta_one - b.low) / beta_to_surface + 1) k.high b.low u.low to (product_over k.high (beta_one - b.low)))
      (more_than_one (k.low * (beta_one - b.high) / beta_to_surface) k.low b.high u.high o from (product_low k.low (beta_one - b.high)))
      (around_add (around_known (1F ∸ κ)) (around_mul (around_known κ) h))

-- ---- 1 − w·x − (1 − w)·y
module _ (w : ℕ) (h : w ≤ million) where
  rest_of_weight : 1F ∸ w per million ≈ (million - w) per million
  rest_of_weight = record {
    to = less_least 1F (w per million) ((million - w) per million) (omega arith);
    from = q_from ((1F ∸ w per million) ∷ ((million - w) per million) ∷ (w per million) ∷ []) (le (qn 1) (qv 2 +' qv 1) (qn 1) ∷ le (qn 1) (qn 1) (qv 2 +' qv 0) ∷ []) (qv 1) (qv 0) tt (sums) (less_on 1F (w per million));
  }
    where
      sums : w per million ⊕ (million - w) per million ≼ 1F
      sums = omega arith

  -- the three in units of 1/attainmentOne
  lag_is : (a f s : ℕ) → unit a ⊕ (w per million ⊗ unit f ⊕ (million - w) per million ⊗ unit s) ≈ whole (a * million + (f * w + s * (million - w))) ⊗ 1 per attainment_one
  lag_is a f s = q_eqfrom (unit a ∷ (w per million ⊗ unit f) ∷ ((million - w) per million ⊗ unit s) ∷ whole (a * million + (f * w + s * (million - w))) ∷ (1 per attainment_one) ∷ whole (a * million) ∷ whole (f * w) ∷ whole (s * (million - w)) ∷ [])
      (eq (qn 1) (qn 0) (qv 0) (qv 5 *' qv 4) ∷ eq (qn 1) (qn 0) (qv 1) (qv 6 *' qv 4) ∷ eq (qn 1) (qn 0) (qv 2) (qv 7 *' qv 4) ∷ eq (qn 0) (qv 4) (qv 3) (qv 5 +' (qv 6 +' qv 7)) ∷ [])
      (qv 0 +' (qv 1 +' qv 2)) (qv 3 *' qv 4) tt tt
      (omega arith) (part w f) (part (million - w) s) (whole_sum (a * million) (f * w) (s * (million - w)))
    where
      part : (v f : ℕ) → v per million ⊗ unit f ≈ whole (f * v) ⊗ 1 per attainment_one
      part v f = omega arith

      whole_sum : (x y z : ℕ) → whole (x + (y + z)) ≈ whole x ⊕ (whole y ⊕ whole z)
      whole_sum x y z = omega arith

  lag_under : (a f s : ℕ) → a * million + (f * w + s * (million - w)) ≤ attainment_one → unit a ⊕ (w per million ⊗ unit f ⊕ (million - w) per million ⊗ unit s) ≼ 1F
  lag_under a f s l = trans≼ (lag_is a f s).to (go (a * million + (f * w + s * (million - w))) l)
    where
      go : (n : ℕ) → n ≤ attainment_one → whole n ⊗ 1 per attainment_one ≼ 1F
      go n l = omega arith

  lag_over : (a f s : ℕ) → attainment_one ≤ a * million + (f * w + s * (million - w)) → 1F ≼ unit a ⊕ (w per million ⊗ unit f ⊕ (million - w) per million ⊗ unit s)
  lag_over a f s l = trans≼ (go (a * million + (f * w + s * (million - w))) l) (lag_is a f s).from
    where
      go : (n : ℕ) → attainment_one ≤ n → 1F ≼ whole n ⊗ 1 per attainment_one
      go n l = omega arith

  attained_low : (a f s : ℕ) → a * million + (f * w + s * (million - w)) ≤ attainment_one → unit a ≼ 1F ∸ (w per million ⊗ unit f ⊕ (1F ∸ w per million) ⊗ unit s)
  attained_low a f s l = q_from ((1F ∸ (w per million ⊗ unit f ⊕ (1F ∸ w per million) ⊗ unit s)) ∷ unit a ∷ (w per million) ∷ unit f ∷ (1F ∸ w per million) ∷ unit s ∷ ((million - w) per million) ∷ [])
      (le (qn 1) (qn 1) (qv 2 *' qv 3 +' qv 4 *' qv 5 +' qv 0) ∷ le (qv 5) (qv 4) (qv 6) ∷ le (qn 1) (qv 1 +' (qv 2 *' qv 3 +' qv 6 *' qv 5)) (qn 1) ∷ []) (qv 1) (qv 0) tt
      (less_on 1F (w per million ⊗ unit f ⊕ (1F ∸ w per million) ⊗ unit s)) rest_of_weight.to (lag_under a f s l)

  attained_high : (a f s : ℕ) → attainment_one ≤ a * million + (f * w + s * (million - w)) → 1F ∸ (w per million ⊗ unit f ⊕ (1F ∸ w per million) ⊗ unit s) ≼ unit a
  attained_high a f s l = less_least 1F (w per million ⊗ unit f ⊕ (1F ∸ w per million) ⊗ unit s) (unit a)
      (q_from ((w per million) ∷ unit f ∷ (1F ∸ w per million) ∷ unit s ∷ unit a ∷ ((million - w) per million) ∷ [])
      (le (qv 3) (qv 5) (qv 2) ∷ le (qn 1) (qn 1) (qv 4 +' (qv 0 *' qv 1 +' qv 5 *' qv 3)) ∷ []) (qn 1) (qv 0 *' qv 1 +' qv 2 *' qv 3 +' qv 4) tt
      rest_of_weight.from (lag_over a f s l))

  pub attainment_holds : {p q : Pair} {x y : Plain} → Under one p → Under one q → Holds one p x → Holds one q y →
      Holds one (attainment_of w p q) (plain.less_p 1F (plain.add_p (mul_p (known (w per million)) x) (mul_p (known (1F ∸ w per million)) y)))
  unfolding attainment_of add_p times_p less_p divided_p
  attainment_holds {p} {q} {x} {y} u v i j =
      let v' = million - w in
      let lost = p.high * w + q.high * v' in
      let left = p.low * w + q.low * v' in
      let most = lost_at_most_all w p.high q.high h u.high v.high in
      around_wider
      (attained_low ((attainment_one - lost) / million) p.high q.high (omega (arith, most)))
      (attained_high (ceil_n (attainment_one - left) million) p.low q.low (omega (arith, ceil_n_high {d = million} (omega arith) (attainment_one - left))))
      (around_less 1F (around_add (around_mul (around_known (w per million)) i) (around_mul (around_known (1F ∸ w per million)) j)))

-- ---- the product
share_low : (a b : ℕ) → min (a * b / surface_to_share) million per million ≼ a per surface_one ⊗ unit b
share_low a b = omega arith

share_over : (a b : ℕ) → a per surface_one ⊗ unit b ≼ (a * b / surface_to_share + 1) per million
share_over a b = omega arith

-- where the product is at most 1
pub share_holds : {s a : Pair} {x y : Plain} → ((n : ℕ) → T ((mul_p x y).ok n) → (mul_p x y).low n ≼ 1F) → Holds surface_one s x → Holds one a y → Holds million (share_of s a) (mul_p x y)
unfolding share_of at_most_p scaled_p
share_holds {s} {a} {x} {y} o h k =
    let r = around_mul h k in
    record {
      most = λ n t. trans≼ (share_low s.low a.low) (r.most n t);
      least = λ n t. of_lesser (λ e. (mul_p x y).low n ≼ e per million) (s.high * a.high / surface_to_share + 1) million
          (trans≼ (r.least n t) (share_over s.high a.high)) (trans≼ (o n t) (omega arith));
    }
