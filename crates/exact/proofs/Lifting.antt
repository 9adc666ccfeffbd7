-- Values with the same fractions, order by order; and that sums, products, quotients and differences of plain values, lifted, have the fractions
-- of the signed operations. So what is proved of plain values holds of the values of specs/Value.antt.
use Prim.Native.Nat.{ℕ, ◌<◌}
use mathlib.Core.List.{[], ◌∷◌}
use mathlib.Core.Bool.{Bool, true, false}
use lib.Dec.{T, leb, leb→le, le→leb}
use Rattle.numbers.specs.Fraction.{Frac, ◌≼◌, ◌≈◌, 0F, 1F, ◌⊕◌, ◌⊗◌, ◌÷◌, ◌∸◌}
use Rattle.numbers.specs.Signed.{Signed, ◌≈ₛ◌, of_frac, amount, neg_s, add_s, least4, most4}
use Rattle.numbers.proofs.Fractions.{refl≼, above, ÷≼}
use Rattle.numbers.proofs.FractionProver.{qv, qn, ◌+'◌, q_le, le, q_from}
use Rattle.numbers.proofs.Quotients.{÷-inv}
use Rattle.numbers.proofs.Subtraction.{less_on, less_least, less_exact}
use Rattle.numbers.proofs.SignedFractions.{refl≼ₛ, trans≼ₛ, add≼ₛ, neg≼ₛ, of_frac≼, trans≈ₛ, refl≈ₛ, add≈ₛ, mul≈ₛ, min≈ₛ, max≈ₛ, hull_low, hull_up, amount≼}
use Rattle.exact.specs.Value.{Value, AtMost, AtLeast, ◌⊴◌, Fine, and, -ᵥ◌, ◌+ᵥ◌, ◌·ᵥ◌, above?, reciprocal, ◌/ᵥ◌}
use Rattle.exact.proofs.Plain.{Plain, ◌⊴ₚ◌, and_0, and_1, both, known, add_p, mul_p, less_p, quot_p, above_0, known⊴ₚ, quot⊴ₚ}
use Rattle.exact.proofs.Values.{constant, lift}

infix 4 ◌≐◌
pub record ◌≐◌ (x y : Value) : Type 0 where
  pub there : (n : ℕ) → T (x.ok n) → T (y.ok n)
  pub back : (n : ℕ) → T (y.ok n) → T (x.ok n)
  pub lows : (n : ℕ) → T (x.ok n) → x.low n ≈ₛ y.low n
  pub highs : (n : ℕ) → T (x.ok n) → x.high n ≈ₛ y.high n

pub refl≐ : (x : Value) → x ≐ x
refl≐ x = record { there = λ n t. t; back = λ n t. t; lows = λ n t. refl≈ₛ (x.low n); highs = λ n t. refl≈ₛ (x.high n) }

pub trans≐ : {x y z : Value} → x ≐ y → y ≐ z → x ≐ z
trans≐ h k = record { there = λ n t. k.there n (h.there n t); back = λ n t. h.back n (k.back n t); lows = λ n t. trans≈ₛ (h.lows n t) (k.lows n (h.there n t)); highs = λ n t. trans≈ₛ (h.highs n t) (k.highs n (h.there n t)) }

pub sym≐ : {x y : Value} → x ≐ y → y ≐ x
sym≐ h = record { there = h.back; back = h.there; lows = λ n t. turned (h.lows n (h.back n t)); highs = λ n t. turned (h.highs n (h.back n t)) }
  where
    turned : {a b : Signed} → a ≈ₛ b → b ≈ₛ a
    turned e = record { to = e.from; from = e.to }

-- what holds of the fractions of one holds of the other
pub ⊴-same : {x x' y y' : Value} → x ≐ x' → y ≐ y' → x' ⊴ y' → x ⊴ y
⊴-same p q h = record { apart = λ n m s t. trans≼ₛ (p.lows n s).to (trans≼ₛ (h.apart n m (p.there n s) (q.there m t)) (q.highs m t).from) }

pub fine_same : {x y : Value} → x ≐ y → Fine y → Fine x
fine_same p f = record {
  order = f.order;
  bounds = λ e z n h. p.back n (f.bounds e z n h);
  gap = λ e z n h. trans≼ₛ (p.highs n (p.back n (f.bounds e z n h))).to (trans≼ₛ (f.gap e z n h) (add≼ₛ (p.lows n (p.back n (f.bounds e z n h))).from (refl≼ₛ (of_frac e))));
}

pub most_same : {a : Signed} {x y : Value} → x ≐ y → AtMost a y → AtMost a x
most_same p h = record { most = λ n t. trans≼ₛ (h.most n (p.there n t)) (p.highs n t).from }

pub least_same : {a : Signed} {x y : Value} → x ≐ y → AtLeast a y → AtLeast a x
least_same p h = record { least = λ n t. trans≼ₛ (p.lows n t).to (h.least n (p.there n t)) }

-- ---- the operations keep it
pub add≐ : {x x' y y' : Value} → x ≐ x' → y ≐ y' → (x +ᵥ y) ≐ (x' +ᵥ y')
add≐ {x} {x'} {y} {y'} p q = record {
  there = λ n t. both (x'.ok n) (y'.ok n) (p.there n (and_0 (x.ok n) (y.ok n) t)) (q.there n (and_1 (x.ok n) (y.ok n) t));
  back = λ n t. both (x.ok n) (y.ok n) (p.back n (and_0 (x'.ok n) (y'.ok n) t)) (q.back n (and_1 (x'.ok n) (y'.ok n) t));
  lows = λ n t. add≈ₛ (p.lows n (and_0 (x.ok n) (y.ok n) t)) (q.lows n (and_1 (x.ok n) (y.ok n) t));
  highs = λ n t. add≈ₛ (p.highs n (and_0 (x.ok n) (y.ok n) t)) (q.highs n (and_1 (x.ok n) (y.ok n) t));
}

pub neg≐ : {x y : Value} → x ≐ y → (-ᵥ x) ≐ (-ᵥ y)
neg≐ p = record { there = p.there; back = p.back; lows = λ n t. record { to = neg≼ₛ (p.highs n t).from; from = neg≼ₛ (p.highs n t).to }; highs = λ n t. record { to = neg≼ₛ (p.lows n t).from; from = neg≼ₛ (p.lows n t).to } }

pub mul≐ : {x x' y y' : Value} → x ≐ x' → y ≐ y' → (x ·ᵥ y) ≐ (x' ·ᵥ y')
mul≐ {x} {x'} {y} {y'} p q = record {
  there = λ n t. both (x'.ok n) (y'.ok n) (p.there n (and_0 (x.ok n) (y.ok n) t)) (q.there n (and_1 (x.ok n) (y.ok n) t));
  back = λ n t. both (x.ok n) (y.ok n) (p.back n (and_0 (x'.ok n) (y'.ok n) t)) (q.back n (and_1 (x'.ok n) (y'.ok n) t));
  lows = λ n t. low_is n (and_0 (x.ok n) (y.ok n) t) (and_1 (x.ok n) (y.ok n) t);
  highs = λ n t. up_is n (and_0 (x.ok n) (y.ok n) t) (and_1 (x.ok n) (y.ok n) t);
}
  where
    low_is : (n : ℕ) → T (x.ok n) → T (y.ok n) → least4 (x.low n) (x.high n) (y.low n) (y.high n) ≈ₛ least4 (x'.low n) (x'.high n) (y'.low n) (y'.high n)
    low_is n s t = min≈ₛ (min≈ₛ (mul≈ₛ (p.lows n s) (q.lows n t)) (mul≈ₛ (p.lows n s) (q.highs n t))) (min≈ₛ (mul≈ₛ (p.highs n s) (q.lows n t)) (mul≈ₛ (p.highs n s) (q.highs n t)))

    up_is : (n : ℕ) → T (x.ok n) → T (y.ok n) → most4 (x.low n) (x.high n) (y.low n) (y.high n) ≈ₛ most4 (x'.low n) (x'.high n) (y'.low n) (y'.high n)
    up_is n s t = max≈ₛ (max≈ₛ (mul≈ₛ (p.lows n s) (q.lows n t)) (mul≈ₛ (p.lows n s) (q.highs n t))) (max≈ₛ (mul≈ₛ (p.highs n s) (q.lows n t)) (mul≈ₛ (p.highs n s) (q.highs n t)))

-- ---- sums, products, differences and quotients of plain values
pub lift_add : (x y : Plain) → ((lift x) +ᵥ (lift y)) ≐ lift (add_p x y)
lift_add x y = record { there = λ n t. t; back = λ n t. t; lows = λ n t. go (x.low n) (y.low n); highs = λ n t. go (x.high n) (y.high n) }
  where
    go : (a b : Frac) → add_s (of_frac a) (of_frac b) ≈ₛ of_frac (a ⊕ b)
    go a b = record { to = record { le = q_le (a ∷ b ∷ []) (qv 0 +' qv 1 +' qn 0) (qv 0 +' qv 1 +' (qn 0 +' qn 0)) tt }; from = record { le = q_le (a ∷ b ∷ []) (qv 0 +' qv 1 +' (qn 0 +' qn 0)) (qv 0 +' qv 1 +' qn 0) tt } }

pub lift_mul : (x y : Plain) → x ⊴ₚ x → y ⊴ₚ y → ((lift x) ·ᵥ (lift y)) ≐ lift (mul_p x y)
lift_mul x y h k = record {
  there = λ n t. t;
  back = λ n t. t;
  lows = λ n t. hull_low (x.low n) (x.high n) (y.low n) (y.high n) (h.apart n n (and_0 (x.ok n) (y.ok n) t) (and_0 (x.ok n) (y.ok n) t)) (k.apart n n (and_1 (x.ok n) (y.ok n) t) (and_1 (x.ok n) (y.ok n) t));
  highs = λ n t. hull_up (x.low n) (x.high n) (y.low n) (y.high n) (h.apart n n (and_0 (x.ok n) (y.ok n) t) (and_0 (x.ok n) (y.ok n) t)) (k.apart n n (and_1 (x.ok n) (y.ok n) t) (and_1 (x.ok n) (y.ok n) t));
}

-- c − x, nothing being cut off
pub lift_less : (c : Frac) (x : Plain) → ((n : ℕ) → T (x.ok n) → x.high n ≼ c) → ((n : ℕ) → T (x.ok n) → x.low n ≼ c) → ((constant (of_frac c)) +ᵥ (-ᵥ (lift x))) ≐ lift (less_p c x)
lift_less c x h k = record { there = λ n t. t; back = λ n t. t; lows = λ n t. go (x.high n) (h n t); highs = λ n t. go (x.low n) (k n t) }
  where
    go : (a : Frac) → a ≼ c → add_s (of_frac c) (neg_s (of_frac a)) ≈ₛ of_frac (c ∸ a)
    go a p = record {
      to = record { le = q_from (c ∷ a ∷ (c ∸ a) ∷ []) (le (qn 1) (qv 0) (qv 1 +' qv 2) ∷ []) (qv 0 +' qn 0 +' qn 0) (qv 2 +' (qn 0 +' qv 1)) tt (less_on c a) };
      from = record { le = q_from (c ∷ a ∷ (c ∸ a) ∷ []) (le (qn 1) (qv 1 +' qv 2) (qv 0) ∷ []) (qv 2 +' (qn 0 +' qv 1)) (qv 0 +' qn 0 +' qn 0) tt (less_exact p) };
    }

-- c − x − y and c − (x + y)
pub less_twice : (c x y : Value) → ((c +ᵥ (-ᵥ x)) +ᵥ (-ᵥ y)) ≐ (c +ᵥ (-ᵥ (x +ᵥ y)))
less_twice c x y = record {
  there = λ n t. right (c.ok n) (x.ok n) (y.ok n) t;
  back = λ n t. left (c.ok n) (x.ok n) (y.ok n) t;
  lows = λ n t. go (c.low n) (x.high n) (y.high n);
  highs = λ n t. go (c.high n) (x.low n) (y.low n);
}
  where
    right : (a b d : Bool) → T (and (and a b) d) → T (and a (and b d))
    right true b d t = t
    right false b d t = t

    left : (a b d : Bool) → T (and a (and b d)) → T (and (and a b) d)
    left true b d t = t
    left false b d t = t

    go : (a b d : Signed) → add_s (add_s a (neg_s b)) (neg_s d) ≈ₛ add_s a (neg_s (add_s b d))
    go a b d = record {
      to = record { le = q_le (a.plus ∷ a.minus ∷ b.plus ∷ b.minus ∷ d.plus ∷ d.minus ∷ []) (qv 0 +' qv 3 +' qv 5 +' (qv 1 +' (qv 2 +' qv 4))) (qv 0 +' (qv 3 +' qv 5) +' (qv 1 +' qv 2 +' qv 4)) tt };
      from = record { le = q_le (a.plus ∷ a.minus ∷ b.plus ∷ b.minus ∷ d.plus ∷ d.minus ∷ []) (qv 0 +' (qv 3 +' qv 5) +' (qv 1 +' qv 2 +' qv 4)) (qv 0 +' qv 3 +' qv 5 +' (qv 1 +' (qv 2 +' qv 4))) tt };
    }

-- a quotient of two values not below 0
uncut : (b : Frac) → b ∸ 0F ≈ b
uncut b = record { to = less_least b 0F b (q_le (b ∷ []) (qv 0) (qn 0 +' qv 0) tt); from = q_from (b ∷ (b ∸ 0F) ∷ []) (le (qn 1) (qv 0) (qn 0 +' qv 1) ∷ []) (qv 0) (qv 1) tt (less_on b 0F) }

pub above_test : (b : Frac) → 0 < b.num → T (above? (of_frac b))
above_test b z = le→leb 1 (b ∸ 0F).num (above z (uncut b).from)

test_above : (b : Frac) → T (above? (of_frac b)) → T (leb 1 b.num)
test_above b t = le→leb 1 b.num (above (leb→le 1 (b ∸ 0F).num t) (uncut b).to)

module _ (x y : Plain) (h : x ⊴ₚ x) (k : y ⊴ₚ y) where
  lift_recip : reciprocal (lift y) ≐ lift (quot_p (known 1F) y)
  lift_recip = record {
    there = λ n t. both (y.ok n) (leb 1 (y.low n).num) (and_0 (y.ok n) (above? (of_frac (y.low n))) t) (test_above (y.low n) (and_1 (y.ok n) (above? (of_frac (y.low n))) t));
    back = λ n t. both (y.ok n) (above? (of_frac (y.low n))) (and_0 (y.ok n) (leb 1 (y.low n).num) t) (above_test (y.low n) (above_0 y n t));
    lows = λ n t. same (y.high n) (above (low_above n t) (k.apart n n (ok_at n t) (ok_at n t)));
    highs = λ n t. same (y.low n) (low_above n t);
  }
    where
      ok_at : (n : ℕ) → T (and (y.ok n) (above? (of_frac (y.low n)))) → T (y.ok n)
      ok_at n t = and_0 (y.ok n) (above? (of_frac (y.low n))) t

      low_above : (n : ℕ) → T (and (y.ok n) (above? (of_frac (y.low n)))) → 0 < (y.low n).num
      low_above n t = leb→le 1 (y.low n).num (test_above (y.low n) (and_1 (y.ok n) (above? (of_frac (y.low n))) t))

      same : (b : Frac) → 0 < b.num → of_frac (1F ÷ amount (of_frac b)) ≈ₛ of_frac (1F ÷ b)
      same b z = record { to = of_frac≼ (÷≼ z (refl≼ 1F) (uncut b).from); from = of_frac≼ (÷≼ (above z (uncut b).from) (refl≼ 1F) (uncut b).to) }

  -- the same of a divisor that has the fractions of y
  recip_same : {v : Value} → v ≐ lift y → reciprocal v ≐ reciprocal (lift y)
  recip_same {v} e = record {
    there = λ n t. both (y.ok n) (above? (of_frac (y.low n))) (e.there n (ok_at n t)) (le→leb 1 (amount (of_frac (y.low n))).num (low_above n t));
    back = λ n t. both (v.ok n) (above? (v.low n)) (e.back n (and_0 (y.ok n) (above? (of_frac (y.low n))) t))
        (le→leb 1 (amount (v.low n)).num (above (leb→le 1 (amount (of_frac (y.low n))).num (and_1 (y.ok n) (above? (of_frac (y.low n))) t)) (amount≼ (e.lows n (e.back n (and_0 (y.ok n) (above? (of_frac (y.low n))) t))).from)));
    lows = λ n t. same (v.high n) (of_frac (y.high n)) (e.highs n (ok_at n t)) (high_above n t);
    highs = λ n t. same (v.low n) (of_frac (y.low n)) (e.lows n (ok_at n t)) (low_above n t);
  }
    where
      ok_at : (n : ℕ) → T (and (v.ok n) (above? (v.low n))) → T (v.ok n)
      ok_at n t = and_0 (v.ok n) (above? (v.low n)) t

      low_above : (n : ℕ) → T (and (v.ok n) (above? (v.low n))) → 0 < (amount (of_frac (y.low n))).num
      low_above n t = above (leb→le 1 (amount (v.low n)).num (and_1 (v.ok n) (above? (v.low n)) t)) (amount≼ (e.lows n (ok_at n t)).to)

      high_above : (n : ℕ) → T (and (v.ok n) (above? (v.low n))) → 0 < (amount (of_frac (y.high n))).num
      high_above n t = above (low_above n t) (amount≼ (of_frac≼ (k.apart n n (e.there n (ok_at n t)) (e.there n (ok_at n t)))))

      same : (a b : Signed) → a ≈ₛ b → 0 < (amount b).num → of_frac (1F ÷ amount a) ≈ₛ of_frac (1F ÷ amount b)
      same a b e z = record { to = of_frac≼ (÷≼ z (refl≼ 1F) (amount≼ e.from)); from = of_frac≼ (÷≼ (above z (amount≼ e.from)) (refl≼ 1F) (amount≼ e.to)) }

  pub lift_quot : lift x /ᵥ lift y ≐ lift (quot_p x y)
  lift_quot = trans≐ (mul≐ (refl≐ (lift x)) lift_recip) (trans≐ (lift_mul x (quot_p (known 1F) y) h (quot⊴ₚ (known⊴ₚ (refl≼ 1F)) k)) (record {
    there = λ n t. t;
    back = λ n t. t;
    lows = λ n t. same (x.low n) (y.high n) (above (above_0 y n (and_1 (x.ok n) (and (y.ok n) (leb 1 (y.low n).num)) t)) (k.apart n n (ok_at n t) (ok_at n t)));
    highs = λ n t. same (x.high n) (y.low n) (above_0 y n (and_1 (x.ok n) (and (y.ok n) (leb 1 (y.low n).num)) t));
  }))
    where
      ok_at : (n : ℕ) → T (and (x.ok n) (and (y.ok n) (leb 1 (y.low n).num))) → T (y.ok n)
      ok_at n t = and_0 (y.ok n) (leb 1 (y.low n).num) (and_1 (x.ok n) (and (y.ok n) (leb 1 (y.low n).num)) t)

      same : (a b : Frac) → 0 < b.num → of_frac (a ⊗ (1F ÷ b)) ≈ₛ of_frac (a ÷ b)
      same a b z = record { to = of_frac≼ (÷-inv a b z).from; from = of_frac≼ (÷-inv a b z).to }

  -- of values that have the fractions of x and of y
  pub quot_same : {u v : Value} → u ≐ lift x → v ≐ lift y → u /ᵥ v ≐ lift (quot_p x y)
  quot_same e f = trans≐ (mul≐ e (recip_same f)) lift_quot
