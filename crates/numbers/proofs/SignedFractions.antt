-- The laws of signed fractions: order, sums, negation; the lesser and the greater; products by sign, and the hull of four products.
use Prim.Native.Nat.{◌<◌}
use mathlib.Core.List.{[], ◌∷◌}
use mathlib.Core.Bool.{Bool, true, false, not}
use mathlib.Core.Logic.{◌⊎◌, inl, inr}
use lib.Dec.{T}
use Rattle.numbers.specs.Fraction.{Frac, ◌≼◌, ◌≺◌, ◌⊕◌, ◌⊗◌, 0F}
use Rattle.numbers.specs.Signed.{Signed, ◌≼ₛ◌, ◌≺ₛ◌, ◌≈ₛ◌, ◌≼ₛ?◌, of_frac, amount, neg_s, add_s, mul_s, max_s, min_s, least4, most4}
use Rattle.numbers.proofs.Fractions.{refl≼, add≼, mul≼, cancel⊕, test_is, test_not, either}
use Rattle.numbers.proofs.FractionProver.{qv, qn, qf, ◌+'◌, ◌*'◌, q_le, q_from, le}
use Rattle.numbers.proofs.Subtraction.{less_on, less_least, rearrange}
use Rattle.numbers.proofs.Strict.{below_not, below_of, le_strict, strict_le, within}

pub refl≼ₛ : (a : Signed) → a ≼ₛ a
refl≼ₛ a = record { le = refl≼ _ }

pub trans≼ₛ : {a b c : Signed} → a ≼ₛ b → b ≼ₛ c → a ≼ₛ c
trans≼ₛ {a} {b} {c} h k = record {
  le = q_from (a.plus ∷ a.minus ∷ b.plus ∷ b.minus ∷ c.plus ∷ c.minus ∷ [])
      (le (qn 1) (qv 0 +' qv 3) (qv 2 +' qv 1) ∷ le (qn 1) (qv 2 +' qv 5) (qv 4 +' qv 3) ∷ []) (qv 0 +' qv 5) (qv 4 +' qv 1) tt h.le k.le;
}

pub add≼ₛ : {a b c d : Signed} → a ≼ₛ b → c ≼ₛ d → add_s a c ≼ₛ add_s b d
add≼ₛ {a} {b} {c} {d} h k = record {
  le = q_from (a.plus ∷ a.minus ∷ b.plus ∷ b.minus ∷ c.plus ∷ c.minus ∷ d.plus ∷ d.minus ∷ [])
      (le (qn 1) (qv 0 +' qv 3) (qv 2 +' qv 1) ∷ le (qn 1) (qv 4 +' qv 7) (qv 6 +' qv 5) ∷ []) (qv 0 +' qv 4 +' (qv 3 +' qv 7)) (qv 2 +' qv 6 +' (qv 1 +' qv 5)) tt h.le k.le;
}

pub neg≼ₛ : {a b : Signed} → a ≼ₛ b → neg_s b ≼ₛ neg_s a
neg≼ₛ {a} {b} h = record { le = q_from (a.plus ∷ a.minus ∷ b.plus ∷ b.minus ∷ []) (le (qn 1) (qv 0 +' qv 3) (qv 2 +' qv 1) ∷ []) (qv 3 +' qv 0) (qv 1 +' qv 2) tt h.le }

pub of_frac≼ : {a b : Frac} → a ≼ b → of_frac a ≼ₛ of_frac b
of_frac≼ h = record { le = add≼ h (refl≼ 0F) }

pub of_frac_order : (a b : Frac) → of_frac a ≼ₛ of_frac b → a ≼ b
of_frac_order a b h = cancel⊕ 0F h.le

pub withinₛ : (a b : Signed) → ((e : Frac) → 0 < e.num → a ≼ₛ add_s b (of_frac e)) → a ≼ₛ b
withinₛ a b h = record {
  le = within (a.plus ⊕ b.minus) (b.plus ⊕ a.minus) (λ e z. q_from (a.plus ∷ a.minus ∷ b.plus ∷ b.minus ∷ e ∷ [])
      (le (qn 1) (qv 0 +' (qv 3 +' qn 0)) (qv 2 +' qv 4 +' qv 1) ∷ []) (qv 0 +' qv 3) (qv 2 +' qv 1 +' qv 4) tt (h e z).le);
}

-- ---- strictly below
pub of_frac≺ : {a b : Frac} → a ≺ b → of_frac a ≺ₛ of_frac b
of_frac≺ {a} {b} h = record { lt = le_strict (q_le (a ∷ []) (qv 0 +' qn 0) (qv 0) tt) (strict_le h (q_le (b ∷ []) (qv 0) (qv 0 +' qn 0) tt)) }

pub of_frac_below : (a b : Frac) → of_frac a ≺ₛ of_frac b → a ≺ b
of_frac_below a b h = le_strict (q_le (a ∷ []) (qv 0) (qv 0 +' qn 0) tt) (strict_le h.lt (q_le (b ∷ []) (qv 0 +' qn 0) (qv 0) tt))

pub le_strictₛ : {a b c : Signed} → a ≼ₛ b → b ≺ₛ c → a ≺ₛ c
le_strictₛ {a} {b} {c} h k = record { lt = below_of (λ r. below_not k.lt (trans≼ₛ {a = c} {b = a} {c = b} (record { le = r }) h).le) }

pub strict_leₛ : {a b c : Signed} → a ≺ₛ b → b ≼ₛ c → a ≺ₛ c
strict_leₛ {a} {b} {c} h k = record { lt = below_of (λ r. below_not h.lt (trans≼ₛ {a = b} {b = c} {c = a} k (record { le = r })).le) }

-- ---- the greater and the lesser
order_is : (a b : Signed) → T (a ≼ₛ? b) → a ≼ₛ b
order_is a b h = record { le = test_is (a.plus ⊕ b.minus) (b.plus ⊕ a.minus) h }

order_not : (a b : Signed) → T (not (a ≼ₛ? b)) → b ≼ₛ a
order_not a b h = record { le = test_not (a.plus ⊕ b.minus) (b.plus ⊕ a.minus) h }

pub max_left : (a b : Signed) → a ≼ₛ max_s a b
unfolding max_s
max_left a b = go (a ≼ₛ? b) (order_is a b)
  where
    go : (o : Bool) → (T o → a ≼ₛ b) → ◌≼ₛ◌ a (elim o [ true ↦ b | false ↦ a ])
    go true h = h tt
    go false h = refl≼ₛ a

pub max_right : (a b : Signed) → b ≼ₛ max_s a b
unfolding max_s
max_right a b = go (a ≼ₛ? b) (order_not a b)
  where
    go : (o : Bool) → (T (not o) → b ≼ₛ a) → ◌≼ₛ◌ b (elim o [ true ↦ b | false ↦ a ])
    go true h = refl≼ₛ b
    go false h = h tt

pub max_is : (P : Signed → Type 0) (a b : Signed) → P a → P b → P (max_s a b)
unfolding max_s
max_is P a b p q = go (a ≼ₛ? b)
  where
    go : (o : Bool) → P (elim o [ true ↦ b | false ↦ a ])
    go true = q
    go false = p

pub min_left : (a b : Signed) → min_s a b ≼ₛ a
unfolding min_s
min_left a b = go (a ≼ₛ? b) (order_not a b)
  where
    go : (o : Bool) → (T (not o) → b ≼ₛ a) → ◌≼ₛ◌ (elim o [ true ↦ a | false ↦ b ]) a
    go true h = refl≼ₛ a
    go false h = h tt

pub min_right : (a b : Signed) → min_s a b ≼ₛ b
unfolding min_s
min_right a b = go (a ≼ₛ? b) (order_is a b)
  where
    go : (o : Bool) → (T o → a ≼ₛ b) → ◌≼ₛ◌ (elim o [ true ↦ a | false ↦ b ]) b
    go true h = h tt
    go false h = refl≼ₛ b

pub min_is : (P : Signed → Type 0) (a b : Signed) → P a → P b → P (min_s a b)
unfolding min_s
min_is P a b p q = go (a ≼ₛ? b)
  where
    go : (o : Bool) → P (elim o [ true ↦ a | false ↦ b ])
    go true = p
    go false = q

-- ---- products by sign: (b − a)·η is not below 0 where η is not
mul_up : (a b η : Signed) → a ≼ₛ b → η.minus ≼ η.plus → mul_s a η ≼ₛ mul_s b η
mul_up a b η h k = record {
  le = q_from (a.plus ∷ a.minus ∷ b.plus ∷ b.minus ∷ η.plus ∷ η.minus ∷ [])
      (le (qn 1) ((qv 0 +' qv 3) *' qv 4 +' (qv 2 +' qv 1) *' qv 5) ((qv 0 +' qv 3) *' qv 5 +' (qv 2 +' qv 1) *' qv 4) ∷ [])
      (qv 0 *' qv 4 +' qv 1 *' qv 5 +' (qv 2 *' qv 5 +' qv 3 *' qv 4)) (qv 2 *' qv 4 +' qv 3 *' qv 5 +' (qv 0 *' qv 5 +' qv 1 *' qv 4)) tt
      (rearrange {h = a.plus ⊕ b.minus} {H = b.plus ⊕ a.minus} {b = η.minus} {a = η.plus} h.le k);
}

mul_down : (a b η : Signed) → a ≼ₛ b → η.plus ≼ η.minus → mul_s b η ≼ₛ mul_s a η
mul_down a b η h k = record {
  le = q_from (a.plus ∷ a.minus ∷ b.plus ∷ b.minus ∷ η.plus ∷ η.minus ∷ [])
      (le (qn 1) ((qv 0 +' qv 3) *' qv 5 +' (qv 2 +' qv 1) *' qv 4) ((qv 0 +' qv 3) *' qv 4 +' (qv 2 +' qv 1) *' qv 5) ∷ [])
      (qv 2 *' qv 4 +' qv 3 *' qv 5 +' (qv 0 *' qv 5 +' qv 1 *' qv 4)) (qv 0 *' qv 4 +' qv 1 *' qv 5 +' (qv 2 *' qv 5 +' qv 3 *' qv 4)) tt
      (rearrange {h = a.plus ⊕ b.minus} {H = b.plus ⊕ a.minus} {b = η.plus} {a = η.minus} h.le k);
}

pub swap : (a b : Signed) → mul_s a b ≼ₛ mul_s b a
swap a b = record { le = q_le (a.plus ∷ a.minus ∷ b.plus ∷ b.minus ∷ []) (qv 0 *' qv 2 +' qv 1 *' qv 3 +' (qv 2 *' qv 1 +' qv 3 *' qv 0)) (qv 2 *' qv 0 +' qv 3 *' qv 1 +' (qv 0 *' qv 3 +' qv 1 *' qv 2)) tt }

pub times_up : (c a b : Signed) → c.minus ≼ c.plus → a ≼ₛ b → mul_s c a ≼ₛ mul_s c b
times_up c a b k h = trans≼ₛ (swap c a) (trans≼ₛ (mul_up a b c h k) (swap b c))

pub times_down : (c a b : Signed) → c.plus ≼ c.minus → a ≼ₛ b → mul_s c b ≼ₛ mul_s c a
times_down c a b k h = trans≼ₛ (swap c b) (trans≼ₛ (mul_down a b c h k) (swap a c))

-- between two ends
pub record In (l u x : Signed) : Type 0 where
  pub from : l ≼ₛ x
  pub to : x ≼ₛ u

-- a product lies between the products with the first factor's ends
ends_up : (l u x η : Signed) → In l u x → (b : Signed) → mul_s l η ≼ₛ b → mul_s u η ≼ₛ b → mul_s x η ≼ₛ b
ends_up l u x η i b p q = go (either η.minus η.plus)
  where
    go : η.minus ≼ η.plus ⊎ η.plus ≼ η.minus → mul_s x η ≼ₛ b
    go (inl k) = trans≼ₛ (mul_up x u η i.to k) q
    go (inr k) = trans≼ₛ (mul_down l x η i.from k) p

ends_down : (l u x η : Signed) → In l u x → (b : Signed) → b ≼ₛ mul_s l η → b ≼ₛ mul_s u η → b ≼ₛ mul_s x η
ends_down l u x η i b p q = go (either η.minus η.plus)
  where
    go : η.minus ≼ η.plus ⊎ η.plus ≼ η.minus → b ≼ₛ mul_s x η
    go (inl k) = trans≼ₛ p (mul_up l x η i.from k)
    go (inr k) = trans≼ₛ q (mul_down x u η i.to k)

-- every product of points between the ends lies between the least and the greatest of the four products of the ends
pub below_most : (l u c d x y : Signed) → In l u x → In c d y → mul_s x y ≼ₛ most4 l u c d
below_most l u c d x y i j = ends_up l u x y i (most4 l u c d)
    (trans≼ₛ (swap l y) (ends_up c d y l j (most4 l u c d) (trans≼ₛ (swap c l) (trans≼ₛ (max_left (mul_s l c) (mul_s l d)) (max_left (max_s (mul_s l c) (mul_s l d)) (max_s (mul_s u c) (mul_s u d)))))
    (trans≼ₛ (swap d l) (trans≼ₛ (max_right (mul_s l c) (mul_s l d)) (max_left (max_s (mul_s l c) (mul_s l d)) (max_s (mul_s u c) (mul_s u d)))))))
    (trans≼ₛ (swap u y) (ends_up c d y u j (most4 l u c d) (trans≼ₛ (swap c u) (trans≼ₛ (max_left (mul_s u c) (mul_s u d)) (max_right (max_s (mul_s l c) (mul_s l d)) (max_s (mul_s u c) (mul_s u d)))))
    (trans≼ₛ (swap d u) (trans≼ₛ (max_right (mul_s u c) (mul_s u d)) (max_right (max_s (mul_s l c) (mul_s l d)) (max_s (mul_s u c) (mul_s u d)))))))

pub above_least : (l u c d x y : Signed) → In l u x → In c d y → least4 l u c d ≼ₛ mul_s x y
above_least l u c d x y i j = ends_down l u x y i (least4 l u c d)
    (trans≼ₛ (ends_down c d y l j (least4 l u c d) (trans≼ₛ (min_left (min_s (mul_s l c) (mul_s l d)) (min_s (mul_s u c) (mul_s u d))) (trans≼ₛ (min_left (mul_s l c) (mul_s l d)) (swap l c)))
    (trans≼ₛ (min_left (min_s (mul_s l c) (mul_s l d)) (min_s (mul_s u c) (mul_s u d))) (trans≼ₛ (min_right (mul_s l c) (mul_s l d)) (swap l d)))) (swap y l))
    (trans≼ₛ (ends_down c d y u j (least4 l u c d) (trans≼ₛ (min_right (min_s (mul_s l c) (mul_s l d)) (min_s (mul_s u c) (mul_s u d))) (trans≼ₛ (min_left (mul_s u c) (mul_s u d)) (swap u c)))
    (trans≼ₛ (min_right (min_s (mul_s l c) (mul_s l d)) (min_s (mul_s u c) (mul_s u d))) (trans≼ₛ (min_right (mul_s u c) (mul_s u d)) (swap u d)))) (swap y u))

-- ---- how far two products lie apart: x·δ ≤ M·β for |x| ≤ M, |δ| ≤ β, from (M − x)(β + δ) and (M + x)(β − δ)
pub record Size (M : Frac) (x : Signed) : Type 0 where
  pub below : x.plus ≼ x.minus ⊕ M
  pub over : x.minus ≼ x.plus ⊕ M

-- x1·y1 ≤ x2·y2 + M·β + α·K, where x1, x2 differ by at most α, y1, y2 by at most β, |x1| ≤ M and |y2| ≤ K
product_near : (x1 x2 y1 y2 : Signed) (α β M K : Frac) → x1 ≼ₛ add_s x2 (of_frac α) → x2 ≼ₛ add_s x1 (of_frac α) → y1 ≼ₛ add_s y2 (of_frac β) → y2 ≼ₛ add_s y1 (of_frac β) → Size M x1 → Size K y2 → mul_s x1 y1 ≼ₛ add_s (mul_s x2 y2) (of_frac (β ⊗ M ⊕ α ⊗ K))
product_near x1 x2 y1 y2 α β M K p p' q q' s t = record {
  le = q_from (x1.plus ∷ x1.minus ∷ x2.plus ∷ x2.minus ∷ y1.plus ∷ y1.minus ∷ y2.plus ∷ y2.minus ∷ α ∷ β ∷ M ∷ K ∷ [])
      (le (qf 1 2) (qv 0 *' (qv 7 +' qv 4 +' qv 9) +' (qv 1 +' qv 10) *' (qv 6 +' qv 5)) (qv 0 *' (qv 6 +' qv 5) +' (qv 1 +' qv 10) *' (qv 7 +' qv 4 +' qv 9))
      ∷ le (qf 1 2) (qv 1 *' (qv 6 +' qv 5 +' qv 9) +' (qv 0 +' qv 10) *' (qv 4 +' qv 7)) (qv 1 *' (qv 4 +' qv 7) +' (qv 0 +' qv 10) *' (qv 6 +' qv 5 +' qv 9))
      ∷ le (qf 1 2) (qv 6 *' (qv 3 +' qv 0 +' qv 8) +' (qv 7 +' qv 11) *' (qv 2 +' qv 1)) (qv 6 *' (qv 2 +' qv 1) +' (qv 7 +' qv 11) *' (qv 3 +' qv 0 +' qv 8))
      ∷ le (qf 1 2) (qv 7 *' (qv 2 +' qv 1 +' qv 8) +' (qv 6 +' qv 11) *' (qv 0 +' qv 3)) (qv 7 *' (qv 0 +' qv 3) +' (qv 6 +' qv 11) *' (qv 2 +' qv 1 +' qv 8)) ∷ [])
      (qv 0 *' qv 4 +' qv 1 *' qv 5 +' (qv 2 *' qv 7 +' qv 3 *' qv 6 +' qn 0)) (qv 2 *' qv 6 +' qv 3 *' qv 7 +' (qv 9 *' qv 10 +' qv 8 *' qv 11) +' (qv 0 *' qv 5 +' qv 1 *' qv 4)) tt
      (rearrange {h = x1.plus} {H = x1.minus ⊕ M} {b = y2.plus ⊕ y1.minus} {a = y2.minus ⊕ y1.plus ⊕ β} s.below (flip y2 y1 β q'))
      (rearrange {h = x1.minus} {H = x1.plus ⊕ M} {b = y1.plus ⊕ y2.minus} {a = y2.plus ⊕ y1.minus ⊕ β} s.over (flat y1 y2 β q))
      (rearrange {h = y2.plus} {H = y2.minus ⊕ K} {b = x2.plus ⊕ x1.minus} {a = x2.minus ⊕ x1.plus ⊕ α} t.below (flip x2 x1 α p'))
      (rearrange {h = y2.minus} {H = y2.plus ⊕ K} {b = x1.plus ⊕ x2.minus} {a = x2.plus ⊕ x1.minus ⊕ α} t.over (flat x1 x2 α p));
}
  where
    flat : (a b : Signed) (e : Frac) → a ≼ₛ add_s b (of_frac e) → a.plus ⊕ b.minus ≼ b.plus ⊕ a.minus ⊕ e
    flat a b e h = q_from (a.plus ∷ a.minus ∷ b.plus ∷ b.minus ∷ e ∷ []) (le (qn 1) (qv 0 +' (qv 3 +' qn 0)) (qv 2 +' qv 4 +' qv 1) ∷ []) (qv 0 +' qv 3) (qv 2 +' qv 1 +' qv 4) tt h.le

    flip : (a b : Signed) (e : Frac) → a ≼ₛ add_s b (of_frac e) → a.plus ⊕ b.minus ≼ a.minus ⊕ b.plus ⊕ e
    flip a b e h = q_from (a.plus ∷ a.minus ∷ b.plus ∷ b.minus ∷ e ∷ []) (le (qn 1) (qv 0 +' (qv 3 +' qn 0)) (qv 2 +' qv 4 +' qv 1) ∷ []) (qv 0 +' qv 3) (qv 1 +' qv 2 +' qv 4) tt h.le

module _ (l u c d : Signed) (α β M K : Frac) (gx : u ≼ₛ add_s l (of_frac α)) (gy : d ≼ₛ add_s c (of_frac β)) (bx : (x : Signed) → In l u x → Size M x) (by : (y : Signed) → In c d y → Size K y) where
  -- two points between ends within e of each other
  span : (l u : Signed) (e : Frac) → u ≼ₛ add_s l (of_frac e) → (x x' : Signed) → In l u x → In l u x' → x ≼ₛ add_s x' (of_frac e)
  span l u e g x x' i j = trans≼ₛ i.to (trans≼ₛ g (add≼ₛ j.from (refl≼ₛ (of_frac e))))

  pub corners : (x x' y y' : Signed) → In l u x → In l u x' → In c d y → In c d y' → mul_s x y ≼ₛ add_s (mul_s x' y') (of_frac (β ⊗ M ⊕ α ⊗ K))
  corners x x' y y' i i' j j' = product_near x x' y y' α β M K (span l u α gx x x' i i') (span l u α gx x' x i' i) (span c d β gy y y' j j') (span c d β gy y' y j' j) (bx x i) (by y' j')

  pub hull_near : l ≼ₛ u → c ≼ₛ d → most4 l u c d ≼ₛ add_s (least4 l u c d) (of_frac (β ⊗ M ⊕ α ⊗ K))
  hull_near h k = max_is P (max_s (mul_s l c) (mul_s l d)) (max_s (mul_s u c) (mul_s u d)) (max_is P (mul_s l c) (mul_s l d) (each l c in_l in_c) (each l d in_l in_d)) (max_is P (mul_s u c) (mul_s u d) (each u c in_u in_c) (each u d in_u in_d))
    where
      P : Signed → Type 0
      P m = m ≼ₛ add_s (least4 l u c d) (of_frac (β ⊗ M ⊕ α ⊗ K))

      in_l : In l u l
      in_l = record { from = refl≼ₛ l; to = h }

      in_u : In l u u
      in_u = record { from = h; to = refl≼ₛ u }

      in_c : In c d c
      in_c = record { from = refl≼ₛ c; to = k }

      in_d : In c d d
      in_d = record { from = k; to = refl≼ₛ d }

      each : (x y : Signed) → In l u x → In c d y → mul_s x y ≼ₛ add_s (least4 l u c d) (of_frac (β ⊗ M ⊕ α ⊗ K))
      each x y i j = min_is R (min_s (mul_s l c) (mul_s l d)) (min_s (mul_s u c) (mul_s u d)) (min_is R (mul_s l c) (mul_s l d) (corners x l y c i in_l j in_c) (corners x l y d i in_l j in_d)) (min_is R (mul_s u c) (mul_s u d) (corners x u y c i in_u j in_c) (corners x u y d i in_u j in_d))
        where
          R : Signed → Type 0
          R m = mul_s x y ≼ₛ add_s m (of_frac (β ⊗ M ⊕ α ⊗ K))

-- ---- equality of values
pub trans≈ₛ : {a b c : Signed} → a ≈ₛ b → b ≈ₛ c → a ≈ₛ c
trans≈ₛ h k = record { to = trans≼ₛ h.to k.to; from = trans≼ₛ k.from h.from }

pub refl≈ₛ : (a : Signed) → a ≈ₛ a
refl≈ₛ a = record { to = refl≼ₛ a; from = refl≼ₛ a }

pub add≈ₛ : {a b c d : Signed} → a ≈ₛ b → c ≈ₛ d → add_s a c ≈ₛ add_s b d
add≈ₛ h k = record { to = add≼ₛ h.to k.to; from = add≼ₛ h.from k.from }

mul≼-same : (a b c d : Signed) → a ≈ₛ b → c ≈ₛ d → mul_s a c ≼ₛ mul_s b d
mul≼-same a b c d h k = record {
  le = q_from (a.plus ∷ a.minus ∷ b.plus ∷ b.minus ∷ c.plus ∷ c.minus ∷ d.plus ∷ d.minus ∷ [])
      (le (qv 4) (qv 0 +' qv 3) (qv 2 +' qv 1) ∷ le (qv 5) (qv 2 +' qv 1) (qv 0 +' qv 3) ∷ le (qv 2) (qv 4 +' qv 7) (qv 6 +' qv 5) ∷ le (qv 3) (qv 6 +' qv 5) (qv 4 +' qv 7) ∷ [])
      (qv 0 *' qv 4 +' qv 1 *' qv 5 +' (qv 2 *' qv 7 +' qv 3 *' qv 6)) (qv 2 *' qv 6 +' qv 3 *' qv 7 +' (qv 0 *' qv 5 +' qv 1 *' qv 4)) tt h.to.le h.from.le k.to.le k.from.le;
}

pub mul≈ₛ : {a b c d : Signed} → a ≈ₛ b → c ≈ₛ d → mul_s a c ≈ₛ mul_s b d
mul≈ₛ {a} {b} {c} {d} h k = record { to = mul≼-same a b c d h k; from = mul≼-same b a d c (record { to = h.from; from = h.to }) (record { to = k.from; from = k.to }) }

pub min≈ₛ : {a b c d : Signed} → a ≈ₛ b → c ≈ₛ d → min_s a c ≈ₛ min_s b d
min≈ₛ {a} {b} {c} {d} h k = record {
  to = min_is (λ m. min_s a c ≼ₛ m) b d (trans≼ₛ (min_left a c) h.to) (trans≼ₛ (min_right a c) k.to);
  from = min_is (λ m. min_s b d ≼ₛ m) a c (trans≼ₛ (min_left b d) h.from) (trans≼ₛ (min_right b d) k.from);
}

pub max≈ₛ : {a b c d : Signed} → a ≈ₛ b → c ≈ₛ d → max_s a c ≈ₛ max_s b d
max≈ₛ {a} {b} {c} {d} h k = record {
  to = max_is (λ m. m ≼ₛ max_s b d) a c (trans≼ₛ h.to (max_left b d)) (trans≼ₛ k.to (max_right b d));
  from = max_is (λ m. m ≼ₛ max_s a c) b d (trans≼ₛ h.from (max_left a c)) (trans≼ₛ k.from (max_right a c));
}

product_of : (a b : Frac) → mul_s (of_frac a) (of_frac b) ≈ₛ of_frac (a ⊗ b)
product_of a b = record {
  to = record { le = q_le (a ∷ b ∷ []) (qv 0 *' qv 1 +' qn 0 *' qn 0 +' qn 0) (qv 0 *' qv 1 +' (qv 0 *' qn 0 +' qn 0 *' qv 1)) tt };
  from = record { le = q_le (a ∷ b ∷ []) (qv 0 *' qv 1 +' (qv 0 *' qn 0 +' qn 0 *' qv 1)) (qv 0 *' qv 1 +' qn 0 *' qn 0 +' qn 0) tt };
}

-- the four products of ends not below 0: the least is that of the lower ends, the greatest that of the upper ends
pub hull_low : (l u c d : Frac) → l ≼ u → c ≼ d → least4 (of_frac l) (of_frac u) (of_frac c) (of_frac d) ≈ₛ of_frac (l ⊗ c)
hull_low l u c d h k = record {
  to = trans≼ₛ (min_left (min_s (mul_s (of_frac l) (of_frac c)) (mul_s (of_frac l) (of_frac d))) (min_s (mul_s (of_frac u) (of_frac c)) (mul_s (of_frac u) (of_frac d)))) (trans≼ₛ (min_left (mul_s (of_frac l) (of_frac c)) (mul_s (of_frac l) (of_frac d))) (product_of l c).to);
  from = min_is P (min_s (mul_s (of_frac l) (of_frac c)) (mul_s (of_frac l) (of_frac d))) (min_s (mul_s (of_frac u) (of_frac c)) (mul_s (of_frac u) (of_frac d))) (min_is P (mul_s (of_frac l) (of_frac c)) (mul_s (of_frac l) (of_frac d)) (at l c (refl≼ l) (refl≼ c)) (at l d (refl≼ l) k)) (min_is P (mul_s (of_frac u) (of_frac c)) (mul_s (of_frac u) (of_frac d)) (at u c h (refl≼ c)) (at u d h k));
}
  where
    P : Signed → Type 0
    P m = of_frac (l ⊗ c) ≼ₛ m

    at : (a b : Frac) → l ≼ a → c ≼ b → of_frac (l ⊗ c) ≼ₛ mul_s (of_frac a) (of_frac b)
    at a b p q = trans≼ₛ (of_frac≼ (mul≼ p q)) (product_of a b).from

pub hull_up : (l u c d : Frac) → l ≼ u → c ≼ d → most4 (of_frac l) (of_frac u) (of_frac c) (of_frac d) ≈ₛ of_frac (u ⊗ d)
hull_up l u c d h k = record {
  to = max_is P (max_s (mul_s (of_frac l) (of_frac c)) (mul_s (of_frac l) (of_frac d))) (max_s (mul_s (of_frac u) (of_frac c)) (mul_s (of_frac u) (of_frac d))) (max_is P (mul_s (of_frac l) (of_frac c)) (mul_s (of_frac l) (of_frac d)) (at l c h k) (at l d h (refl≼ d))) (max_is P (mul_s (of_frac u) (of_frac c)) (mul_s (of_frac u) (of_frac d)) (at u c (refl≼ u) k) (at u d (refl≼ u) (refl≼ d)));
  from = trans≼ₛ (product_of u d).from (trans≼ₛ (max_right (mul_s (of_frac u) (of_frac c)) (mul_s (of_frac u) (of_frac d))) (max_right (max_s (mul_s (of_frac l) (of_frac c)) (mul_s (of_frac l) (of_frac d))) (max_s (mul_s (of_frac u) (of_frac c)) (mul_s (of_frac u) (of_frac d)))));
}
  where
    P : Signed → Type 0
    P m = m ≼ₛ of_frac (u ⊗ d)

    at : (a b : Frac) → a ≼ u → b ≼ d → mul_s (of_frac a) (of_frac b) ≼ₛ of_frac (u ⊗ d)
    at a b p q = trans≼ₛ (product_of a b).to (of_frac≼ (mul≼ p q))

-- ---- what of it is above 0
pub amount≼ : {a b : Signed} → a ≼ₛ b → amount a ≼ amount b
amount≼ {a} {b} k = less_least a.plus a.minus (amount b) (q_from (a.plus ∷ a.minus ∷ b.plus ∷ b.minus ∷ amount b ∷ [])
    (le (qn 1) (qv 0 +' qv 3) (qv 2 +' qv 1) ∷ le (qn 1) (qv 2) (qv 3 +' qv 4) ∷ []) (qv 0) (qv 1 +' qv 4) tt k.le (less_on b.plus b.minus))
