-- Linear arithmetic on the kit's integers by omega, each being a difference of two natural numbers, and the laws of ring and order that the
-- kit lacks. `X-lin` says in natural numbers what X says in integers.
use mathlib.Core.Path.{◌≡◌, refl, sym, ap}
use mathlib.Core.Bool.{Bool, true, false, cond}
use mathlib.Core.Logic.{◌⊎◌, inl, inr, ⊎_elim}
use Prim.Native.Nat.{ℕ, zero, suc, ◌+◌, ◌*◌, ◌≤◌, ◌<◌}
use native.Mathlib.Omega.{arith}
use native.Mathlib.Nat.{lt_of_mul-lt-mul_right, mul-le-mul_left, mul-add, add-mul, mul_assoc}
use lib.Dec.{T, ltb, leb→le, le→leb, ltb→lt, lt→ltb}
use lib.IntN.{ℤ, pos, negsuc, neg_ℤ, nat_abs, sub_ℕ, suc_ℤ, ◌+ℤ◌, ◌-ℤ◌, ◌*ℤ◌, *ℤ_comm}
use lib.Signed.{◌≤ℤ◌, ◌<ℤ◌, le_z, lt_z, ≤ℤ_refl}
use borrow.Author.Tests.{ltb-true, ltb-false, leb-false}
use Rattle.std.specs.Int.{int_min, int_max}
use Rattle.numbers.specs.Integer.{up, dn, lesser, greater}

-- ---- differences of natural numbers

pub one_part : (z : ℤ) → (up z ≡ 0) ⊎ (dn z ≡ 0)
one_part (pos n) = inr refl
one_part (negsuc n) = inl refl

le_parts : (a b : ℤ) → T (le_z a b) → up a + dn b ≤ up b + dn a
le_parts (pos a) (pos b) h = omega (arith, leb→le a b h)
le_parts (pos a) (negsuc b) h = absurd h
le_parts (negsuc a) (pos b) h = omega arith
le_parts (negsuc a) (negsuc b) h = omega (arith, leb→le b a h)

pub le_lin : {a b : ℤ} → a ≤ℤ b → up a + dn b ≤ up b + dn a
le_lin {a} {b} h = le_parts a b h.le

pub lin_le : (a b : ℤ) → up a + dn b ≤ up b + dn a → a ≤ℤ b
lin_le (pos a) (pos b) h = record { le = le→leb a b (omega arith) }
lin_le (pos a) (negsuc b) h = absurd (omega arith)
lin_le (negsuc a) (pos b) h = record { le = tt }
lin_le (negsuc a) (negsuc b) h = record { le = le→leb b a (omega arith) }

lt_parts : (a b : ℤ) → T (lt_z a b) → up a + dn b < up b + dn a
lt_parts (pos a) (pos b) h = omega (arith, ltb→lt a b h)
lt_parts (pos a) (negsuc b) h = absurd h
lt_parts (negsuc a) (pos b) h = omega arith
lt_parts (negsuc a) (negsuc b) h = omega (arith, ltb→lt b a h)

pub lt_lin : {a b : ℤ} → a <ℤ b → up a + dn b < up b + dn a
lt_lin {a} {b} h = lt_parts a b h.lt

pub lin_lt : (a b : ℤ) → up a + dn b < up b + dn a → a <ℤ b
lin_lt (pos a) (pos b) h = record { lt = lt→ltb a b (omega arith) }
lin_lt (pos a) (negsuc b) h = absurd (omega arith)
lin_lt (negsuc a) (pos b) h = record { lt = tt }
lin_lt (negsuc a) (negsuc b) h = record { lt = lt→ltb b a (omega arith) }

pub lin_eq : (a b : ℤ) → up a + dn b ≡ up b + dn a → a ≡ b
lin_eq (pos a) (pos b) h = ap pos (omega arith)
lin_eq (pos a) (negsuc b) h = absurd (omega arith)
lin_eq (negsuc a) (pos b) h = absurd (omega arith)
lin_eq (negsuc a) (negsuc b) h = ap negsuc (omega arith)

sub_lin : (a b : ℕ) (t : Bool) → ltb a b ≡ t → up (sub_ℕ a b) + b ≡ dn (sub_ℕ a b) + a
sub_lin a b true e = rw e (omega (arith, ltb-true a b e))
sub_lin a b false e = rw e (omega (arith, ltb-false a b e))

pub add_lin : (a b : ℤ) → up (a +ℤ b) + (dn a + dn b) ≡ dn (a +ℤ b) + (up a + up b)
add_lin (pos a) (pos b) = omega arith
add_lin (pos a) (negsuc b) = omega (arith, sub_lin a (suc b) (ltb a (suc b)) refl)
add_lin (negsuc a) (pos b) = omega (arith, sub_lin b (suc a) (ltb b (suc a)) refl)
add_lin (negsuc a) (negsuc b) = omega arith

pub neg_up : (a : ℤ) → up (neg_ℤ a) ≡ dn a
neg_up (pos zero) = refl
neg_up (pos (suc n)) = refl
neg_up (negsuc n) = refl

pub neg_dn : (a : ℤ) → dn (neg_ℤ a) ≡ up a
neg_dn (pos zero) = refl
neg_dn (pos (suc n)) = refl
neg_dn (negsuc n) = refl

pub suc_lin : (z : ℤ) → up (suc_ℤ z) + dn z ≡ suc (up z + dn (suc_ℤ z))
suc_lin (pos n) = omega arith
suc_lin (negsuc zero) = refl
suc_lin (negsuc (suc n)) = omega arith

pub mul_lin : (a b : ℤ) → up (a *ℤ b) + (up a * dn b + dn a * up b) ≡ dn (a *ℤ b) + (up a * up b + dn a * dn b)
mul_lin (pos a) (pos b) = omega arith
mul_lin (pos a) (negsuc b) = omega (arith, neg_up (pos (a * suc b)), neg_dn (pos (a * suc b)))
mul_lin (negsuc a) (pos b) = omega (arith, neg_up (pos (suc a * b)), neg_dn (pos (suc a * b)))
mul_lin (negsuc a) (negsuc b) = omega arith

-- ---- sizes

pub size_lin : (z : ℤ) → nat_abs z ≡ up z + dn z
size_lin (pos n) = omega arith
size_lin (negsuc n) = omega arith

pub size_neg : (z : ℤ) → nat_abs (neg_ℤ z) ≡ nat_abs z
size_neg (pos zero) = refl
size_neg (pos (suc n)) = refl
size_neg (negsuc n) = refl

pub size_mul : (a b : ℤ) → nat_abs (a *ℤ b) ≡ nat_abs a * nat_abs b
size_mul (pos a) (pos b) = refl
size_mul (pos a) (negsuc b) = size_neg (pos (a * suc b))
size_mul (negsuc a) (pos b) = size_neg (pos (suc a * b))
size_mul (negsuc a) (negsuc b) = refl

pub size_add : (a b : ℤ) → nat_abs (a +ℤ b) ≤ nat_abs a + nat_abs b
size_add a b =
    ⊎_elim (λ p. omega (arith, add_lin a b, size_lin a, size_lin b, size_lin (a +ℤ b)))
    (λ p. omega (arith, add_lin a b, size_lin a, size_lin b, size_lin (a +ℤ b)))
    (one_part (a +ℤ b))

-- ---- the ring

pub *ℤ_assoc : (a b c : ℤ) → (a *ℤ b) *ℤ c ≡ a *ℤ (b *ℤ c)
*ℤ_assoc a b c =
    lin_eq ((a *ℤ b) *ℤ c) (a *ℤ (b *ℤ c))
    (omega (
      arith,
      mul_lin (a *ℤ b) c,
      mul_lin a (b *ℤ c),
      simp (add-mul, mul_assoc) at (ap (λ (n : ℕ). n * up c) (mul_lin a b)),
      simp (add-mul, mul_assoc) at (ap (λ (n : ℕ). n * dn c) (mul_lin a b)),
      simp mul-add at (ap (λ (n : ℕ). up a * n) (mul_lin b c)),
      simp mul-add at (ap (λ (n : ℕ). dn a * n) (mul_lin b c)),
    ))

pub *ℤ_distrib : (a b c : ℤ) → a *ℤ (b +ℤ c) ≡ (a *ℤ b) +ℤ (a *ℤ c)
*ℤ_distrib a b c =
    lin_eq (a *ℤ (b +ℤ c)) ((a *ℤ b) +ℤ (a *ℤ c))
    (omega (
      arith,
      mul_lin a (b +ℤ c),
      mul_lin a b,
      mul_lin a c,
      add_lin (a *ℤ b) (a *ℤ c),
      simp mul-add at (ap (λ (n : ℕ). up a * n) (add_lin b c)),
      simp mul-add at (ap (λ (n : ℕ). dn a * n) (add_lin b c)),
    ))

pub negℤ-*ℤ : (a b : ℤ) → neg_ℤ a *ℤ b ≡ neg_ℤ (a *ℤ b)
negℤ-*ℤ a b =
    lin_eq (neg_ℤ a *ℤ b) (neg_ℤ (a *ℤ b))
    (omega (arith, rw (neg_up a, neg_dn a) at (mul_lin (neg_ℤ a) b), mul_lin a b, neg_up (a *ℤ b), neg_dn (a *ℤ b)))

-- ---- the order

-- a test that holds, and one that does not
pub le_z_true : {a b : ℤ} → le_z a b ≡ true → a ≤ℤ b
le_z_true e = record { le = rw e tt }

pub le_z_false : (a b : ℤ) → le_z a b ≡ false → b <ℤ a
le_z_false (pos a) (pos b) e = lin_lt (pos b) (pos a) (omega (arith, leb-false a b e))
le_z_false (pos a) (negsuc b) e = lin_lt (negsuc b) (pos a) (omega arith)
le_z_false (negsuc a) (pos b) e = let z : ◌≡◌ {A = ℕ} 0 1 = cc in absurd (omega arith)
le_z_false (negsuc a) (negsuc b) e = lin_lt (negsuc b) (negsuc a) (omega (arith, leb-false b a e))

pub ≤ℤ_trans : {a b c : ℤ} → a ≤ℤ b → b ≤ℤ c → a ≤ℤ c
≤ℤ_trans {a} {b} {c} h k = lin_le a c (omega (arith, le_lin h, le_lin k))

pub ≤ℤ_antisym : {a b : ℤ} → a ≤ℤ b → b ≤ℤ a → a ≡ b
≤ℤ_antisym {a} {b} h k = lin_eq a b (omega (arith, le_lin h, le_lin k))

pub <ℤ→≤ℤ : {a b : ℤ} → a <ℤ b → a ≤ℤ b
<ℤ→≤ℤ {a} {b} h = lin_le a b (omega (arith, lt_lin h))

pub <ℤ_sucℤ : {a b : ℤ} → a <ℤ suc_ℤ b → a ≤ℤ b
<ℤ_sucℤ {a} {b} h = lin_le a b (omega (arith, lt_lin h, suc_lin b))

pub +ℤ_mono : {a b c d : ℤ} → a ≤ℤ b → c ≤ℤ d → (a +ℤ c) ≤ℤ (b +ℤ d)
+ℤ_mono {a} {b} {c} {d} h k = lin_le (a +ℤ c) (b +ℤ d) (omega (arith, add_lin a c, add_lin b d, le_lin h, le_lin k))

pub negℤ_mono : {a b : ℤ} → a ≤ℤ b → neg_ℤ b ≤ℤ neg_ℤ a
negℤ_mono {a} {b} h = lin_le (neg_ℤ b) (neg_ℤ a) (omega (arith, neg_up a, neg_dn a, neg_up b, neg_dn b, le_lin h))

pub negℤ_strict : {a b : ℤ} → a <ℤ b → neg_ℤ b <ℤ neg_ℤ a
negℤ_strict {a} {b} h = lin_lt (neg_ℤ b) (neg_ℤ a) (omega (arith, neg_up a, neg_dn a, neg_up b, neg_dn b, lt_lin h))

-- a factor not below 0 keeps the order, a factor below 0 turns it
pub *ℤ_mono_pos : (n : ℕ) {a b : ℤ} → a ≤ℤ b → (pos n *ℤ a) ≤ℤ (pos n *ℤ b)
*ℤ_mono_pos n {a} {b} h =
    lin_le (pos n *ℤ a) (pos n *ℤ b)
    (omega (arith, mul_lin (pos n) a, mul_lin (pos n) b, simp mul-add at (mul-le-mul_left n (le_lin h))))

pub *ℤ_mono_neg : (n : ℕ) {a b : ℤ} → a ≤ℤ b → (negsuc n *ℤ b) ≤ℤ (negsuc n *ℤ a)
*ℤ_mono_neg n {a} {b} h =
    lin_le (negsuc n *ℤ b) (negsuc n *ℤ a)
    (omega (arith, mul_lin (negsuc n) a, mul_lin (negsuc n) b, simp mul-add at (mul-le-mul_left (suc n) (le_lin h))))

-- a factor above 0 may be taken away
pub *ℤ_cancel : (n : ℕ) {a b : ℤ} → (a *ℤ pos n) <ℤ (b *ℤ pos n) → a <ℤ b
*ℤ_cancel n {a} {b} h =
    lin_lt a b
    (lt_of_mul-lt-mul_right n (simp add-mul (omega (arith, lt_lin h, mul_lin a (pos n), mul_lin b (pos n)))))

-- a natural number times a difference that is not below 0, added to what is not
pub add_term : (s a b : ℤ) (k : ℕ) → pos 0 ≤ℤ s → a ≤ℤ b → pos 0 ≤ℤ (s +ℤ (pos k *ℤ (b -ℤ a)))
add_term s a b k p q =
    lin_le (pos 0) (s +ℤ (pos k *ℤ (b -ℤ a)))
    (omega (
      arith,
      le_lin p,
      add_lin s (pos k *ℤ (b -ℤ a)),
      mul_lin (pos k) (b -ℤ a),
      ap (λ (n : ℕ). k * n) (rw (neg_up a, neg_dn a) at (add_lin b (neg_ℤ a))),
      mul-le-mul_left k (le_lin q),
    ))

-- a factor of a product with a natural number above 0 that is not below 0
pub factor_not_negative : (z : ℤ) (d : ℕ) → 0 < d → pos 0 ≤ℤ (z *ℤ pos d) → pos 0 ≤ℤ z
factor_not_negative (pos n) d h k = lin_le (pos 0) (pos n) (omega arith)
factor_not_negative (negsuc n) d h k = absurd (omega (arith, le_lin k, mul_lin (negsuc n) (pos d)))

-- ---- the lesser and the greater of two

test_passed : (a b : ℤ) → lt_z a b ≡ true → a ≤ℤ b
test_passed (pos a) (pos b) e = lin_le (pos a) (pos b) (omega (arith, ltb-true a b e))
test_passed (pos a) (negsuc b) e = let z : ◌≡◌ {A = ℕ} 0 1 = cc in absurd (omega arith)
test_passed (negsuc a) (pos b) e = lin_le (negsuc a) (pos b) (omega arith)
test_passed (negsuc a) (negsuc b) e = lin_le (negsuc a) (negsuc b) (omega (arith, ltb-true b a e))

test_failed : (a b : ℤ) → lt_z a b ≡ false → b ≤ℤ a
test_failed (pos a) (pos b) e = lin_le (pos b) (pos a) (omega (arith, ltb-false a b e))
test_failed (pos a) (negsuc b) e = lin_le (negsuc b) (pos a) (omega arith)
test_failed (negsuc a) (pos b) e = let z : ◌≡◌ {A = ℕ} 0 1 = cc in absurd (omega arith)
test_failed (negsuc a) (negsuc b) e = lin_le (negsuc b) (negsuc a) (omega (arith, ltb-false b a e))

module _ (a b : ℤ) where
  either : (P : ℤ → Type 0) (t : Bool) → P a → P b → P (cond t a b)
  either P true x y = x
  either P false x y = y

  lesser_left_by : (t : Bool) → lt_z a b ≡ t → cond t a b ≤ℤ a
  lesser_left_by true e = ≤ℤ_refl a
  lesser_left_by false e = test_failed a b e

  lesser_right_by : (t : Bool) → lt_z a b ≡ t → cond t a b ≤ℤ b
  lesser_right_by true e = test_passed a b e
  lesser_right_by false e = ≤ℤ_refl b

  greater_left_by : (t : Bool) → lt_z a b ≡ t → a ≤ℤ cond t b a
  greater_left_by true e = test_passed a b e
  greater_left_by false e = ≤ℤ_refl a

  greater_right_by : (t : Bool) → lt_z a b ≡ t → b ≤ℤ cond t b a
  greater_right_by true e = ≤ℤ_refl b
  greater_right_by false e = test_failed a b e

pub lesser_left : (a b : ℤ) → lesser a b ≤ℤ a
unfolding lesser
lesser_left a b = lesser_left_by a b (lt_z a b) refl

pub lesser_right : (a b : ℤ) → lesser a b ≤ℤ b
unfolding lesser
lesser_right a b = lesser_right_by a b (lt_z a b) refl

pub greater_left : (a b : ℤ) → a ≤ℤ greater a b
unfolding greater
greater_left a b = greater_left_by a b (lt_z a b) refl

pub greater_right : (a b : ℤ) → b ≤ℤ greater a b
unfolding greater
greater_right a b = greater_right_by a b (lt_z a b) refl

-- they are what the library's `min` and `max` return
module _ (a b : ℤ) where
  same : a ≤ℤ b → b ≤ℤ a → a ≡ b
  same h k = lin_eq a b (omega (arith, le_lin h, le_lin k))

  lesser_by : (s t : Bool) → lt_z b a ≡ s → lt_z a b ≡ t → cond s b a ≡ cond t a b
  lesser_by true true d e = sym (same (test_passed a b e) (test_passed b a d))
  lesser_by true false d e = refl
  lesser_by false true d e = refl
  lesser_by false false d e = same (test_failed b a d) (test_failed a b e)

  greater_by : (s t : Bool) → lt_z b a ≡ s → lt_z a b ≡ t → cond s a b ≡ cond t b a
  greater_by true true d e = same (test_passed a b e) (test_passed b a d)
  greater_by true false d e = refl
  greater_by false true d e = refl
  greater_by false false d e = sym (same (test_failed b a d) (test_failed a b e))

  pub min_lesser : int_min a b ≡ lesser a b
  unfolding lesser
  min_lesser = lesser_by (lt_z b a) (lt_z a b) refl refl

  pub max_greater : int_max a b ≡ greater a b
  unfolding greater
  max_greater = greater_by (lt_z b a) (lt_z a b) refl refl

-- what holds of both holds of the lesser and of the greater
pub lesser_both : (P : ℤ → Type 0) {a b : ℤ} → P a → P b → P (lesser a b)
unfolding lesser
lesser_both P {a} {b} x y = either a b P (lt_z a b) x y

pub greater_both : (P : ℤ → Type 0) {a b : ℤ} → P a → P b → P (greater a b)
unfolding greater
greater_both P {a} {b} x y = either b a P (lt_z a b) y x

-- ---- a product lies between the products of the ends

-- z·y lies between z·l and z·h
end_below : (z : ℤ) {l y h : ℤ} → l ≤ℤ y → y ≤ℤ h → lesser (z *ℤ l) (z *ℤ h) ≤ℤ (z *ℤ y)
end_below (pos n) {l} {y} {h} p q = ≤ℤ_trans (lesser_left (pos n *ℤ l) (pos n *ℤ h)) (*ℤ_mono_pos n p)
end_below (negsuc n) {l} {y} {h} p q = ≤ℤ_trans (lesser_right (negsuc n *ℤ l) (negsuc n *ℤ h)) (*ℤ_mono_neg n q)

end_above : (z : ℤ) {l y h : ℤ} → l ≤ℤ y → y ≤ℤ h → (z *ℤ y) ≤ℤ greater (z *ℤ l) (z *ℤ h)
end_above (pos n) {l} {y} {h} p q = ≤ℤ_trans (*ℤ_mono_pos n q) (greater_right (pos n *ℤ l) (pos n *ℤ h))
end_above (negsuc n) {l} {y} {h} p q = ≤ℤ_trans (*ℤ_mono_neg n p) (greater_left (negsuc n *ℤ l) (negsuc n *ℤ h))

-- the same with the fixed factor on the right
over_ends : (m k : ℤ) {l x h : ℤ} → m ≤ℤ (l *ℤ k) → m ≤ℤ (h *ℤ k) → l ≤ℤ x → x ≤ℤ h → m ≤ℤ (x *ℤ k)
over_ends m k {l} {x} {h} p q u v =
    rw (*ℤ_comm x k)
    (≤ℤ_trans (lesser_both (λ (z : ℤ). m ≤ℤ z) (rw (*ℤ_comm k l) p) (rw (*ℤ_comm k h) q)) (end_below k u v))

under_ends : (m k : ℤ) {l x h : ℤ} → (l *ℤ k) ≤ℤ m → (h *ℤ k) ≤ℤ m → l ≤ℤ x → x ≤ℤ h → (x *ℤ k) ≤ℤ m
under_ends m k {l} {x} {h} p q u v =
    rw (*ℤ_comm x k)
    (≤ℤ_trans (end_above k u v) (greater_both (λ (z : ℤ). z ≤ℤ m) (rw (*ℤ_comm k l) p) (rw (*ℤ_comm k h) q)))

-- with l ≤ x ≤ h and l' ≤ y ≤ h', x·y is at least what the four products of ends are at least, and at most what they are at most
module _ (m : ℤ) {l x h l' y h' : ℤ} (u : l ≤ℤ x) (v : x ≤ℤ h) (u' : l' ≤ℤ y) (v' : y ≤ℤ h') where
  pub product_over : m ≤ℤ (l *ℤ l') → m ≤ℤ (l *ℤ h') → m ≤ℤ (h *ℤ l') → m ≤ℤ (h *ℤ h') → m ≤ℤ (x *ℤ y)
  product_over ll lh hl hh =
      ≤ℤ_trans (lesser_both (λ (z : ℤ). m ≤ℤ z) (over_ends m l' ll hl u v) (over_ends m h' lh hh u v)) (end_below x u' v')

  pub product_under : (l *ℤ l') ≤ℤ m → (l *ℤ h') ≤ℤ m → (h *ℤ l') ≤ℤ m → (h *ℤ h') ≤ℤ m → (x *ℤ y) ≤ℤ m
  product_under ll lh hl hh =
      ≤ℤ_trans (end_above x u' v') (greater_both (λ (z : ℤ). z ≤ℤ m) (under_ends m l' ll hl u v) (under_ends m h' lh hh u v))
