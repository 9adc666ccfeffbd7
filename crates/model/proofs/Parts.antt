-- What of a slice between knots lies between the integral's two ends: all of it, a slice that is cut, or nothing. At most two slices are cut: one at the far end
-- and one at the near end.
use mathlib.Core.Path.{◌≡◌, refl, sym, ◌∙◌}
use mathlib.Core.Bool.{Bool, true, false, ◌&&◌, and-false}
use Prim.Native.Nat.{ℕ, zero, suc, ◌+◌, ◌*◌, ◌-◌, ◌≤◌, ◌<◌, min, max}
use lib.Dec.{ltb, leb}
use borrow.Author.Tests.{lt-ltb, le-ltb, le-leb, lt-leb, ltb-true, ltb-false, leb-true, leb-false}
use native.Mathlib.Nat.{zero-add, suc-add, le_of_lt, mul-le-mul_left, mul-le-mul_right}
use native.Mathlib.Omega.{arith}
use Rattle.bounds.specs.Pair.{Pair, add_p, at_most_p}
use Rattle.model.specs.Scale.{one, far_from, diffusion_end, units, exactly}
use Rattle.model.specs.Logarithm.{power_of_two}
use Rattle.model.specs.Integral.{Stretch, Slice, slice_pair, any_slice, part_slice, unit_part, unit_slice, half_part, half_slice, within, joined, unit_sum, half_sum}
use Rattle.model.specs.Width.{Under}
use Rattle.model.proofs.Logarithm.{power_above_zero}
use Rattle.model.proofs.Slice.{slice_at_most_two}

-- how many of the two ends lie above v
abbrev pub passed : ℕ → ℕ → ℕ → ℕ
passed near far v = min 1 (far - v) + min 1 (near - v)

pub data PartCase (near far x y diffusion : ℕ) (all : Pair) : Pair → Type 0 where
  whole : within near far x ≡ x → within near far y ≡ y → passed near far y ≤ passed near far x → PartCase near far x y diffusion all all
  cut : Slice (within near far x) (within near far y) diffusion → suc (passed near far y) ≤ passed near far x →
      PartCase near far x y diffusion all (slice_pair (within near far x) (within near far y) diffusion)
  nothing : within near far x ≡ within near far y → passed near far y ≤ passed near far x → PartCase near far x y diffusion all (exactly 0)

below_falls : (w x y : ℕ) → x ≤ y → min 1 (w - y) ≤ min 1 (w - x)
below_falls w x y h = omega arith

passed_falls : (near far x y : ℕ) → x ≤ y → passed near far y ≤ passed near far x
passed_falls near far x y h = le_add (below_falls far x y h) (below_falls near x y h)
  where
    le_add : {a b c d : ℕ} → a ≤ b → c ≤ d → a + c ≤ b + d
    le_add p q = omega arith

-- an end that lies inside the slice is passed by it
passed_more : (near far x y : ℕ) → near < y → x < far → 0 < (near - x) + (y - far) → suc (passed near far y) ≤ passed near far x
passed_more near far x y h k p =
    let a : min 1 (near - y) ≡ 0 = omega arith in
    let b : min 1 (far - x) ≡ 1 = omega arith in
    let c : min 1 (far - y) ≤ min 1 (near - x) = over p in
    rw (a, b) (go c)
  where
    over : 0 < (near - x) + (y - far) → min 1 (far - y) ≤ min 1 (near - x)
    over q = omega arith

    go : min 1 (far - y) ≤ min 1 (near - x) → suc (min 1 (far - y) + 0) ≤ 1 + min 1 (near - x)
    go q = omega arith

shorter : {x y diffusion : ℕ} (a b : ℕ) → Slice x y diffusion → x ≤ a → a < b → b ≤ y → Slice a b diffusion
shorter {x} {y} {diffusion} a b s h k l = record { some = omega arith; order = k; half = half s.half; short = omega arith; small = small s.small }
  where
    half : 2 * (y - x) ≤ y → 2 * (b - a) ≤ b
    half p = omega arith

    small : min y diffusion < 2 * diffusion_end → min b diffusion < 2 * diffusion_end
    small p = omega arith

-- what lies of a slice between the ends is a slice
pub any_slice_lem : {x y diffusion : ℕ} (near far : ℕ) → Slice x y diffusion → max near x < min far y → Slice (max near x) (min far y) diffusion
any_slice_lem {x} {y} near far s w = shorter (max near x) (min far y) s (least near x) w (most far y)
  where
    least : (n v : ℕ) → v ≤ max n v
    least n v = omega arith

    most : (f v : ℕ) → min f v ≤ v
    most f v = omega arith

lower_end : (near far x : ℕ) → x < far → max near x ≡ within near far x
lower_end near far x h = omega arith

upper_end : (near far y : ℕ) → near < min far y → min far y ≡ within near far y
upper_end near far y h = omega arith

-- nothing of the slice lies between the ends
same_end : (near far x y : ℕ) → x < y → min far y ≤ max near x → within near far x ≡ within near far y
same_end near far x y h k = go (leb y near) refl (leb far x) refl
  where
    go : (b : Bool) → leb y near ≡ b → (c : Bool) → leb far x ≡ c → within near far x ≡ within near far y
    go true e c f = let w = leb-true y near e in both w
      where
        both : y ≤ near → within near far x ≡ within near far y
        both w = omega arith
    go false e true f = let w = leb-true far x f in both w
      where
        both : far ≤ x → within near far x ≡ within near far y
        both w = omega arith
    go false e false f = let v = leb-false y near e in let w = leb-false far x f in both (crossed v w)
      where
        crossed : near < y → x < far → far ≤ near
        crossed v w = omega arith

        both : far ≤ near → within near far x ≡ within near far y
        both w = omega arith

any_case : (near far x y diffusion : ℕ) (all : Pair) → Slice x y diffusion → 0 < (near - x) + (y - far) → PartCase near far x y diffusion all (any_slice (max near x) (min far y) diffusion)
unfolding any_slice
any_case near far x y diffusion all s h = go (ltb (max near x) (min far y)) refl
  where
    near_inside : max near x < min far y → near < y
    near_inside w = omega arith

    far_inside : max near x < min far y → x < far
    far_inside w = omega arith

    near_below : max near x < min far y → near < min far y
    near_below w = omega arith

    go : (b : Bool) → ltb (max near x) (min far y) ≡ b → PartCase near far x y diffusion all (elim b [ true ↦ slice_pair (max near x) (min far y) diffusion | false ↦ exactly 0 ])
    go true e =
        let w = ltb-true (max near x) (min far y) e in
        found (lower_end near far x (far_inside w)) (upper_end near far y (near_below w)) (any_slice_lem near far s w) (passed_more near far x y (near_inside w) (far_inside w) h)
      where
        found : {a b : ℕ} → a ≡ within near far x → b ≡ within near far y → Slice a b diffusion → suc (passed near far y) ≤ passed near far x → PartCase near far x y diffusion all (slice_pair a b diffusion)
        found p q c m = rw (p, q) (cut (rw (p, q) at c) m)
    go false e = let w = ltb-false (max near x) (min far y) e in nothing (same_end near far x y s.order w) (passed_falls near far x y (le_of_lt s.order))

pub part_case : (near far x y diffusion : ℕ) (all : Pair) → Slice x y diffusion → PartCase near far x y diffusion all (part_slice near far x y diffusion all)
unfolding part_slice
part_case near far x y diffusion all s = go (leb near x) refl (leb y far) refl
  where
    inside_low : near ≤ x → x < y → y ≤ far → within near far x ≡ x
    inside_low h k l = omega arith

    inside_high : near ≤ x → x < y → y ≤ far → within near far y ≡ y
    inside_high h k l = omega arith

    go : (b : Bool) → leb near x ≡ b → (c : Bool) → leb y far ≡ c → PartCase near far x y diffusion all (elim (b && c) [ true ↦ all | false ↦ any_slice (max near x) (min far y) diffusion ])
    go true e true f =
        let v = leb-true near x e in
        let w = leb-true y far f in
        whole (inside_low v s.order w) (inside_high v s.order w) (passed_falls near far x y (le_of_lt s.order))
    go true e false f = let w = leb-false y far f in any_case near far x y diffusion all s (omega arith)
    go false e c f = let w = leb-false near x e in any_case near far x y diffusion all s (omega arith)

-- ---- the slices between knots are slices
pub unit_slice_lem : (n : ℕ) → 0 < n → Slice n (suc n) 1
unit_slice_lem n h = omega arith

pub half_slice_lem : (k : ℕ) → Slice 1 2 (power_of_two (suc k))
half_slice_lem k = let p = power_above_zero (suc k) in omega arith

unit_apart : (n diffusion : ℕ) → suc n * diffusion ≡ n * diffusion + diffusion
unit_apart n diffusion = omega arith

pub unit_scaled : {near diffusion : ℕ} (n : ℕ) → Stretch near diffusion → 0 < n → Slice (n * diffusion) (suc n * diffusion) diffusion
unit_scaled {near} {diffusion} n s h =
    let e = unit_apart n diffusion in
    let l : diffusion ≤ n * diffusion = omega (arith, mul-le-mul_right diffusion h) in
    let z = s.diffusion_some in
    let m = s.diffusion_small in
    record { some = omega arith; order = omega arith; half = omega arith; short = omega arith; small = omega arith }

pub half_scaled : {near diffusion : ℕ} (k : ℕ) → Stretch near diffusion → Slice diffusion (2 * diffusion) (diffusion * power_of_two (suc k))
half_scaled {near} {diffusion} k s =
    let p = power_above_zero (suc k) in
    let l : diffusion ≤ diffusion * power_of_two (suc k) = omega (arith, mul-le-mul_left diffusion p) in
    let z = s.diffusion_some in
    let m = s.diffusion_small in
    record { some = omega arith; order = omega arith; half = omega arith; short = omega arith; small = omega arith }

-- no place lies below the near end
pub within_from : (near far v : ℕ) → near ≤ within near far v
within_from near far v = omega arith

-- with all distances doubled
pub twice_within : (near far v : ℕ) → within (2 * near) (2 * far) (2 * v) ≡ 2 * within near far v
twice_within near far v = omega arith

-- ---- no sum passes the logarithm
joined_under : (top : ℕ) (sum slice : Pair) → Under top (joined top sum slice)
unfolding add_p at_most_p
joined_under top sum slice = omega arith

pub unit_sum_under : (near far diffusion top : ℕ) (first : Pair) → Under top first → (i : ℕ) → Under top (unit_sum near far diffusion top first i)
unfolding unit_sum
unit_sum_under near far diffusion top first h zero = h
unit_sum_under near far diffusion top first h (suc i) = joined_under top _ _

pub half_sum_under : (near far diffusion top : ℕ) (first : Pair) → Under top first → (k : ℕ) → Under top (half_sum near far diffusion top first k)
unfolding half_sum
half_sum_under near far diffusion top first h zero = h
half_sum_under near far diffusion top first h (suc k) = joined_under top _ _

-- ---- no part is more than 2
zero_under : (most : ℕ) → Under most (exactly 0)
zero_under most = omega arith

pub part_most : (near far x y diffusion : ℕ) (all : Pair) → Slice x y diffusion → Under (2 * one) all → Under (2 * one) (part_slice near far x y diffusion all)
part_most near far x y diffusion all s u = go (part_case near far x y diffusion all s)
  where
    go : {b : Pair} → PartCase near far x y diffusion all b → Under (2 * one) b
    go (whole e f m) = u
    go (cut c m) = slice_at_most_two c
    go (nothing e m) = zero_under (2 * one)

-- ---- the tests, as the code makes them
pub part_whole : (near far x y diffusion : ℕ) (all : Pair) → near ≤ x → y ≤ far → all ≡ part_slice near far x y diffusion all
unfolding part_slice
part_whole near far x y diffusion all h k = rw (le-leb near x h, le-leb y far k, part_slice) refl

pub part_not_near : (near far x y diffusion : ℕ) (all : Pair) → x < near → any_slice (max near x) (min far y) diffusion ≡ part_slice near far x y diffusion all
unfolding part_slice
part_not_near near far x y diffusion all h = rw (lt-leb near x h, part_slice) refl

pub part_not_far : (near far x y diffusion : ℕ) (all : Pair) → far < y → any_slice (max near x) (min far y) diffusion ≡ part_slice near far x y diffusion all
unfolding part_slice
part_not_far near far x y diffusion all h = rw (lt-leb y far h, and-false (leb near x), part_slice) refl

pub any_some : (x y diffusion : ℕ) → x < y → slice_pair x y diffusion ≡ any_slice x y diffusion
unfolding any_slice
any_some x y diffusion h = rw (lt-ltb x y h, any_slice) refl

pub any_none : (x y diffusion : ℕ) → y ≤ x → exactly 0 ≡ any_slice x y diffusion
unfolding any_slice
any_none x y diffusion h = rw (le-ltb x y h, any_slice) refl

pub part_beyond : (near far x y diffusion : ℕ) (all : Pair) → x < y → far ≤ x → exactly 0 ≡ part_slice near far x y diffusion all
part_beyond near far x y diffusion all h k = any_none (max near x) (min far y) diffusion (before near far x y k) ∙ part_not_far near far x y diffusion all (omega arith)
  where
    before : (n f u v : ℕ) → f ≤ u → min f v ≤ max n u
    before n f u v l = omega arith

-- a far end beyond the slice may be taken for the slice's
pub part_capped : (near far x y diffusion : ℕ) (all : Pair) → part_slice near (min far y) x y diffusion all ≡ part_slice near far x y diffusion all
part_capped near far x y diffusion all = go (leb y far) refl (leb near x) refl
  where
    cap : min (min far y) y ≡ min far y
    cap = omega arith

    go : (b : Bool) → leb y far ≡ b → (c : Bool) → leb near x ≡ c → part_slice near (min far y) x y diffusion all ≡ part_slice near far x y diffusion all
    go true e true f =
        let v = leb-true near x f in
        let w = leb-true y far e in
        sym (part_whole near (min far y) x y diffusion all v (omega arith)) ∙ part_whole near far x y diffusion all v w
    go true e false f =
        let v = leb-false near x f in
        sym (part_not_near near (min far y) x y diffusion all v) ∙ rw cap (part_not_near near far x y diffusion all v)
    go false e c f = let w = leb-false y far e in let m : min far y ≡ far = omega arith in rw m refl

-- ---- after the near end there is nothing more
part_none : (near far x y diffusion : ℕ) (all : Pair) → x < y → y ≤ near → part_slice near far x y diffusion all ≡ exactly 0
part_none near far x y diffusion all h k = sym (any_none (max near x) (min far y) diffusion (behind near far x y k) ∙ part_not_near near far x y diffusion all (omega arith))
  where
    behind : (n f u v : ℕ) → v ≤ n → min f v ≤ max n u
    behind n f u v l = omega arith

joined_nothing : (top : ℕ) (sum : Pair) → Under top sum → joined top sum (exactly 0) ≡ sum
unfolding add_p at_most_p
joined_nothing top sum u = go sum.low sum.high u.low u.high
  where
    less : (a : ℕ) → a ≤ top → min (a + 0) top ≡ a
    less a h = omega arith

    go : (a b : ℕ) → a ≤ top → b ≤ top → ◌≡◌ {A = Pair} (record { low = min (a + 0) top; high = min (b + 0) top }) (record { low = a; high = b })
    go a b h k = rw (less a h, less b k) refl

-- the near end is reached after i unit slices
unit_sum_stays : (near far diffusion top : ℕ) (first : Pair) → 0 < diffusion → Under top first → (i : ℕ) → i < units → (far_from - i) * diffusion ≤ near →
    unit_sum near far diffusion top first (suc i) ≡ unit_sum near far diffusion top first i
unfolding unit_sum unit_part
unit_sum_stays near far diffusion top first z u i h l = go (units - i) (omega arith)
  where
    go : (n : ℕ) → far_from - i ≡ suc n →
        joined top (unit_sum near far diffusion top first i) (part_slice near far (n * diffusion) (suc n * diffusion) diffusion (unit_slice n)) ≡ unit_sum near far diffusion top first i
    go n e =
        let k = rw e at l in
        rw (part_none near far (n * diffusion) (suc n * diffusion) diffusion (unit_slice n) (omega arith) k) (joined_nothing top _ (unit_sum_under near far diffusion top first u i))

pub unit_sum_ends : (near far diffusion top : ℕ) (first : Pair) → 0 < diffusion → Under top first → (j i : ℕ) → j + i ≤ units → (far_from - i) * diffusion ≤ near →
    unit_sum near far diffusion top first (j + i) ≡ unit_sum near far diffusion top first i
unit_sum_ends near far diffusion top first z u zero i h l = rw zero-add refl
unit_sum_ends near far diffusion top first z u (suc j) i h l =
    rw suc-add
    (unit_sum_stays near far diffusion top first z u (j + i) (omega arith) (lower (mul-le-mul_right diffusion (fewer (omega arith)))) ∙ unit_sum_ends near far diffusion top first z u j i (omega arith) l)
  where
    fewer : i ≤ j + i → far_from - (j + i) ≤ far_from - i
    fewer k = omega arith

    lower : (far_from - (j + i)) * diffusion ≤ (far_from - i) * diffusion → (far_from - (j + i)) * diffusion ≤ near
    lower k = omega arith

-- the near end is reached after k half slices
near_passed : (near diffusion i k : ℕ) → diffusion ≤ near * power_of_two k → diffusion ≤ near * power_of_two (i + k)
unfolding power_of_two
near_passed near diffusion zero k h = rw zero-add h
near_passed near diffusion (suc i) k h = let r = near_passed near diffusion i k h in rw suc-add (omega arith)

half_sum_stays : (near far diffusion top : ℕ) (first : Pair) → 0 < diffusion → Under top first → (m : ℕ) → diffusion ≤ near * power_of_two m →
    half_sum near far diffusion top first (suc m) ≡ half_sum near far diffusion top first m
unfolding half_sum half_part power_of_two
half_sum_stays near far diffusion top first z u m l =
    rw (part_none (near * (2 * power_of_two m)) (far * (2 * power_of_two m)) diffusion (2 * diffusion) (diffusion * (2 * power_of_two m)) (half_slice m) (omega arith) (omega arith))
    (joined_nothing top _ (half_sum_under near far diffusion top first u m))

pub half_sum_ends : (near far diffusion top : ℕ) (first : Pair) → 0 < diffusion → Under top first → (j k : ℕ) → diffusion ≤ near * power_of_two k →
    half_sum near far diffusion top first (j + k) ≡ half_sum near far diffusion top first k
half_sum_ends near far diffusion top first z u zero k h = rw zero-add refl
half_sum_ends near far diffusion top first z u (suc j) k h =
    rw suc-add (half_sum_stays near far diffusion top first z u (j + k) (near_passed near diffusion j k h) ∙ half_sum_ends near far diffusion top first z u j k h)
