-- The width and the sizes of a share with any list of neighbours, proved once over the list: what the sums of integrals and of logarithms keep from
-- source to source is `Close`.
use mathlib.Core.Path.{◌≡◌, refl}
use mathlib.Core.Bool.{Bool, true, false}
use mathlib.Core.List.{List, [], ◌∷◌, map}
use Prim.Native.Nat.{ℕ, zero, suc, ◌+◌, ◌*◌, ◌-◌, ◌≤◌, ◌<◌}
use lib.Dec.{leb}
use lib.ListN.{length}
use borrow.Author.Tests.{leb-true, leb-false}
use native.Mathlib.Nat.{lt-div-mul-add, mul-le-mul, mul-le-mul_left, mul-le-mul_right, lt_of_mul-lt-mul_right}
use native.Mathlib.Omega.{arith}
use Rattle.bounds.specs.Pair.{Pair, add_p, scaled_p, times_p}
use lib.IntN.{nat_abs}
use Rattle.exact.specs.Share.{CableNumbers, Neighbour, Source, between, source_of, sources, InRange, InTrench, AllInTrench, Accepted}
use Rattle.exact.specs.Share as exact
use Rattle.model.specs.Scale.{one, million, beta_one, diffusion_end, most_doublings, exactly, from_floor}
use Rattle.model.specs.Series.{theta_of, series_pair}
use Rattle.model.specs.Logarithm.{power_of_two, logarithm_slice, doublings, logarithm_after, logarithm}
use Rattle.model.specs.Integral.{Stretch, slice_start, heating_integral}
use Rattle.model.specs.Share.{attained_share, cable_logarithm, cable_integral, source_logarithm, source_integral, with_logarithms, with_integrals, group_logarithm, group_integral, Ranges}
use Rattle.model.specs.Width.{Under, Within, inner_width}
use Rattle.model.proofs.Series.{series_most, series_most_lem, series_at_least_one, series_without_tau_within_378, theta_at_most_half}
use Rattle.model.proofs.Logarithm.{power_of_sum, power_above_zero, Octave, doublings_in_octave, logarithm_of_two, logarithm_by_doublings}
use Rattle.model.proofs.FarSlice.{slice_start_inside}
use Rattle.model.proofs.Integral.{Widths, integral_widths, integral_under_top}
use Rattle.model.proofs.Cable.{cable_logarithm_ordered, cable_logarithm_above_zero, cable_logarithm_most, cable_logarithm_width, cable_stretch, cable_integral_ordered, cable_integral_under_logarithm, cable_integral_width}
use Rattle.model.proofs.Share.{beta_within, beta_at_most_one, surface_within, surface_at_most_one, attainment_within_52, attainment_at_most_one, share_of_within, share_of_at_most_million}

-- a neighbour's squared distances in mm²: that to the image is enough larger, and not too large
pub record Beside (x : Source) : Type 0 where
  pub some : 100 ≤ x.near
  pub far : 26 * x.near ≤ 25 * x.image
  pub small : x.image ≤ 109000000

-- of a cable l deep and a neighbour e deeper, or the other way round, a to the side
far_by_depths : (l e a : ℕ) → 300 ≤ l → e ≤ 4700 → a ≤ 3000 → 26 * (a * a + e * e) ≤ 25 * (a * a + (l + (l + e)) * (l + (l + e)))
far_by_depths l e a h j k =
    let b = mul-le-mul h h in
    let g = mul-le-mul k k in
    let f : e ≤ 100 * l = omega arith in
    let r = mul-le-mul_right e f in
    omega arith

far_enough : (l z a : ℕ) → 300 ≤ l → l ≤ 5000 → 300 ≤ z → z ≤ 5000 → a ≤ 3000 → 26 * (a * a + between l z * between l z) ≤ 25 * (a * a + (l + z) * (l + z))
far_enough l z a h i j k m = go (leb l z) refl
  where
    go : (b : Bool) → leb l z ≡ b → 26 * (a * a + between l z * between l z) ≤ 25 * (a * a + (l + z) * (l + z))
    go true w =
        let o = leb-true l z w in
        let e : between l z ≡ z - l = omega arith in
        let q : l + z ≡ l + (l + (z - l)) = omega arith in
        rw (e, q) (far_by_depths l (z - l) a h (omega arith) m)
    go false w =
        let o = leb-false l z w in
        let e : between l z ≡ l - z = omega arith in
        let q : l + z ≡ z + (z + (l - z)) = omega arith in
        rw (e, q) (far_by_depths z (l - z) a j (omega arith) m)

near_enough : (l z a : ℕ) → l ≤ 5000 → z ≤ 5000 → a ≤ 3000 → a * a + (l + z) * (l + z) ≤ 109000000
near_enough l z a h k m =
    let s : l + z ≤ 10000 = omega arith in
    let b = mul-le-mul s s in
    let g = mul-le-mul m m in
    omega arith

pub beside_of : {c : CableNumbers} {n : Neighbour} → InRange c → InTrench c n → Beside (source_of c.l n)
beside_of {c} {n} r t = record {
  some = let m = mul-le-mul r.d_from r.d_from in least (source_of c.l n).near m t.apart;
  far = far_enough c.l n.depth (nat_abs n.offset) r.l_from r.l_to t.depth_from t.depth_to t.offset_to;
  small = near_enough c.l n.depth (nat_abs n.offset) r.l_to t.depth_to t.offset_to;
}
  where
    least : (x : ℕ) → 100 * 100 ≤ c.d * c.d → c.d * c.d ≤ 100 * x → 100 ≤ x
    least x g h = omega arith

-- ---- the last slice of a neighbour's logarithm: its width by its θ, and how large it is
record LastSlice (theta : ℕ) (b : Pair) : Type 0 where
  order : b.low ≤ b.high
  width : one * b.high ≤ one * b.low + 378 * theta + 6 * one
  least : theta ≤ b.low
  more : theta < b.high

product_by_theta : (theta : ℕ) (q : Pair) → Within 378 q → one ≤ q.low → q.high ≤ series_most → LastSlice theta (scaled_p (from_floor theta) q one)
unfolding scaled_p
product_by_theta theta q w l k =
    let a = mul-le-mul_left theta w.order in
    let p = mul-le-mul_left theta w.width in
    let m = mul-le-mul_left theta l in
    record { order = omega arith; width = omega arith; least = omega arith; more = omega arith }

slice_by_theta : (x y : ℕ) → y ≤ 2 * x → LastSlice (theta_of x y) (logarithm_slice x y)
unfolding logarithm_slice
slice_by_theta x y h =
    let t = theta_at_most_half x y (omega arith) in
    product_by_theta (theta_of x y) (series_pair (theta_of x y) 0) (series_without_tau_within_378 (theta_of x y) t) (series_at_least_one (theta_of x y) 0) (series_most_lem (theta_of x y) 0 t (omega arith)).high

-- ---- what a sum j of integrals and a sum n of logarithms keep
pub record Close (j n : Pair) : Type 0 where
  pub integral_order : j.low ≤ j.high
  pub logarithm_order : n.low ≤ n.high
  pub low_under : j.low ≤ n.high
  pub high_under : j.high ≤ n.high
  pub integral_width : 1000000000 * j.high ≤ 1000000000 * j.low + 2632 * n.high
  pub logarithm_width : 1000000000 * n.high ≤ 1000000000 * n.low + 500 * n.low

close_add : {i j m n : Pair} → Close i m → Close j n → Close (add_p i j) (add_p m n)
unfolding add_p
close_add a b = omega arith

-- ---- one neighbour: n doublings, and θ of the last slice
theta_sum_by_line : (t n p m theta : ℕ) → 0 < p → m ≤ 2 * p → p ≤ m → t * (2000 * p) + one * (2000 * p) ≤ one * (n * (2000 * p) + 2000 * m) → (m - p) * one < (theta + 1) * m → t < one * n + 2 * (theta + 1)
theta_sum_by_line t n p m theta z h k l q =
    let r = mul-le-mul_left (theta + 1) h in
    let e : (m - p) * one + p * one ≡ m * one = omega arith in
    lt_of_mul-lt-mul_right p (omega arith)

record Least (n theta : ℕ) : Type 0 where
  integral : 13 * one ≤ 338 * (744261259 * n + theta + 1)
  logarithm : 6000000000 ≤ 147 * theta + 181000000000 * n

at_least : (n theta : ℕ) → (n ≡ 0 → one < 26 * (theta + 1)) → Least n theta
at_least zero theta h = let g = h refl in record { integral = omega arith; logarithm = omega arith }
at_least (suc n) theta h = record { integral = omega arith; logarithm = omega arith }

integral_by_logarithm : (most least x high n theta : ℕ) → one * most ≤ one * least + 2016 * least + (122 * high + 156 * x + 13 * one) → least ≤ high → x < one * n + 2 * (theta + 1) →
    744261259 * n + theta + 1 ≤ high → Least n theta → 1000000000 * most ≤ 1000000000 * least + 2632 * high
integral_by_logarithm most least x high n theta a b c e l =
    let f : x ≤ 2 * high = omega arith in
    let g : 13 * one ≤ 338 * high = let z = l.integral in omega arith in
    let y : one * most ≤ one * least + 2826 * high = omega arith in
    only y
  where
    only : one * most ≤ one * least + 2826 * high → 1000000000 * most ≤ 1000000000 * least + 2632 * high
    only y = omega (arith, y)

logarithm_by_itself : (n theta low high : ℕ) → one * high ≤ one * low + 378 * theta + 6 * one → theta ≤ low → Least n theta →
    1000000000 * (744261259 * n + high) ≤ 1000000000 * (744261068 * n + low) + 500 * (744261068 * n + low)
logarithm_by_itself n theta low high a b l =
    let z = l.logarithm in
    let y : 1000000000 * high ≤ 1000000000 * low + 353 * theta + 6000000000 = omega arith in
    omega arith

module _ {x : Source} {diffusion : ℕ} (a : Beside x) (i : 0 < diffusion) (k : diffusion < diffusion_end) where
  abbrev c : ℕ
  c = x.near

  abbrev m : ℕ
  m = x.image

  abbrev times : ℕ
  times = doublings most_doublings c m

  abbrev last : ℕ
  last = c * power_of_two times

  abbrev theta : ℕ
  theta = theta_of last m

  in_octave : Octave c m times
  unfolding power_of_two
  in_octave = doublings_in_octave most_doublings c m (omega arith) (omega arith)

  last_slice : LastSlice theta (logarithm_slice last m)
  last_slice = let o = in_octave in slice_by_theta last m (omega arith)

  theta_more : (m - last) * one < (theta + 1) * m
  theta_more = let l = lt-div-mul-add {a = (m - last) * one} {b = m} (omega arith) in omega arith

  last_above_zero : 0 < last
  last_above_zero = let p = power_above_zero times in let z : 1 ≤ c = omega arith in let q = mul-le-mul z p in omega arith

  source_stretch : Stretch (2000 * c) diffusion
  source_stretch = record { near_some = omega arith; diffusion_some = i; diffusion_small = k }

  abbrev start : ℕ
  start = slice_start (2000 * c) (2000 * m) diffusion

  source_widths : Widths (2000 * c) start (logarithm c m).high (heating_integral (2000 * c) (2000 * m) diffusion (logarithm c m).high)
  source_widths = integral_widths (2000 * c) (2000 * m) diffusion (logarithm c m).high source_stretch (omega arith)

  theta_sum_lem : source_widths.thetas < one * times + 2 * (theta + 1)
  theta_sum_lem =
      let o = in_octave in
      let g = slice_start_inside (2000 * c) (2000 * m) diffusion (omega arith) in
      let u = (source_widths.lines times).under in
      theta_sum_by_line source_widths.thetas times last m theta last_above_zero (omega arith) (omega arith) (omega arith) theta_more

  -- without a doubling the rest is at least 1/26
  theta_least : times ≡ 0 → one < 26 * (theta + 1)
  unfolding power_of_two
  theta_least e =
      let l = theta_more in
      let p : last ≡ c = rw e (omega arith) in
      lt_of_mul-lt-mul_right m (omega arith)

  pub source_close : Close (source_integral diffusion x) (source_logarithm x)
  unfolding source_integral source_logarithm logarithm logarithm_after add_p times_p
  source_close =
      let r = last_slice in
      let l = at_least times theta theta_least in
      let g = source_widths.spread in
      let u = integral_under_top (2000 * c) (2000 * m) diffusion (logarithm c m).high in
      let f = theta_sum_lem in
      let high : (logarithm c m).high ≡ 744261259 * times + (logarithm_slice last m).high = rw logarithm_of_two refl in
      let low : (logarithm c m).low ≡ 744261068 * times + (logarithm_slice last m).low = rw logarithm_of_two refl in
      record {
        integral_order = g.order;
        logarithm_order = omega (arith, high, low, r.order);
        low_under = u.low;
        high_under = u.high;
        integral_width = integral_by_logarithm _ _ source_widths.thetas (logarithm c m).high times theta g.width u.low f (omega (arith, high, r.more)) l;
        logarithm_width = rw (high, low) (logarithm_by_itself times theta (logarithm_slice last m).low (logarithm_slice last m).high r.width r.least l);
      }

-- ---- any list of neighbours
pub data AllBeside : List Source → Type 0 where
  none : AllBeside []
  more : {x : Source} {xs : List Source} → Beside x → AllBeside xs → AllBeside (x ∷ xs)

all_beside : {c : CableNumbers} {ns : List Neighbour} → InRange c → AllInTrench c ns → AllBeside (map (source_of c.l) ns)
all_beside r exact.none = none
all_beside r (exact.more t ts) = more (beside_of r t) (all_beside r ts)

pub sources_beside : {c : CableNumbers} {minutes : ℕ} → Accepted c minutes → AllBeside (sources c)
sources_beside a = all_beside a.cable a.neighbours

pub all_close : {diffusion : ℕ} {xs : List Source} (j n : Pair) → 0 < diffusion → diffusion < diffusion_end → AllBeside xs → Close j n → Close (with_integrals diffusion j xs) (with_logarithms n xs)
unfolding with_integrals with_logarithms
all_close j n h k none z = z
all_close {diffusion} j n h k (more {x} a r) z = all_close (add_p j (source_integral diffusion x)) (add_p n (source_logarithm x)) h k r (close_add z (source_close a h k))

-- a sum is no less than what it began with
pub logarithms_grow : (n : Pair) (xs : List Source) → (n.low ≤ (with_logarithms n xs).low) × (n.high ≤ (with_logarithms n xs).high)
unfolding with_logarithms add_p
logarithms_grow n [] = (omega arith, omega arith)
logarithms_grow n (x ∷ xs) = let g = logarithms_grow (add_p n (source_logarithm x)) xs in (omega arith, omega arith)

-- ---- sizes: 20 doublings at most, so that the logarithms of 48 neighbours and the cable stay below 2^40, and times beta_one below 2^63
power_rises : (j k : ℕ) → power_of_two k ≤ power_of_two (j + k)
power_rises j k = let p = power_above_zero j in let m = mul-le-mul_right (power_of_two k) p in rw (power_of_sum j k) (omega arith)

doublings_at_most_20 : {x : Source} → Beside x → doublings most_doublings x.near x.image ≤ 20
unfolding power_of_two
doublings_at_most_20 {x} a =
    let n = doublings most_doublings x.near x.image in
    let o = doublings_in_octave most_doublings x.near x.image (omega arith) (omega arith) in
    let p : power_of_two n < 2097152 = lt_of_mul-lt-mul_right x.near (omega arith) in
    go (leb 21 n) refl p
  where
    go : (b : Bool) → leb 21 (doublings most_doublings x.near x.image) ≡ b → power_of_two (doublings most_doublings x.near x.image) < 2097152 → doublings most_doublings x.near x.image ≤ 20
    go true e p =
        let n = doublings most_doublings x.near x.image in
        let w = leb-true 21 n e in
        let q = power_rises (n - 21) 21 in
        let r : n - 21 + 21 ≡ n = omega arith in
        let s : 2097152 ≤ power_of_two n = rw r at q in
        absurd (omega arith)
    go false e p = let w = leb-false 21 (doublings most_doublings x.near x.image) e in omega arith

pub source_logarithm_most : {x : Source} → Beside x → (source_logarithm x).high ≤ 16 * one
unfolding source_logarithm power_of_two
source_logarithm_most {x} a = let w = logarithm_by_doublings x.near x.image (omega arith) (omega arith) in let n = doublings_at_most_20 a in omega (arith, w.high_most)

pub logarithms_most : {xs : List Source} (n : Pair) → AllBeside xs → (with_logarithms n xs).high ≤ n.high + 16 * one * length xs
unfolding with_logarithms add_p
logarithms_most n none = omega arith
logarithms_most n (more {x} {xs} a r) = let h = logarithms_most (add_p n (source_logarithm x)) r in let o = source_logarithm_most a in omega arith

-- ---- β, and the share
beta_by_close : (most least low high : ℕ) → 1000000000 * most ≤ 1000000000 * least + 2632 * high → 1000000000 * high ≤ 1000000000 * low + 500 * low →
    beta_one * most + high + beta_one * high ≤ beta_one * least + beta_one * low + 25 * low
beta_by_close most least low high a b =
    let e : high ≤ 2 * low = omega arith in
    omega arith

module _ {d l s k w t : ℕ} (c : Ranges d l s k w t) where
  cable_close : Close (cable_integral d l s t) (cable_logarithm d l)
  cable_close =
      let h = cable_integral_width c in
      let n = cable_logarithm_width c in
      let u = cable_integral_under_logarithm c in
      record { integral_order = cable_integral_ordered c; logarithm_order = cable_logarithm_ordered c; low_under = u.low; high_under = u.high; integral_width = omega (arith, h); logarithm_width = omega (arith, n) }

  pub group_close : {xs : List Source} → AllBeside xs → Close (group_integral d l s t xs) (group_logarithm d l xs)
  group_close a = let z = cable_stretch c in all_close _ _ z.diffusion_some z.diffusion_small a cable_close

  pub group_logarithm_above_zero : (xs : List Source) → 0 < (group_logarithm d l xs).low
  group_logarithm_above_zero xs = let g = logarithms_grow (cable_logarithm d l) xs in let z = cable_logarithm_above_zero c in omega (arith, g.0)

  pub group_logarithm_most : {xs : List Source} → AllBeside xs → length xs ≤ 48 → (group_logarithm d l xs).high ≤ 822 * one
  group_logarithm_most a h = let g = logarithms_most (cable_logarithm d l) a in let m = cable_logarithm_most c in omega arith

  -- for every accepted cable, its neighbours, however many, and time. Document 02, note 2: "The share keeps its 50 millionths for any neighbours, proved once over
  -- their list"
  pub share_within_inner_width : (fast slow : ℕ) {xs : List Source} → AllBeside xs → Within inner_width (attained_share d l s k w fast slow t xs)
  unfolding attained_share
  share_within_inner_width fast slow {xs} a =
      let z = group_close a in
      let b = beta_within 25 _ _ z.integral_order z.logarithm_order (group_logarithm_above_zero xs) z.low_under (beta_by_close _ _ _ _ z.integral_width z.logarithm_width) in
      share_of_within _ _ (surface_within 0 25 3334 (exactly k) _ c.k_most (beta_at_most_one _ _).high (omega arith) b (omega arith)) (attainment_within_52 w fast slow t c.w_most)
      (surface_at_most_one _ _).low (attainment_at_most_one w fast slow t).low

pub share_at_most_million : (d l s k w fast slow t : ℕ) (xs : List Source) → Under million (attained_share d l s k w fast slow t xs)
unfolding attained_share
share_at_most_million d l s k w fast slow t xs = share_of_at_most_million _ _
