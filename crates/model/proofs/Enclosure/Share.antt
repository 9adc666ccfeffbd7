-- The attained share of every accepted cable and minute count: each pair on the way, and the share's, encloses its exact value.
use Prim.Native.Nat.{ℕ, ◌*◌, ◌<◌}
use mathlib.Core.Path.{◌≡◌}
use lib.Dec.{T}
use native.Mathlib.Nat.{mul-pos}
use native.Mathlib.Omega.{arith}
use Rattle.numbers.specs.Fraction.{Frac, ◌≼◌, ◌≈◌, ◌per◌, whole, 1F, ◌⊗◌, ◌∸◌}
use Rattle.numbers.specs.Signed.{of_frac}
use Rattle.numbers.proofs.Fractions.{refl≼, trans≼, add≼, mul≼, per≼, one_above, above, refl≈}
use Rattle.numbers.proofs.Subtraction.{less_on, less_least}
use mathlib.Core.List.{List}
use Rattle.bounds.specs.Pair.{Pair, add_p}
use Rattle.exact.specs.Value.{AtLeast, ◌⊴◌, from_one, integral, ln}
use Rattle.exact.specs.Share.{CableNumbers, Source, sources, source_end, source_heating, source_log, Accepted, seconds, millionths, exponent, near_end, far_end, ratio, heating, share}
use Rattle.exact.specs.Share as exact
use Rattle.exact.proofs.Plain.{Plain, and_0, and_1}
use Rattle.exact.proofs.Plain as plain
use Rattle.exact.proofs.Sources.{Apart, Soil, source_near_above, source_heating_p, source_log_p, heating_on, log_on}
use Rattle.exact.proofs.Values.{lift⊴, at_least_join}
use Rattle.exact.proofs.Parts.{exp_p, integral⊴ₚ, ln⊴ₚ}
use Rattle.exact.proofs.SignedParts.{fine_integral, fine_ln}
use Rattle.exact.proofs.Share.{attainment_p, heating_p, log_p, group_heating_p, group_log_p, beta_p, surface_p, share_p, near_above, surface_one_lem, soil, group_log⊴ₚ}
use Rattle.exact.proofs.ShareRange.{group_heating⊴log, share_low_one_p}
use Rattle.exact.proofs.SignedShare.{attainment_plain, beta_plain, surface_plain, share_plain}
use Rattle.exact.proofs.Pairs.{around_exp, around_wider, around_add}
use Rattle.model.specs.Scale.{one, million, beta_one, surface_one, diffusion_end, exactly}
use Rattle.model.specs.Integral.{Stretch}
use Rattle.model.specs.Exponential.{exp_pair}
use Rattle.model.specs.Logarithm.{power_of_two}
use Rattle.model.specs.Share.{beta, surface_factor, attainment, cable_logarithm, cable_integral, source_logarithm, source_integral, with_logarithms, with_integrals, group_logarithm, group_integral, attained_share, Ranges}
use Rattle.model.proofs.Exponential.{exp_at_most_one}
use Rattle.model.proofs.Share.{beta_at_most_one}
use Rattle.model.proofs.Cable.{cable_stretch, near_below_far}
use Rattle.model.proofs.Group.{Beside, AllBeside, none, more, sources_beside, group_close, group_logarithm_above_zero, share_within_inner_width, share_at_most_million}
use Rattle.model.specs.Encloses.{unit, Encloses}
use Rattle.model.specs.ShareEnclosed.{ShareEnclosed}
use Rattle.model.proofs.Enclosure.Encloses.{Holds, encloses_same, holds_of, encloses_of}
use Rattle.model.proofs.Enclosure.Exponential.{exp_in, exp_in_same}
use Rattle.model.proofs.Enclosure.HeatingIntegral.{heating_integral_encloses}
use Rattle.model.proofs.Enclosure.Logarithm.{logarithm_encloses, twice_logarithm_encloses}
use Rattle.model.proofs.Enclosure.Units.{unit_add}
use Rattle.model.proofs.Enclosure.SharePairs.{beta_holds, surface_holds, attainment_holds, share_holds}

ln_rises : {r r' : Frac} → r ≼ r' → ln r ⊴ ln r'
ln_rises {r} {r'} h = lift⊴ (ln⊴ₚ 1F (r ∸ 1F) 1F (r' ∸ 1F) one_above one_above (mul≼ (less_least r 1F (r' ∸ 1F) (trans≼ h (less_on r' 1F))) (refl≼ 1F)))

integral_same : (p q p' q' : Frac) → 0 < p.num → 0 < p'.num → p ≈ p' → q ≈ q' → integral p q ⊴ integral p' q'
integral_same p q p' q' z z' e f = lift⊴ (integral⊴ₚ p (q ∸ p) p' (q' ∸ p') z z' (mul≼ (further f.to e.from) e.from) e.from (further f.from e.to))
  where
    further : {a b a' b' : Frac} → a ≼ a' → b' ≼ b → a ∸ b ≼ a' ∸ b'
    further {a} {b} {a'} {b'} h k = less_least a b (a' ∸ b') (trans≼ h (trans≼ (less_on a' b') (add≼ k (refl≼ (a' ∸ b')))))

-- ---- a neighbour
module _ (x : Source) (a : Beside x) where
  pub source_logarithm_encloses : Encloses one (source_logarithm x) (source_log x)
  unfolding source_logarithm power_of_two
  source_logarithm_encloses = logarithm_encloses x.near x.image (omega arith) (omega arith) (omega arith)

  source_near_some : 0 < x.near
  source_near_some = omega arith

  source_logarithm_caps : AtLeast (of_frac (unit (source_logarithm x).high)) (ln ((2000 * x.image) per (2000 * x.near)))
  source_logarithm_caps =
      at_least_join (ln_rises (per≼ (2000 * x.image) (2000 * x.near) x.image x.near (omega arith) source_near_some (omega arith))) (fine_ln (x.image per x.near)) source_logarithm_encloses.high_at_least

  -- t·s is above 0, and 8·t·s is the model's diffusion
  module _ (s m : ℕ) (z : Soil s m) (k : 8 * seconds m * s < diffusion_end) where
    eight : 0 < 8 * seconds m * s
    eight = go (seconds m * s) (omega (arith, z))
      where
        go : (v : ℕ) → 0 < v → 0 < 8 * seconds m * s
        go v h = omega (arith, z)

    end_same : (square : ℕ) → (2000 * square) per (8 * seconds m * s) ≈ source_end s m square
    end_same square = record {
      to = per≼ (2000 * square) (8 * seconds m * s) (1000 * square) (4 * seconds m * s) eight z (omega arith);
      from = per≼ (1000 * square) (4 * seconds m * s) (2000 * square) (8 * seconds m * s) z eight (omega arith);
    }

    apart_here : Apart x
    apart_here = record { some = source_near_some; order = omega arith }

    scaled_above : 0 < ((2000 * x.near) per (8 * seconds m * s)).num
    scaled_above = above (source_near_above s m z x apart_here) (end_same x.near).from

    turned : {a b : Frac} → a ≈ b → b ≈ a
    turned e = record { to = e.from; from = e.to }

    source_stretch : Stretch (2000 * x.near) (8 * seconds m * s)
    source_stretch = record { near_some = omega arith; diffusion_some = eight; diffusion_small = k }

    pub source_integral_encloses : Encloses one (source_integral (8 * seconds m * s) x) (source_heating s m x)
    unfolding source_integral
    source_integral_encloses =
        let D = 8 * seconds m * s in
        let above' = source_near_above s m z x apart_here in
        encloses_same (integral_same _ _ (source_end s m x.near) (source_end s m x.image) scaled_above above' (end_same x.near) (end_same x.image))
        (integral_same (source_end s m x.near) (source_end s m x.image) _ _ above' scaled_above (turned (end_same x.near)) (turned (end_same x.image)))
        (fine_integral ((2000 * x.near) per D) ((2000 * x.image) per D) scaled_above)
        (heating_integral_encloses (2000 * x.near) (2000 * x.image) D (source_logarithm x).high source_stretch (omega arith) source_logarithm_caps)

-- ---- any list of neighbours
sum_holds : {p q : Pair} {x y : Plain} → Holds one p x → Holds one q y → Holds one (add_p p q) (plain.add_p x y)
unfolding add_p
sum_holds {p} {q} h k = around_wider (unit_add p.low q.low).to (unit_add p.high q.high).from (around_add h k)

pub logarithms_hold : {xs : List Source} → AllBeside xs → (n : Pair) (own : Plain) → Holds one n own → Holds one (with_logarithms n xs) (log_on own xs)
unfolding with_logarithms
logarithms_hold none n own h = h
logarithms_hold (more {x} a r) n own h = logarithms_hold r (add_p n (source_logarithm x)) (plain.add_p own (source_log_p x)) (sum_holds h (holds_of (source_log_p x) (source_logarithm_encloses x a)))

pub integrals_hold : (s m : ℕ) → Soil s m → 8 * seconds m * s < diffusion_end → {xs : List Source} → AllBeside xs → (j : Pair) (own : Plain) → Holds one j own →
    Holds one (with_integrals (8 * seconds m * s) j xs) (heating_on s m own xs)
unfolding with_integrals
integrals_hold s m z k none j own h = h
integrals_hold s m z k (more {x} a r) j own h =
    integrals_hold s m z k r (add_p j (source_integral (8 * seconds m * s) x)) (plain.add_p own (source_heating_p s m x)) (sum_holds h (holds_of (source_heating_p s m x) (source_integral_encloses x a s m z k)))

module _ (c : CableNumbers) (m : ℕ) (a : Accepted c m) where
  abbrev t : ℕ
  t = seconds m

  ranges : Ranges c.d c.l c.s c.k c.w t
  ranges = omega arith

  -- ---- the logarithm and the heating integral
  pub cable_logarithm_encloses : Encloses one (cable_logarithm c.d c.l) (ln (ratio c))
  unfolding cable_logarithm power_of_two
  cable_logarithm_encloses =
      let e : 40 * c.l * (40 * c.l) ≡ 1600 * c.l * c.l = omega arith in
      rw e at (twice_logarithm_encloses c.d (40 * c.l) (omega arith) (omega arith) (omega arith))

  abbrev log : Pair
  log = cable_logarithm c.d c.l

  square_above : 0 < c.d * c.d
  square_above = let z : 0 < c.d = omega arith in mul-pos z z

  ratio_same : (8000 * c.l * c.l) per (5 * c.d * c.d) ≼ ratio c
  ratio_same = per≼ (8000 * c.l * c.l) (5 * c.d * c.d) (1600 * c.l * c.l) (c.d * c.d) (cable_stretch ranges).near_some square_above (omega arith)

  logarithm_caps : AtLeast (of_frac (unit log.high)) (ln ((8000 * c.l * c.l) per (5 * c.d * c.d)))
  logarithm_caps = at_least_join (ln_rises ratio_same) (fine_ln (ratio c)) cable_logarithm_encloses.high_at_least

  far_den : 0 < t * c.s
  far_den = let z = (cable_stretch ranges).diffusion_some in omega arith

  far_same : (8000 * c.l * c.l) per (8 * t * c.s) ≈ far_end c m
  far_same = record {
    to = per≼ (8000 * c.l * c.l) (8 * t * c.s) (1000 * c.l * c.l) (t * c.s) (cable_stretch ranges).diffusion_some far_den (omega arith);
    from = per≼ (1000 * c.l * c.l) (t * c.s) (8000 * c.l * c.l) (8 * t * c.s) far_den (cable_stretch ranges).diffusion_some (omega arith);
  }

  pub cable_integral_encloses : Encloses one (cable_integral c.d c.l c.s t) (heating c m)
  unfolding cable_integral
  cable_integral_encloses =
      encloses_same (integral_same (near_end c m) _ (near_end c m) (far_end c m) (near_above c m a) (near_above c m a) (refl≈ (near_end c m)) far_same)
      (integral_same (near_end c m) (far_end c m) (near_end c m) _ (near_above c m a) (near_above c m a) (refl≈ (near_end c m)) (record { to = far_same.from; from = far_same.to }))
      (fine_integral (near_end c m) _ (near_above c m a))
      (heating_integral_encloses (5 * c.d * c.d) (8000 * c.l * c.l) (8 * t * c.s) log.high (cable_stretch ranges) (near_below_far ranges) logarithm_caps)

  abbrev heat : Pair
  heat = cable_integral c.d c.l c.s t

  -- ---- the sums over the neighbours
  abbrev group_log : Pair
  group_log = group_logarithm c.d c.l (sources c)

  abbrev group_heat : Pair
  group_heat = group_integral c.d c.l c.s t (sources c)

  beside : AllBeside (sources c)
  beside = sources_beside a

  group_log_holds : Holds one group_log (group_log_p c)
  group_log_holds = logarithms_hold beside log (log_p c) (holds_of (log_p c) cable_logarithm_encloses)

  group_heat_holds : Holds one group_heat (group_heating_p c m)
  group_heat_holds = integrals_hold c.s m (soil c m a) (cable_stretch ranges).diffusion_small beside heat (heating_p c m) (holds_of (heating_p c m) cable_integral_encloses)

  -- ---- β and the surface factor
  beta_here : Holds beta_one (beta group_heat group_log) (beta_p c m)
  beta_here = beta_holds (group_heating⊴log c m a) (group_log⊴ₚ c) (group_logarithm_above_zero ranges (sources c)) (group_close ranges beside).logarithm_order group_heat_holds group_log_holds

  pub beta_encloses : Encloses beta_one (beta group_heat group_log) (exact.beta c m)
  beta_encloses = encloses_of (beta_plain c m a) beta_here

  abbrev factor : Pair
  factor = surface_factor (exactly c.k) (beta group_heat group_log)

  surface_here : Holds surface_one factor (surface_p c m)
  surface_here = surface_holds (millionths c.k) (surface_one_lem c m a) (refl≼ _) (refl≼ _) (beta_at_most_one group_heat group_log) beta_here

  pub surface_encloses : Encloses surface_one factor (exact.surface c m)
  surface_encloses = encloses_of (surface_plain c m a) surface_here

  -- ---- the attainment
  exponential_here : (rate : ℕ) → Holds one (exp_pair (rate * t) million) (exp_p (exponent rate m))
  exponential_here rate = let e = exp_in_same (same rate t) (exp_in (rate * t) million (omega arith)) in around_exp e.below e.above
    where
      same : (x y : ℕ) → (x * y) per million ≈ x per million ⊗ whole y
      same x y = omega arith

  attainment_here : Holds one (attainment c.w c.fast c.slow t) (attainment_p c m)
  unfolding attainment
  attainment_here = attainment_holds c.w a.cable.w_to (exp_at_most_one (c.fast * t) million) (exp_at_most_one (c.slow * t) million) (exponential_here c.fast) (exponential_here c.slow)

  pub attainment_encloses : Encloses one (attainment c.w c.fast c.slow t) (exact.attainment c m)
  attainment_encloses = encloses_of (attainment_plain c m a) attainment_here

  -- ---- the share
  at_most_one : (n : ℕ) → T ((share_p c m).ok n) → (share_p c m).low n ≼ 1F
  at_most_one n o = share_low_one_p c m a n (and_0 (from_one n) (from_one n) (and_1 ((surface_p c m).ok n) ((attainment_p c m).ok n) o))

  pub share_held : Holds million (attained_share c.d c.l c.s c.k c.w c.fast c.slow t (sources c)) (share_p c m)
  unfolding attained_share
  share_held = share_holds at_most_one surface_here attainment_here

  share_encloses : Encloses million (attained_share c.d c.l c.s c.k c.w c.fast c.slow t (sources c)) (share c m)
  share_encloses = encloses_of (share_plain c m a) share_held

  pub share_enclosed : ShareEnclosed c m (attained_share c.d c.l c.s c.k c.w c.fast c.slow t (sources c))
  share_enclosed =
      let w = share_within_inner_width ranges c.fast c.slow beside in
      record { ordered = w.order; at_most_one = (share_at_most_million c.d c.l c.s c.k c.w c.fast c.slow t (sources c)).high; narrow = w.width; encloses = share_encloses }
