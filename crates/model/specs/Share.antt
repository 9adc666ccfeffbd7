-- The attained share in fixed point, of a cable's fields d l s k w fast slow, t seconds and its neighbours. Document 01, 'The attained share', and
-- document 02, note 2, where a comment quotes it.
use Rattle.std.specs.Prelude.{ℕ, ◌*◌, ◌-◌, ◌≤◌, List, [], ◌∷◌}
use Rattle.exact.specs.Share.{Source}
use Rattle.bounds.specs.Pair.{Pair, add_p, scaled_p, quotient_p, times_p, divided_p, at_most_p, less_p}
use Rattle.model.specs.Scale.{million, beta_one, surface_one, beta_to_surface, surface_to_share, attainment_one, exactly}
use Rattle.model.specs.Exponential.{exp_pair}
use Rattle.model.specs.Logarithm.{logarithm}
use Rattle.model.specs.Integral.{heating_integral}

-- "β = J / ln(1,600·l²/d²), the divisor being 2·ln(4L/De)", in units of 1/betaOne; no J passes its logarithm
unfoldable pub beta : Pair → Pair → Pair
beta integral log = at_most_p (quotient_p integral log beta_one) beta_one

-- "1 − k + k·β" as 1 - k·(1 - β), in thousand millionths; k in millionths
unfoldable pub surface_factor : Pair → Pair → Pair
surface_factor k b = less_p surface_one (at_most_p (scaled_p k (less_p beta_one b) beta_to_surface) surface_one)

-- "1 − w·e^(−fast·t) − (1−w)·e^(−slow·t)" from the two exponentials; w in millionths
unfoldable pub attainment_of : ℕ → Pair → Pair → Pair
attainment_of w fastPart slowPart = divided_p (less_p attainment_one (add_p (times_p fastPart w) (times_p slowPart (million - w)))) million

-- the same, from the rates in millionths per second
unfoldable pub attainment : ℕ → ℕ → ℕ → ℕ → Pair
attainment w fast slow t = attainment_of w (exp_pair (fast * t) million) (exp_pair (slow * t) million)

-- the product, in millionths
unfoldable pub share_of : Pair → Pair → Pair
share_of surface attained = at_most_p (scaled_p surface attained surface_to_share) million

-- 2·ln(40·l/d): 4L/De is 40·l/d with l in mm and d in 0.1 mm
unfoldable pub cable_logarithm : ℕ → ℕ → Pair
cable_logarithm d l = times_p (logarithm d (40 * l)) 2

-- J: p is 5·d² over 8·t·s, and q is 8,000·l² over it
unfoldable pub cable_integral : ℕ → ℕ → ℕ → ℕ → Pair
cable_integral d l s t = heating_integral (5 * d * d) (8000 * l * l) (8 * t * s) (cable_logarithm d l).high

-- "ln(m²/c²)" of a neighbour
unfoldable pub source_logarithm : Source → Pair
source_logarithm x = logarithm x.near x.image

-- "the integral of e^(−u)/u from c²/(4tδ) to m²/(4tδ)": with c in mm, c²/(4tδ) is 2,000·c² over 8·t·s, the diffusion
unfoldable pub source_integral : ℕ → Source → Pair
source_integral diffusion x = heating_integral (2000 * x.near) (2000 * x.image) diffusion (source_logarithm x).high

-- a sum "plus each ln(m²/c²)"
unfoldable pub with_logarithms : Pair → List Source → Pair
with_logarithms sum [] = sum
with_logarithms sum (x ∷ xs) = with_logarithms (add_p sum (source_logarithm x)) xs

-- a sum "plus, for each neighbour, the integral"
unfoldable pub with_integrals : ℕ → Pair → List Source → Pair
with_integrals diffusion sum [] = sum
with_integrals diffusion sum (x ∷ xs) = with_integrals diffusion (add_p sum (source_integral diffusion x)) xs

-- "β then has as numerator J plus, for each neighbour, the integral [..], and as divisor ln(1,600·l²/d²) plus each ln(m²/c²)": the divisor, and the
-- numerator
abbrev pub group_logarithm : ℕ → ℕ → List Source → Pair
group_logarithm d l xs = with_logarithms (cable_logarithm d l) xs

abbrev pub group_integral : ℕ → ℕ → ℕ → ℕ → List Source → Pair
group_integral d l s t xs = with_integrals (8 * t * s) (cable_integral d l s t) xs

unfoldable pub attained_share : ℕ → ℕ → ℕ → ℕ → ℕ → ℕ → ℕ → ℕ → List Source → Pair
attained_share d l s k w fast slow t xs =
    share_of (surface_factor (exactly k) (beta (group_integral d l s t xs) (group_logarithm d l xs))) (attainment w fast slow t)

-- The ranges of document 01, 'The cable', of the fields that the width depends on; t is 60 times 1 to 2,880 minutes.
pub record Ranges (d l s k w t : ℕ) : Type 0 where
  pub d_least : 100 ≤ d
  pub d_most : d ≤ 1500
  pub l_least : 300 ≤ l
  pub l_most : l ≤ 5000
  pub s_least : 100 ≤ s
  pub s_most : s ≤ 2000
  pub k_most : k ≤ million
  pub w_most : w ≤ million
  pub t_least : 60 ≤ t
  pub t_most : t ≤ 172800
