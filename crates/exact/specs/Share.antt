-- Document 01, 'The attained share': attainment, p, q, J, β and G of a cable and a minute count, for plain whole numbers; β with the neighbours of
-- document 02, note 2, where a comment quotes it. The default diffusivity and the refusals are not known here.
use Rattle.std.specs.Prelude.{ℕ, ◌+◌, ◌*◌, ◌-◌, ◌≤◌, List, [], ◌∷◌, map, ℤ, nat_abs}
use Rattle.numbers.specs.Fraction.{Frac, ◌per◌, whole, 1F, ◌⊗◌}
use Rattle.exact.specs.Value.{Value, number, exp_neg, integral, ln, ◌+ᵥ◌, ◌−ᵥ◌, ◌·ᵥ◌, ◌/ᵥ◌}

-- "A neighbour record holds an offset to the side in mm (two's complement), a depth in mm and a next link": what it says of the neighbour
pub record Neighbour : Type 0 where
  pub offset : ℤ
  pub depth : ℕ

-- Document 01, 'The cable', fields 1 to 7 in their units, and the neighbours in the trench; s is the diffusivity in use.
-- With neighbours, "Field 4 is then the ratio for the whole group": k is taken as it stands.
pub record CableNumbers : Type 0 where
  pub d : ℕ
  pub l : ℕ
  pub s : ℕ
  pub k : ℕ
  pub w : ℕ
  pub fast : ℕ
  pub slow : ℕ
  pub neighbours : List Neighbour

-- "Let c² be the squared distance to the neighbour's axis and m² that to its image above ground", in mm²
pub record Source : Type 0 where
  pub near : ℕ
  pub image : ℕ

-- how far apart two depths are
abbrev pub between : ℕ → ℕ → ℕ
between a b = (a - b) + (b - a)

-- of a cable that lies l deep: the neighbour's image is as high above ground as the neighbour is deep
abbrev pub source_of : ℕ → Neighbour → Source
source_of l n = record {
  near = nat_abs n.offset * nat_abs n.offset + between l n.depth * between l n.depth;
  image = nat_abs n.offset * nat_abs n.offset + (l + n.depth) * (l + n.depth);
}

-- "This is the separate-source form [..], not the merged source": one source for each neighbour
abbrev pub sources : CableNumbers → List Source
sources c = map (source_of c.l) c.neighbours

-- the ranges of 'The cable', and the slow rate at most the fast one
pub record InRange (c : CableNumbers) : Type 0 where
  pub d_from : 100 ≤ c.d
  pub d_to : c.d ≤ 1500
  pub l_from : 300 ≤ c.l
  pub l_to : c.l ≤ 5000
  pub s_from : 100 ≤ c.s
  pub s_to : c.s ≤ 2000
  pub k_to : c.k ≤ 1000000
  pub w_to : c.w ≤ 1000000
  pub fast_from : 1 ≤ c.fast
  pub fast_to : c.fast ≤ 100000
  pub slow_from : 1 ≤ c.slow
  pub slow_to : c.slow ≤ c.fast

-- not refused by "15 for an offset beyond 3,000 mm either way or a depth outside 300 to 5,000, and 16 for c below d"; c is in mm, d in 0.1 mm
pub record InTrench (c : CableNumbers) (n : Neighbour) : Type 0 where
  pub offset_to : nat_abs n.offset ≤ 3000
  pub depth_from : 300 ≤ n.depth
  pub depth_to : n.depth ≤ 5000
  pub apart : c.d * c.d ≤ 100 * (source_of c.l n).near

-- "for each neighbour in turn"
pub data AllInTrench (c : CableNumbers) : List Neighbour → Type 0 where
  none : AllInTrench c []
  more : {n : Neighbour} {ns : List Neighbour} → InTrench c n → AllInTrench c ns → AllInTrench c (n ∷ ns)

-- a cable in range with its neighbours, and a minute count that may be asked
pub record Accepted (c : CableNumbers) (minutes : ℕ) : Type 0 where
  pub cable : InRange c
  pub neighbours : AllInTrench c c.neighbours
  pub minutes_from : 1 ≤ minutes
  pub minutes_to : minutes ≤ 2880

-- t, 60 times the minutes
abbrev pub seconds : ℕ → ℕ
seconds minutes = 60 * minutes

abbrev pub millionths : ℕ → Frac
millionths n = n per 1000000

-- a rate in millionths per second, times t
abbrev pub exponent : ℕ → ℕ → Frac
exponent rate minutes = millionths rate ⊗ whole (seconds minutes)

-- p = 5·d²/(8·t·s)
abbrev pub near_end : CableNumbers → ℕ → Frac
near_end c minutes = (5 * c.d * c.d) per (8 * seconds minutes * c.s)

-- q = 1,000·l²/(t·s)
abbrev pub far_end : CableNumbers → ℕ → Frac
far_end c minutes = (1000 * c.l * c.l) per (seconds minutes * c.s)

-- r = 1,600·l²/d²
abbrev pub ratio : CableNumbers → Frac
ratio c = (1600 * c.l * c.l) per (c.d * c.d)

-- 1 − w·e^(−fast·t) − (1−w)·e^(−slow·t)
abbrev pub attainment : CableNumbers → ℕ → Value
attainment c minutes =
    number 1F −ᵥ number (millionths c.w) ·ᵥ exp_neg (exponent c.fast minutes)
    −ᵥ (number 1F −ᵥ number (millionths c.w)) ·ᵥ exp_neg (exponent c.slow minutes)

-- J from p to q
abbrev pub heating : CableNumbers → ℕ → Value
heating c minutes = integral (near_end c minutes) (far_end c minutes)

-- "c²/(4tδ)" and "m²/(4tδ)", for a square in mm² and δ = s·10^-9 m²/s
abbrev pub source_end : ℕ → ℕ → ℕ → Frac
source_end s minutes square = (1000 * square) per (4 * seconds minutes * s)

-- "the integral of e^(−u)/u from c²/(4tδ) to m²/(4tδ)"
abbrev pub source_heating : ℕ → ℕ → Source → Value
source_heating s minutes x = integral (source_end s minutes x.near) (source_end s minutes x.image)

-- "ln(m²/c²)"
abbrev pub source_log : Source → Value
source_log x = ln (x.image per x.near)

-- a sum "plus, for each neighbour, the integral"
abbrev pub with_heatings : ℕ → ℕ → Value → List Source → Value
with_heatings s minutes sum [] = sum
with_heatings s minutes sum (x ∷ xs) = with_heatings s minutes (sum +ᵥ source_heating s minutes x) xs

-- a sum "plus each ln(m²/c²)"
abbrev pub with_logs : Value → List Source → Value
with_logs sum [] = sum
with_logs sum (x ∷ xs) = with_logs (sum +ᵥ source_log x) xs

-- "β then has as numerator J plus, for each neighbour, the integral of e^(−u)/u from c²/(4tδ) to m²/(4tδ), and as divisor ln(1,600·l²/d²) plus each
-- ln(m²/c²)"; without neighbours it is document 01's J/ln(1,600·l²/d²)
abbrev pub beta : CableNumbers → ℕ → Value
beta c minutes = with_heatings c.s minutes (heating c minutes) (sources c) /ᵥ with_logs (ln (ratio c)) (sources c)

-- 1 − k + k·β
abbrev pub surface : CableNumbers → ℕ → Value
surface c minutes = number 1F −ᵥ number (millionths c.k) +ᵥ number (millionths c.k) ·ᵥ beta c minutes

-- G
abbrev pub share : CableNumbers → ℕ → Value
share c minutes = surface c minutes ·ᵥ attainment c minutes
