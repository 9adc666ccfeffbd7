-- The numbers of the fixed point, each with its scale. Fractions are whole numbers of 2^-30 unless a line says otherwise.
use Rattle.std.specs.Prelude.{ℕ, ◌+◌}
use Rattle.bounds.specs.Pair.{Pair}

-- 1, which is 2^30 units
abbrev pub one : ℕ
one = 1073741824

-- 1/2
abbrev pub half : ℕ
half = 536870912

-- the last order of the series of a slice, what its sum may lose by rounding down, and what its last term may
abbrev pub series_order : ℕ
series_order = 19

abbrev pub series_loss : ℕ
series_loss = 172

abbrev pub term_loss : ℕ
term_loss = 15

-- the last order of the series of the exponential, and what its sum may lose, with the terms left out
abbrev pub exp_order : ℕ
exp_order = 12

abbrev pub exp_loss : ℕ
exp_loss = 49

-- e^(-1) lies between these
abbrev pub inverse_e_low : ℕ
inverse_e_low = 395007542

abbrev pub inverse_e_high : ℕ
inverse_e_high = 395007543

-- Beyond this argument, a plain number, e^(-u) is taken for anything from 0 to e^(-17), and the heating integral for one far slice.
abbrev pub far_from : ℕ
far_from = 16

-- 8·t·s stays below this, a plain number: 8 · 172,800 · 2,000
abbrev pub diffusion_end : ℕ
diffusion_end = 4294967296

-- how many slices of the heating integral lie between the knots 16, 15, .., 1; and how many between 1, 1/2, 1/4, .. a near end of 1 or more and a diffusion below 2^32
-- may need
abbrev pub units : ℕ
units = 15

abbrev pub halves : ℕ
halves = 32

-- a logarithm is of a quotient below 2 to this power, a plain number
abbrev pub most_doublings : ℕ
most_doublings = 33

-- 1, in millionths: the share, k and the weight of the fast part
abbrev pub million : ℕ
million = 1000000

-- 1, in the unit of β. Heating integrals of at most 1,013 · 2^30 together, of 49 sources, times this stay below 2^63.
abbrev pub beta_one : ℕ
beta_one = 7500000

-- 1, in thousand millionths, the unit of the surface factor
abbrev pub surface_one : ℕ
surface_one = 1000000000

-- units of β's times millionths to one of the surface factor's: million · beta_one / surface_one
abbrev pub beta_to_surface : ℕ
beta_to_surface = 7500

-- units of the surface factor's times 2^-30 to one millionth: surface_one · one / million
abbrev pub surface_to_share : ℕ
surface_to_share = 1073741824000

-- the conductor's attainment before its division by a million: million · one
abbrev pub attainment_one : ℕ
attainment_one = 1073741824000000

-- a number known exactly
abbrev pub exactly : ℕ → Pair
exactly n = record { low = n; high = n }

-- a number known rounded down
abbrev pub from_floor : ℕ → Pair
from_floor n = record { low = n; high = n + 1 }
