-- What the parts of the share, the sums of its sources and the share ask of their arguments. Document 01, 'The cable'; document 02, note 2.
use Rattle.std.specs.Prelude.{ℕ, ◌*◌, ◌≤◌, ◌<◌, T}
use Rattle.std.specs.Int.Signed.{non_neg}
use Rattle.bounds.specs.Pair.{as_pair}
use Rattle.bounds.specs.Promises.{largest, QuotientRoom}
use Rattle.bounds.specs.declared.Bounds.{Bounds}
use Rattle.model.specs.Scale.{one, million, beta_one, diffusion_end}
use Rattle.series.specs.Asked.{UpTo}
use Rattle.integral.specs.Asked.{Span}
use Rattle.attained.specs.declared.Sums.{Sums}

-- a part that does not pass its whole
pub record PartOf (whole : ℕ) (part : Bounds) : Type 0 where
  pub whole_small : whole ≤ largest
  pub part_most : UpTo whole part

-- k in millionths, and β in units of 1/betaOne
pub record FactorAsked (k beta : Bounds) : Type 0 where
  pub k_most : UpTo million k
  pub beta_most : UpTo beta_one beta

-- the largest rate, in millionths per second
abbrev pub most_rate : ℕ
most_rate = 100000

-- the longest time, in seconds: 2,880 minutes
abbrev pub most_seconds : ℕ
most_seconds = 172800

pub record AttainmentAsked (w fast slow seconds : ℕ) : Type 0 where
  pub w_most : w ≤ million
  pub fast_most : fast ≤ most_rate
  pub slow_most : slow ≤ most_rate
  pub seconds_most : seconds ≤ most_seconds

-- from near to far, under the high end of their logarithm
pub record HeatAsked (near far diffusion : ℕ) (logarithm : Bounds) : Type 0 where
  pub not_below : T (non_neg logarithm.high)
  pub span : Span near far diffusion (as_pair logarithm).high

-- a cable's diameter and depth, and 8·t·s
pub record CableAsked (d l diffusion : ℕ) : Type 0 where
  pub d_least : 100 ≤ d
  pub d_most : d ≤ 1500
  pub l_least : 300 ≤ l
  pub l_most : l ≤ 5000
  pub diffusion_some : 0 < diffusion
  pub diffusion_small : diffusion < diffusion_end

-- the most that the logarithms of a cable and 48 neighbours add up to, in units of 2^-30: 54 and 48 times 16
abbrev pub most_sum : ℕ
most_sum = 822 * one

-- a neighbour's squared distances in mm², and what is summed before it
pub record JoinAsked (sums : Sums) (near image diffusion : ℕ) : Type 0 where
  pub near_least : 100 ≤ near
  pub image_least : 26 * near ≤ 25 * image
  pub image_most : image ≤ 109000000
  pub diffusion_some : 0 < diffusion
  pub diffusion_small : diffusion < diffusion_end
  pub heat_most : UpTo most_sum sums.heat
  pub logarithm_most : UpTo most_sum sums.logarithm

-- sums of which β can be had, and the cable's other fields
pub record ShareAsked (sums : Sums) (k w fast slow seconds : ℕ) : Type 0 where
  pub room : QuotientRoom sums.heat sums.logarithm beta_one
  pub k_most : k ≤ million
  pub attainment : AttainmentAsked w fast slow seconds
