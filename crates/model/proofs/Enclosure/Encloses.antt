-- How a pair that encloses one exact value is carried to another, to its ends made wider, and to plain values and back.
use Prim.Native.Nat.{ℕ}
use Rattle.numbers.specs.Fraction.{Frac, ◌≼◌, ◌per◌}
use Rattle.numbers.specs.Signed.{of_frac}
use Rattle.numbers.proofs.SignedFractions.{trans≼ₛ, of_frac≼}
use Rattle.bounds.specs.Pair.{Pair}
use Rattle.exact.specs.Value.{Value, AtMost, AtLeast, ◌⊴◌, Fine}
use Rattle.exact.proofs.Plain.{Plain}
use Rattle.exact.proofs.Values.{lift, at_most_join, at_least_join}
use Rattle.exact.proofs.Lifting.{◌≐◌}
use Rattle.exact.proofs.Pairs.{Around, around_of, around_most, around_least}
use Rattle.model.specs.Encloses.{Encloses}

pub most_less : {a b : Frac} {x : Value} → a ≼ b → AtMost (of_frac b) x → AtMost (of_frac a) x
most_less h k = record { most = λ n t. trans≼ₛ (of_frac≼ h) (k.most n t) }

pub least_more : {a b : Frac} {x : Value} → a ≼ b → AtLeast (of_frac a) x → AtLeast (of_frac b) x
least_more h k = record { least = λ n t. trans≼ₛ (k.least n t) (of_frac≼ h) }

-- in units of 1/scale the pair is around the plain value
abbrev pub Holds : ℕ → Pair → Plain → Type 0
Holds scale b x = Around (b.low per scale) (b.high per scale) x

pub encloses_same : {scale : ℕ} {b : Pair} {x y : Value} → x ⊴ y → y ⊴ x → Fine x → Encloses scale b x → Encloses scale b y
encloses_same h k f e = record { low_at_most = at_most_join h f e.low_at_most; high_at_least = at_least_join k f e.high_at_least }

pub holds_of : {scale : ℕ} {b : Pair} (x : Plain) → Encloses scale b (lift x) → Holds scale b x
holds_of x e = around_of e.low_at_most e.high_at_least

pub encloses_of : {scale : ℕ} {b : Pair} {x : Plain} {y : Value} → y ≐ lift x → Holds scale b x → Encloses scale b y
encloses_of s h = record { low_at_most = around_most s h; high_at_least = around_least s h }
