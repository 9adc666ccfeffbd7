-- The same slices with the exponent 0, so that e^(−X u)/u is 1/u: the two totals against the fractions of ln ((p + w)/p), at every order.
use Prim.Native.Nat.{ℕ, suc, ◌<◌}
use mathlib.Core.List.{List, [], ◌∷◌}
use native.Mathlib.Omega.{arith}
use Rattle.numbers.specs.Fraction.{Frac, ◌≼◌, ◌≈◌, ◌per◌, whole, 0F, 1F, ◌⊕◌, ◌⊗◌}
use Rattle.numbers.proofs.Fractions.{refl≼, trans≼, mul≼, ÷≼}
use Rattle.numbers.proofs.FractionProver.{qv, qn, ◌*'◌, q_le}
use Rattle.numbers.proofs.Sums.{sum≼}
use Rattle.exact.specs.Cutting.{cut_at, ln_high, ln_low}
use Rattle.exact.proofs.Exponential.{high_one, exp_sum_zero, low_zero}
use Rattle.exact.proofs.Cutting.{cut_above}
use Rattle.exact.proofs.Slices.{series, Slice, All, Adjacent, total}
use Rattle.exact.proofs.Enclosure.{low_area, high_area, LowerKind, series_low, UpperKind, series_high, Lower, Upper, total_under, total_over}

abbrev pub ln_exponent : Frac → Frac
ln_exponent u = 0F

pub ln_linear : (a : Frac) → 0F ≈ 0F ⊗ a
ln_linear a = omega arith

module _ (p w : Frac) (zp : 0 < p.num) (ss : List Slice) (adj : Adjacent p ss (p ⊕ w)) (n : ℕ) (z : 0 < n) where
  pub ln_under : All (Lower ln_exponent) ss → total (low_area ln_exponent) ss ≼ ln_high p w n
  ln_under os = trans≼ (total_under 0F ln_exponent ln_linear p w zp ss adj n z os) (mul≼ (refl≼ (w ⊗ (1 per n))) (sum≼ _ _ n (λ i l. ÷≼ (cut_above p w i n zp) (high_one 0F n) (refl≼ (cut_at p w i n)))))

  pub ln_over : All (Upper ln_exponent) ss → ln_low p w n ≼ total (high_area ln_exponent) ss
  ln_over os = trans≼ (mul≼ (refl≼ (w ⊗ (1 per n))) (sum≼ _ _ n (λ i l. ÷≼ (cut_above p w (suc i) n zp) (low_zero n) (refl≼ (cut_at p w (suc i) n))))) (total_over 0F ln_exponent ln_linear p w zp ss adj n z os)

-- what a slice of ln must keep: its reciprocal; for the upper total, a width of at most half the far end
pub ln_lower : (far r L U : Frac) (k : ℕ) → L ≼ 1F → r ⊗ far ≈ 1F → LowerKind ln_exponent far (series r L U k)
ln_lower far r L U k b e = series_low e (record { under = λ m. trans≼ (mul≼ b (exp_sum_zero m)) (q_le [] (qn 1 *' qn 1) (qn 1) tt) })

pub ln_upper : (far width r L U : Frac) (k : ℕ) → 1F ≼ U → r ⊗ far ≈ 1F → whole 2 ⊗ width ≼ far → UpperKind ln_exponent far width (series r L U k)
ln_upper far width r L U k b e h = series_high {k = k} e (record { order = 0; reaches = trans≼ b (q_le (U ∷ []) (qv 0) (qv 0 *' qn 1) tt) }) (record { half = h; fourth = omega arith; double = omega arith })
