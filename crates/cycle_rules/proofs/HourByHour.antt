-- The largest heating sum, one hour more at a time, as the loop of `largest_sum` goes.
use mathlib.Core.Path.{◌≡◌, refl, sym, ap, ap₂, ◌∙◌}
use mathlib.Core.Bool.{Bool, true, false}
use mathlib.Core.List.{List}
use Prim.Native.Nat.{ℕ, ◌+◌, ◌<◌}
use native.Mathlib.Numerals.{add-one}
use native.Mathlib.Omega.{arith}
use mir.Syntax.{w64}
use mir.Val.{SFits}
use mir.Facts.{to_z-of_z}
use lib.IntN.{ℤ}
use lib.Signed.{le_z}
use Rattle.numbers.proofs.Machine.{seen, fits}
use Rattle.bounds.specs.Promises.{Sized}
use Rattle.bounds.specs.declared.Bounds.{Bounds}
use Rattle.cycle_rules.specs.Heating.{heating_bounds, heating_sum, latest_largest}
use Rattle.cycle_rules.specs.Asked.{most_sum}
use Rattle.cycle_rules.proofs.ReferenceHour.{latest_one}

module _ (sums : ℕ → ℤ) (k : ℕ) where
  latest_here : le_z (sums (latest_largest sums k)) (sums k) ≡ true → latest_largest sums (k + 1) ≡ k
  unfolding latest_largest
  latest_here e = rw (add-one k) (rw (latest_largest, e) refl)

  latest_kept : le_z (sums (latest_largest sums k)) (sums k) ≡ false → latest_largest sums (k + 1) ≡ latest_largest sums k
  unfolding latest_largest
  latest_kept e = rw (add-one k) (rw (latest_largest, e) refl)

pub latest_first : (sums : ℕ → ℤ) → latest_largest sums 1 ≡ 0
latest_first sums = let h : latest_largest sums 1 < 1 = latest_one sums 1 (omega arith) in omega arith

end_fits : {b : Bounds} → Sized most_sum b → SFits w64 b.high
end_fits {b} s = fits b.high (omega (arith, s.high))

module _ (pairs : ℕ → Bounds) (hours : List ℕ) (k : ℕ) {largest sum : Bounds} (el : largest ≡ heating_bounds pairs hours (latest_largest (heating_sum pairs hours) k)) (es : sum ≡ heating_bounds pairs hours k) (sl : Sized most_sum largest) (ss : Sized most_sum sum) where
  test_is : {t : Bool} → le_z (seen largest.high) (seen sum.high) ≡ t → le_z (heating_sum pairs hours (latest_largest (heating_sum pairs hours) k)) (heating_sum pairs hours k) ≡ t
  test_is e = ap₂ le_z (ap (λ (b : Bounds). b.high) (sym el)) (ap (λ (b : Bounds). b.high) (sym es)) ∙ (rw (to_z-of_z (end_fits sl), to_z-of_z (end_fits ss)) at e)

  pub hotter_here : le_z (seen largest.high) (seen sum.high) ≡ true → sum ≡ heating_bounds pairs hours (latest_largest (heating_sum pairs hours) (k + 1))
  hotter_here e = es ∙ ap (heating_bounds pairs hours) (sym (latest_here (heating_sum pairs hours) k (test_is e)))

  pub hotter_kept : le_z (seen largest.high) (seen sum.high) ≡ false → largest ≡ heating_bounds pairs hours (latest_largest (heating_sum pairs hours) (k + 1))
  hotter_kept e = el ∙ ap (heating_bounds pairs hours) (sym (latest_kept (heating_sum pairs hours) k (test_is e)))
