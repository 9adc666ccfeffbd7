-- `same_bytes` is true exactly where the two lists are equal.
use mathlib.Core.Path.{◌≡◌, refl, ap, sym, ◌∙◌}
use mathlib.Core.Bool.{true, ◌&&◌, and-eq-true_iff}
use mathlib.Core.List.{List, [], ◌∷◌}
use Prim.Native.Nat.{ℕ}
use native.Mathlib.Omega.{arith}
use borrow.Author.Tests.{eqb-true, eq-eqb}
use lib.Dec.{eqb}
use lib.Pointwise.{pointwise}
use Rattle.text.specs.Reading.{same_bytes}

pub same_to : (s t : List ℕ) → same_bytes s t ≡ true → s ≡ t
unfolding same_bytes
same_to [] [] e = refl
same_to [] (b ∷ t) e = let z : ◌≡◌ {A = ℕ} 0 1 = cc in absurd (omega arith)
same_to (a ∷ s) [] e = let z : ◌≡◌ {A = ℕ} 0 1 = cc in absurd (omega arith)
same_to (a ∷ s) (b ∷ t) e =
    let both = (and-eq-true_iff (eqb a b) (same_bytes s t)).0 e in
    let head : a ≡ b = eqb-true a b both.0 in
    let tail : s ≡ t = same_to s t both.1 in
    cc

pub same_self : (s : List ℕ) → same_bytes s s ≡ true
unfolding same_bytes
same_self [] = refl
same_self (a ∷ s) = rw (eq-eqb a a refl) (same_self s)

pub same_of : {s t : List ℕ} → s ≡ t → same_bytes s t ≡ true
same_of {s} e = ap (same_bytes s) (sym e) ∙ same_self s

-- what the library's `==` tests
pub same_test : (s t : List ℕ) → pointwise eqb s t ≡ same_bytes s t
unfolding same_bytes
same_test [] [] = refl
same_test [] (b ∷ t) = refl
same_test (a ∷ s) [] = refl
same_test (a ∷ s) (b ∷ t) = ap (λ r. eqb a b && r) (same_test s t)
