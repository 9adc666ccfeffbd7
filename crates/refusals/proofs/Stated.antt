-- What a stated answer tells: values that are stated are the answer's own, and a refusal states none.
use mathlib.Core.Path.{◌≡◌, ap}
use mathlib.Core.List.{List, [], ◌∷◌}
use Prim.Native.Nat.{ℕ}
use native.Mathlib.Omega.{arith}
use lib.IntN.{ℤ}
use Rattle.refusals.specs.Stated.{Stated, stated_values, stated_refusal}
use Rattle.refusals.specs.declared.Refusal.{Refusal}

pub same_values : {xs ys : List ℤ} → stated_values xs ≡ stated_values ys → xs ≡ ys
same_values e = ap (λ (s : Stated). s.values) e

pub no_values : (f : Refusal) {x : ℤ} {xs : List ℤ} → stated_refusal f ≡ stated_values (x ∷ xs) → ⊥
no_values f {x} {xs} e =
    let none : [] ≡ x ∷ xs = ap (λ (s : Stated). s.values) e in
    let z : ◌≡◌ {A = ℕ} 0 1 = cc in
    omega arith
