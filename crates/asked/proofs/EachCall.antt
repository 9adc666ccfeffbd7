-- What every call gives of a closure that its calls leave as it is, in the array made by them.
use Rattle.std.proofs.Common.{ℕ, zero, suc, ◌+◌, ◌≤◌, ◌<◌, ◌≡◌, ⊎_elim, sym, subst, List, slice_index_or, arith}
use Rattle.std.proofs.lemmas.Bool.{cases_lt}
use Rattle.std.specs.Array.{IsFromFnResultFrom}
use Rattle.std.specs.Fn.{Called}
use denote.Param.Members.{Mut}

pub each_call :
    {F B : Type 0} (g : Mut F (ℕ × Unit {0}) B) (P : ℕ → B → Type 0) (f : F)
    → ((k : ℕ) (y : B) (q : F) → Called g f (k, tt) y q → P k y × (q ≡ f))
    → (ys : List B) (i n : ℕ) → IsFromFnResultFrom g f ys i n → (k : ℕ) (d : B) → i ≤ k → k < i + n → P k (slice_index_or ys k d)
each_call g P f same ys i zero calls k d from below = absurd (omega (arith, from, below))
each_call g P f same ys i (suc n) (q, y, place, called, rest) k d from below =
    ⊎_elim (λ later. each_call g P f same ys (i + 1) n (subst (λ p. IsFromFnResultFrom g p ys (i + 1) n) kept rest) k d (omega (arith, later)) (omega (arith, below))) here (cases_lt i k)
  where
    first : P i y × (q ≡ f)
    first = same i y q called

    kept : q ≡ f
    kept = first.1

    here : k ≤ i → P k (slice_index_or ys k d)
    here at =
        let e : i ≡ k = omega (arith, from, at) in
        subst (λ j. P j (slice_index_or ys j d)) e (subst (P i) (sym (place.1 d)) first.0)
