-- Laws of signed numbers that are read.
use mathlib.Core.Path.{◌≡◌, refl, sym, ◌∙◌}
use mathlib.Core.Bool.{Bool, true, false, cond, ◌&&◌, and-true}
use mathlib.Core.List.{List, [], ◌∷◌}
use Rattle.std.specs.Prelude.{Some, None}
use Prim.Native.Nat.{ℕ, min}
use native.Mathlib.Nat.{min-eq_left, min-eq_right}
use native.Mathlib.Omega.{arith}
use borrow.Author.Tests.{ltb-true, ltb-false}
use lib.Dec.{eqb, ltb}
use lib.ListN.{take, drop}
use lib.Pointwise.{pointwise}
use Rattle.text.specs.Reading.{minus_sign, digits_only, value, number_of, beyond_signed, with_sign, signed_by, has_minus, signed_of, as_integer}

-- the library's test of what a text begins with
begins : (s : List ℕ) → pointwise eqb (take 1 s) (minus_sign ∷ []) ≡ has_minus s
begins [] = refl
begins (b ∷ s) = and-true (eqb b minus_sign)

-- a number that is held at the limit is not below it
held_size : (minus : Bool) (n : ℕ) → as_integer minus (Some (min n beyond_signed)) ≡ as_integer minus (Some n)
held_size minus n = go (ltb n beyond_signed) refl
  where
    go : (small : Bool) → ltb n beyond_signed ≡ small → as_integer minus (Some (min n beyond_signed)) ≡ as_integer minus (Some n)
    go true e = rw (min-eq_left {n = n} {m = beyond_signed} (omega (arith, ltb-true n beyond_signed e)))
    go false e = rw (min-eq_right {n = beyond_signed} {m = n} (ltb-false n beyond_signed e), e)

spelled_integer : (minus : Bool) (s : List ℕ) → as_integer minus (number_of s beyond_signed) ≡ signed_by minus s
unfolding number_of
spelled_integer minus s = go (digits_only s)
  where
    go : (yes : Bool) → as_integer minus (cond yes (Some (min (value s) beyond_signed)) None)
        ≡ cond (yes && ltb (value s) beyond_signed) (Some (with_sign minus (value s))) None
    go true = held_size minus (value s)
    go false = refl

module _ (s : List ℕ) where
  pub after_minus : {digits : List ℕ} → pointwise eqb (take 1 s) (minus_sign ∷ []) ≡ true → digits ≡ drop 1 s
      → as_integer true (number_of digits beyond_signed) ≡ signed_of s
  unfolding signed_of
  after_minus e d = rw (d, sym (begins s) ∙ e) (spelled_integer true (drop 1 s))

  pub without_minus : pointwise eqb (take 1 s) (minus_sign ∷ []) ≡ false → as_integer false (number_of s beyond_signed) ≡ signed_of s
  unfolding signed_of
  without_minus e = rw (sym (begins s) ∙ e) (spelled_integer false s)
