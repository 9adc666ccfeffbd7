-- A test that is computed, at one stroke, for every number below n, and what it shows of each of them: the rule of a table is one such test.
use mathlib.Core.Path.{◌≡◌, refl}
use mathlib.Core.Bool.{Bool, true, false, ◌&&◌}
use Prim.Native.Nat.{ℕ, zero, suc, ◌<◌}
use lib.Dec.{T, leb}
use borrow.Author.Tests.{leb-true, leb-false}
use mir.Facts.{and_yes}
use native.Mathlib.Omega.{arith}

-- the test passes at each number below n
unfoldable pub passes : (ℕ → Bool) → ℕ → Bool
passes f zero = true
passes f (suc n) = f n && passes f n

pub at_each : (f : ℕ → Bool) (n k : ℕ) → T (passes f n) → k < n → T (f k)
unfolding passes
at_each f zero k t h = absurd (omega arith)
at_each f (suc n) k t h = let p = and_yes (f n) (passes f n) t in go (leb n k) refl p.0 (λ w. at_each f n k p.1 w)
  where
    go : (b : Bool) → leb n k ≡ b → T (f n) → (k < n → T (f k)) → T (f k)
    go true e u v = let w = leb-true n k e in let q : k ≡ n = omega arith in rw q u
    go false e u v = v (leb-false n k e)
