-- e^(-u) at a knot is that at the far end of the slice below it, whatever the diffusion.
use mathlib.Core.Path.{◌≡◌, sym}
use Prim.Native.Nat.{ℕ, suc, ◌+◌, ◌*◌, ◌-◌, ◌<◌}
use borrow.Author.Tests.{lt-ltb, le-ltb}
use native.Mathlib.Omega.{arith}
use Rattle.model.specs.Scale.{far_from, units}
use Rattle.model.specs.Exponential.{exp_pair}
use Rattle.model.specs.Logarithm.{power_of_two}
use Rattle.model.proofs.Exponential.{exp_scaled}
use Rattle.integral.specs.Knots.{knot_exp}

pub unit_knot : (i diffusion : ℕ) → i < units → 0 < diffusion → knot_exp i ≡ exp_pair ((far_from - i) * diffusion) diffusion
unfolding knot_exp
unit_knot i diffusion h z = rw (lt-ltb i units h, knot_exp) (sym (go (far_from - i) (omega arith) (omega arith)))
  where
    go : (n : ℕ) → diffusion * n ≡ n * diffusion → diffusion * 1 ≡ diffusion → exp_pair (n * diffusion) diffusion ≡ exp_pair n 1
    go n e f = rw (e, f) at (exp_scaled diffusion n 1 z)

pub half_knot : (k diffusion : ℕ) → 0 < diffusion → knot_exp (units + k) ≡ exp_pair (2 * diffusion) (diffusion * power_of_two (suc k))
unfolding knot_exp power_of_two
half_knot k diffusion z =
    let e : units + k - units ≡ k = omega arith in
    rw (le-ltb (units + k) units (omega arith), knot_exp, e) (sym (go (omega arith) (omega arith)))
  where
    go : 2 * diffusion * 1 ≡ 2 * diffusion → 2 * diffusion * power_of_two k ≡ diffusion * (2 * power_of_two k) → exp_pair (2 * diffusion) (diffusion * (2 * power_of_two k)) ≡ exp_pair 1 (power_of_two k)
    go e f = rw (e, f) at (exp_scaled (2 * diffusion) 1 (power_of_two k) (omega arith))
