-- By the sign: a number below 0 is -1 - m, and its floor -1 - m / d. Assumes nothing.
use mathlib.Core.Path.{◌≡◌, refl, sym, ap, ◌∙◌}
use native.Mathlib.Omega.{arith}
use borrow.Author.Rules.{rules}
use borrow.Author.Tests.{ltb-true}
use mathlib.Core.Bool.{Bool, true}
use Prim.Native.Nat.{ℕ, ◌/◌}
use lib.IntN.{ℤ, pos, negsuc}
use lib.Signed.{lt_z}
use mir.Syntax.{w64}
use mir.Val.{SFits}
use mir.Facts.{to_z-of_z}
use Rattle.numbers.specs.Integer.{up}
use Rattle.numbers.specs.Rounding.{floor_z}
use Rattle.numbers.proofs.Machine.{seen, result_seen, seen_up, flip_bits, flipped}
use Rattle.numbers.proofs.Rounding.{floor_pos}
use Rattle.bounds.proofs.Enclosure.{floor}
use Rattle.bounds.proofs.floor_div.Goals as goal

-- what is known of n as it is seen is known of n
tested : (z : ℤ) {t : Bool} → SFits w64 z → lt_z (seen z) (pos 0) ≡ t → lt_z z (pos 0) ≡ t
tested z f e = rw (to_z-of_z f) at e

-- the quotient of what is flipped, flipped
below : (n s : ℤ) (m d : ℕ) → lt_z n (pos 0) ≡ true → m ≡ up (flipped n) → s ≡ pos (m / d) → flipped s ≡ floor_z n d
unfolding floor_z
below (pos a) s m d t e h = absurd (omega (arith, ltb-true a 0 t))
below (negsuc a) s m d t e h = rw (h, e) refl

pub returns-then-n-lt0 : goal.returns-then-n-lt0
returns-then-n-lt0 c =
    let s = c.signed in
    floor c.requires
    (flip_bits s.result (search rules)
    ∙ below c.args.n s.result c.natural.result c.args.d (tested c.args.n c.ranges.n c.if-n-lt0.true)
    (rw (flip_bits c.args.n c.ranges.n) at c.natural.ensures) s.ensures)

pub returns-else-n-lt0 : goal.returns-else-n-lt0
returns-else-n-lt0 c =
    let r = c.signed-else-n-lt0 in
    floor c.requires
    (result_seen r.result r.type_inv ∙ r.ensures
    ∙ ap (λ (m : ℕ). pos (m / c.args.d)) (seen_up c.args.n c.ranges.n c.natural-else-n-lt0.ensures)
    ∙ sym (floor_pos c.args.n c.args.d (tested c.args.n c.ranges.n c.if-n-lt0.false)))
