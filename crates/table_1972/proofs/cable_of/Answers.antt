-- The test is that of the definition.
use mathlib.Core.Path.{◌≡◌, ◌∙◌}
use Prim.Native.Nat.{ℕ, ◌+◌, ◌*◌, ◌≤◌, ◌<◌}
use native.Mathlib.Omega.{arith}
use borrow.Author.Tests.{lt-ltb, le-ltb}
use Rattle.table_1972.specs.Agreement.{surface_cable, table_cable}
use Rattle.table_1972.proofs.cable_of.Goals as goal

as_it_is : (column : ℕ) → column < 25 → surface_cable (300 + 50 * column) 1000 500 ≡ table_cable column
unfolding table_cable
as_it_is column h = rw (lt-ltb column 25 h, table_cable)

half_size : (column : ℕ) → 25 ≤ column → surface_cable (150 + 25 * column) 500 125 ≡ table_cable column
unfolding table_cable
half_size column h = rw (le-ltb column 25 h, table_cable)

pub returns-then-column-lt25 : goal.returns-then-column-lt25
returns-then-column-lt25 c =
    let wide_is : c.from-wide.result ≡ c.args.column = omega arith in
    rw wide_is at c.surface_cable.ensures ∙ as_it_is _ c.if-column-lt25.true

pub returns-else-column-lt25 : goal.returns-else-column-lt25
returns-else-column-lt25 c =
    let wide_is : c.from-wide.result ≡ c.args.column = omega arith in
    rw wide_is at c.surface_cable-else-column-lt25.ensures ∙ half_size _ c.if-column-lt25.false
