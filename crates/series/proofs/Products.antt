-- Products of bounded pairs stay within the machine's range.
use Prim.Native.Nat.{ℕ, ◌*◌, ◌≤◌, ◌<◌}
use native.Mathlib.Nat.{mul-le-mul}
use native.Mathlib.Omega.{arith}
use lib.Dec.{T, ltb, ltb→lt}
use Rattle.bounds.specs.Pair.{Pair, as_bounds}
use Rattle.bounds.specs.Promises.{largest, ScaledRoom, TimesRoom}
use Rattle.bounds.proofs.Pairs.{scaled_room, times_room}
use Rattle.model.specs.Width.{Under}

pub scaled_room_under : (m n : ℕ) {p q : Pair} {s : ℕ} → 0 < s → Under m p → Under n q → T (ltb (m * n) largest) → ScaledRoom (as_bounds p) (as_bounds q) s
scaled_room_under m n {p} {q} z h j t =
    let f = ltb→lt (m * n) largest t in
    scaled_room p q z (omega (arith, mul-le-mul h.low j.low)) (omega (arith, mul-le-mul h.high j.high))

pub times_room_under : (m k : ℕ) {p : Pair} {n : ℕ} → Under m p → n ≤ k → T (ltb k largest) → T (ltb (m * k) largest) → TimesRoom (as_bounds p) n
times_room_under m k {p} {n} h j u t =
    let f = ltb→lt (m * k) largest t in
    let g = ltb→lt k largest u in
    times_room p n (omega arith) (omega (arith, mul-le-mul h.low j)) (omega (arith, mul-le-mul h.high j))
