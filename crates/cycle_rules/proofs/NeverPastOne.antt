-- The exact heating sum never passes one: 1 is at least it, for every day, every reference hour and all shares that never fall. At an order the gathered sum takes the
-- lower fraction of a share where it is added and the upper one where it is taken away. The highest lower fraction so far lies between the two at each hour and never
-- falls, so the sum is at most that of these, in which each Yi, at most 1, multiplies a rise not below 0.
use mathlib.Core.Path.{◌≡◌}
use mathlib.Core.List.{List, [], ◌∷◌}
use Prim.Native.Nat.{ℕ, zero, suc, ◌+◌, ◌*◌, ◌≤◌, ◌<◌}
use native.Mathlib.Nat.{le_refl}
use native.Mathlib.Omega.{arith}
use lib.Dec.{T}
use borrow.Author.Count.{below_more}
use lib.IntN.{pos, neg_ℤ, ◌-ℤ◌, ◌*ℤ◌}
use Rattle.numbers.specs.Fraction.{◌≈◌, whole, ◌⊕◌, ◌⊗◌}
use Rattle.numbers.specs.Signed.{Signed, ◌≼ₛ◌, of_frac, of_int, add_s, mul_s, max_s, least4}
use Rattle.numbers.specs.Integer.{up, dn}
use Rattle.numbers.proofs.Fractions.{whole≼}
use Rattle.numbers.proofs.FractionProver.{qv, qn, ◌+'◌, ◌*'◌, q_le, q_from, le, eq}
use Rattle.numbers.proofs.Subtraction.{rearrange}
use Rattle.numbers.proofs.Integers.{add_lin, neg_up, neg_dn}
use Rattle.numbers.proofs.SignedFractions.{In, refl≼ₛ, max_left, max_right, max_is, above_least}
use Rattle.exact.specs.Value.{Value, AtLeast, ◌⊴◌, Fine}
use Rattle.exact.proofs.Plain.{and_0, and_1}
use Rattle.exact.proofs.Values.{constant⊴, fine_constant, fine_add, fine_mul, fine_quot}
use Rattle.distance.proofs.Limits.{limit_divided}
use Rattle.distance.proofs.Rising.{Rising}
use Rattle.cycle_rules.specs.Heating.{heating_hours, common_divisor, relative_load, gathered_load}
use Rattle.cycle_rules.specs.Exact.{exact_gathered, exact_heating}
use Rattle.cycle_rules.proofs.Heating.{relative_to}
use Rattle.cycle_rules.proofs.Distance.{gathered_sound}

-- ---- one hour more: s + R·m ≤ c + D·m gives s + t + R'·m' ≤ c + D·m', for t ≤ (R − R')·m', m ≤ m' and R ≤ D
difference : (R R' : ℕ) → whole (up (pos R -ℤ pos R')) ⊕ whole R' ≈ whole (dn (pos R -ℤ pos R')) ⊕ whole R
difference R R' = go (up (pos R -ℤ pos R')) (dn (pos R -ℤ pos R')) (omega (arith, add_lin (pos R) (neg_ℤ (pos R')), neg_up (pos R'), neg_dn (pos R')))
  where
    go : (u d : ℕ) → u + R' ≡ d + R → whole u ⊕ whole R' ≈ whole d ⊕ whole R
    go u d e = omega arith

module _ (s t m m' c : Signed) (R R' D : ℕ) where
  one_more : R ≤ D → m ≼ₛ m' → t ≼ₛ mul_s (of_int (pos R -ℤ pos R')) m' → add_s s (mul_s (of_int (pos R)) m) ≼ₛ add_s c (mul_s (of_int (pos D)) m)
      → add_s (add_s s t) (mul_s (of_int (pos R')) m') ≼ₛ add_s c (mul_s (of_int (pos D)) m')
  one_more h k p q = record {
    le = q_from (s.plus ∷ s.minus ∷ t.plus ∷ t.minus ∷ m.plus ∷ m.minus ∷ m'.plus ∷ m'.minus ∷ c.plus ∷ c.minus ∷ whole R ∷ whole R' ∷ whole D ∷ whole (up (pos R -ℤ pos R')) ∷ whole (dn (pos R -ℤ pos R')) ∷ [])
        (le (qn 1) (qv 2 +' (qv 13 *' qv 7 +' qv 14 *' qv 6)) (qv 13 *' qv 6 +' qv 14 *' qv 7 +' qv 3)
        ∷ le (qn 1) (qv 0 +' (qv 10 *' qv 4 +' qn 0 *' qv 5) +' (qv 9 +' (qv 12 *' qv 5 +' qn 0 *' qv 4))) (qv 8 +' (qv 12 *' qv 4 +' qn 0 *' qv 5) +' (qv 1 +' (qv 10 *' qv 5 +' qn 0 *' qv 4)))
        ∷ le (qn 1) (qv 10 *' (qv 6 +' qv 5) +' qv 12 *' (qv 4 +' qv 7)) (qv 10 *' (qv 4 +' qv 7) +' qv 12 *' (qv 6 +' qv 5))
        ∷ eq (qv 6) (qv 7) (qv 13 +' qv 11) (qv 14 +' qv 10) ∷ [])
        (qv 0 +' qv 2 +' (qv 11 *' qv 6 +' qn 0 *' qv 7) +' (qv 9 +' (qv 12 *' qv 7 +' qn 0 *' qv 6)))
        (qv 8 +' (qv 12 *' qv 6 +' qn 0 *' qv 7) +' (qv 1 +' qv 3 +' (qv 11 *' qv 7 +' qn 0 *' qv 6))) tt
        p.le q.le (rearrange {h = whole R} {H = whole D} {b = m.plus ⊕ m'.minus} {a = m'.plus ⊕ m.minus} (whole≼ h) k.le) (difference R R');
  }

-- the last hour: what is left of the mean load falls to what is left of the share
module _ (s m : Signed) (R D : ℕ) where
  at_last : R ≤ D → m ≼ₛ of_int (pos 1000000) → add_s s (mul_s (of_int (pos R)) m) ≼ₛ add_s (of_int (pos (R * 1000000))) (mul_s (of_int (pos D)) m) → s ≼ₛ of_int (pos 1000000 *ℤ pos D)
  at_last h k q = record {
    le = q_from (s.plus ∷ s.minus ∷ m.plus ∷ m.minus ∷ whole R ∷ whole D ∷ whole (R * 1000000) ∷ whole (1000000 * D) ∷ [])
        (le (qn 1) (qv 0 +' (qv 4 *' qv 2 +' qn 0 *' qv 3) +' (qn 0 +' (qv 5 *' qv 3 +' qn 0 *' qv 2))) (qv 6 +' (qv 5 *' qv 2 +' qn 0 *' qv 3) +' (qv 1 +' (qv 4 *' qv 3 +' qn 0 *' qv 2)))
        ∷ le (qn 1) (qv 4 *' (qn 1000000 +' qv 3) +' qv 5 *' (qv 2 +' qn 0)) (qv 4 *' (qv 2 +' qn 0) +' qv 5 *' (qn 1000000 +' qv 3))
        ∷ eq (qn 1) (qn 0) (qv 6) (qv 4 *' qn 1000000)
        ∷ eq (qn 0) (qn 1) (qv 7) (qn 1000000 *' qv 5) ∷ [])
        (qv 0 +' qn 0) (qv 7 +' qv 1) tt
        q.le (rearrange {h = whole R} {H = whole D} {b = m.plus ⊕ whole 0} {a = whole 1000000 ⊕ m.minus} (whole≼ h) k.le) (times_whole R 1000000) (times_whole 1000000 D);
  }
    where
      times_whole : (x y : ℕ) → whole (x * y) ≈ whole x ⊗ whole y
      times_whole x y = omega arith

-- the highest lower fraction of the shares of the first i hours, at an order
abbrev highest_low : (ℕ → Value) → ℕ → ℕ → Signed
highest_low shares o zero = of_int (pos 0)
highest_low shares o (suc i) = max_s (highest_low shares o i) ((shares (60 * suc i)).low o)

module _ (shares : ℕ → Value) (r : Rising shares (60 * heating_hours)) (hours : List ℕ) (hour : ℕ) where
  hour_sound : (n : ℕ) → n < heating_hours → shares (60 * suc n) ⊴ shares (60 * suc n)
  hour_sound n h = r.rises (60 * suc n) (60 * suc n) (omega arith) (le_refl (60 * suc n)) (omega arith)

  sum_sound : exact_gathered shares hours hour heating_hours ⊴ exact_gathered shares hours hour heating_hours
  sum_sound = gathered_sound shares hour_sound hours hour heating_hours (le_refl heating_hours)

  gathered_fine : (n : ℕ) → n ≤ heating_hours → Fine (exact_gathered shares hours hour n)
  unfolding exact_gathered
  gathered_fine zero h = fine_constant (of_int (pos (relative_load hours hour heating_hours * 1000000)))
  gathered_fine (suc n) h =
      fine_add (gathered_fine n (omega arith))
      (fine_mul (constant⊴ (refl≼ₛ (of_int (gathered_load hours hour n)))) (hour_sound n (omega arith)) (fine_constant (of_int (gathered_load hours hour n))) (r.fine (60 * suc n) (omega arith) (omega arith)))

  -- from some order on the bounds of the exact sum are as close as asked
  pub heating_fine : 0 < common_divisor hours → Fine (exact_heating shares hours hour)
  unfolding exact_heating
  heating_fine zd =
      let d = whole (common_divisor hours) in
      fine_quot sum_sound (constant⊴ (refl≼ₛ (of_frac d))) (gathered_fine heating_hours (le_refl heating_hours)) (fine_constant (of_frac d)) d zd (λ n t. refl≼ₛ (of_frac d))

  each_ok : (o n : ℕ) → T ((exact_gathered shares hours hour n).ok o) → (i : ℕ) → i < n → T ((shares (60 * suc i)).ok o)
  unfolding exact_gathered
  each_ok o zero t i h = absurd (omega arith)
  each_ok o (suc n) t i h =
      below_more (λ j. T ((shares (60 * suc j)).ok o)) n (each_ok o n (and_0 ((exact_gathered shares hours hour n).ok o) ((shares (60 * suc n)).ok o) t))
      (and_1 ((exact_gathered shares hours hour n).ok o) ((shares (60 * suc n)).ok o) t) i (omega arith)

  module _ (o : ℕ) (ok : (i : ℕ) → i < heating_hours → T ((shares (60 * suc i)).ok o)) where
    low_under : (i j : ℕ) → i ≤ j → j < heating_hours → (shares (60 * suc i)).low o ≼ₛ (shares (60 * suc j)).high o
    low_under i j p q = (r.rises (60 * suc i) (60 * suc j) (omega arith) (omega arith) (omega arith)).apart o o (ok i (omega arith)) (ok j q)

    highest_under : (i j : ℕ) → i ≤ suc j → j < heating_hours → highest_low shares o i ≼ₛ (shares (60 * suc j)).high o
    highest_under zero j p q = (r.from_zero (60 * suc j) (omega arith) (omega arith)).most o (ok j q)
    highest_under (suc i) j p q = max_is (λ a. a ≼ₛ (shares (60 * suc j)).high o) (highest_low shares o i) ((shares (60 * suc i)).low o) (highest_under i j (omega arith) q) (low_under i j (omega arith) q)

    highest_in : (i : ℕ) → i < heating_hours → In ((shares (60 * suc i)).low o) ((shares (60 * suc i)).high o) (highest_low shares o (suc i))
    highest_in i q = record { from = max_right (highest_low shares o i) ((shares (60 * suc i)).low o); to = highest_under (suc i) i (le_refl (suc i)) q }

    highest_one : (i : ℕ) → i ≤ heating_hours → highest_low shares o i ≼ₛ of_int (pos 1000000)
    highest_one zero q = record { le = q_le [] (qn 0 +' qn 0) (qn 1000000 +' qn 0) tt }
    highest_one (suc i) q = max_is (λ a. a ≼ₛ of_int (pos 1000000)) (highest_low shares o i) ((shares (60 * suc i)).low o) (highest_one i (omega arith)) ((r.to_one (60 * suc i) (omega arith) (omega arith)).least o (ok i q))

    abbrev R : ℕ → ℕ
    R i = relative_load hours hour i

    abbrev D : ℕ
    D = common_divisor hours

    term_under : (i : ℕ) → i < heating_hours → least4 (of_int (gathered_load hours hour i)) (of_int (gathered_load hours hour i)) ((shares (60 * suc i)).low o) ((shares (60 * suc i)).high o) ≼ₛ mul_s (of_int (gathered_load hours hour i)) (highest_low shares o (suc i))
    term_under i q =
        let z = of_int (gathered_load hours hour i) in
        above_least z z ((shares (60 * suc i)).low o) ((shares (60 * suc i)).high o) z (highest_low shares o (suc i)) (record { from = refl≼ₛ z; to = refl≼ₛ z }) (highest_in i q)

    summed : (n : ℕ) → n ≤ heating_hours → add_s ((exact_gathered shares hours hour n).low o) (mul_s (of_int (pos (R n))) (highest_low shares o n)) ≼ₛ add_s (of_int (pos (R heating_hours * 1000000))) (mul_s (of_int (pos D)) (highest_low shares o n))
    unfolding exact_gathered
    summed zero h = record { le = q_le (whole (R heating_hours * 1000000) ∷ whole (R 0) ∷ whole D ∷ []) (qv 0 +' (qv 1 *' qn 0 +' qn 0 *' qn 0) +' (qn 0 +' (qv 2 *' qn 0 +' qn 0 *' qn 0))) (qv 0 +' (qv 2 *' qn 0 +' qn 0 *' qn 0) +' (qn 0 +' (qv 1 *' qn 0 +' qn 0 *' qn 0))) tt }
    summed (suc n) h =
        one_more ((exact_gathered shares hours hour n).low o) _ (highest_low shares o n) (highest_low shares o (suc n)) (of_int (pos (R heating_hours * 1000000))) (R n) (R (suc n)) D
        (relative_to hours hour n) (max_left (highest_low shares o n) ((shares (60 * suc n)).low o)) (term_under n (omega arith)) (summed n (omega arith))

    gathered_under : (exact_gathered shares hours hour heating_hours).low o ≼ₛ of_int (pos 1000000 *ℤ pos D)
    gathered_under = at_last ((exact_gathered shares hours hour heating_hours).low o) (highest_low shares o heating_hours) (R heating_hours) D (relative_to hours hour heating_hours) (highest_one heating_hours (le_refl heating_hours)) (summed heating_hours (le_refl heating_hours))

  pub heating_never_past_one : 0 < common_divisor hours → AtLeast (of_int (pos 1000000)) (exact_heating shares hours hour)
  unfolding exact_heating
  heating_never_past_one zd =
      limit_divided (common_divisor hours) zd (pos 1000000) sum_sound
      (record { least = λ o t. gathered_under o (each_ok o heating_hours t) })
