-- At the hottest hour the cap of 5,000 never binds. Over the 24 reference hours the sums add up to 24·μ, whatever the shares are, since each load is each Yi once.
-- So the largest sum is at least μ, which is at least 1/24, and the factor is at most 4,898.
use mathlib.Core.Path.{◌≡◌, refl, sym, ap, ap₂, subst, ◌∙◌}
use mathlib.Core.Bool.{true}
use mathlib.Core.List.{List}
use Prim.Native.Nat.{ℕ, zero, suc, ◌+◌, ◌-◌, ◌*◌, ◌%◌, ◌≤◌, ◌<◌}
use native.Mathlib.Nat.{add_comm, le_refl, mul-le-mul, mul-le-mul_right, le_of_mul-le-mul_right}
use native.Mathlib.Omega.{arith}
use borrow.Author.Tests.{leb-true, lt-ltb}
use lib.IntN.{ℤ, pos, negsuc, neg_ℤ, ◌+ℤ◌, ◌-ℤ◌, ◌*ℤ◌}
use lib.Signed.{◌≤ℤ◌, ≤ℤ_refl}
use Rattle.numbers.proofs.Integers.{le_lin, lin_le, lin_eq, add_lin, mul_lin, neg_up, neg_dn, ≤ℤ_trans}
use Rattle.numbers.proofs.Largest.{is_largest}
use Rattle.bounds.specs.Promises.{In}
use Rattle.bounds.specs.declared.Bounds.{Bounds}
use Rattle.bounds.proofs.Enclosure.{over_one}
use Rattle.cycle_rules.specs.Day.{day_hours, highest_load, earlier, squared_load, squared_loads}
use Rattle.cycle_rules.specs.Heating.{heating_hours, common_divisor, relative_load, from_start, written_steps, written_sum, heating_sum, reference_hour}
use Rattle.cycle_rules.specs.Factor.{most_factor, most_heating, allowed, largest_factor}
use Rattle.cycle_rules.proofs.Day.{highest_summed}
use Rattle.cycle_rules.proofs.Heating.{heating_in, divisor_above_zero}
use Rattle.cycle_rules.proofs.FactorTest.{nothing_allowed}
use Rattle.cycle_rules.proofs.ReferenceHour.{is_latest_largest}

-- ---- sums over hours
abbrev total : (ℕ → ℕ) → ℕ → ℕ
total f zero = 0
total f (suc n) = total f n + f n

abbrev total_z : (ℕ → ℤ) → ℕ → ℤ
total_z f zero = pos 0
total_z f (suc n) = total_z f n +ℤ f n

split_step : (A F d : ℤ) (a b : ℕ) → (A +ℤ (pos a *ℤ d)) +ℤ (F +ℤ (pos b *ℤ d)) ≡ (A +ℤ F) +ℤ (pos (a + b) *ℤ d)
split_step A F d a b =
    lin_eq ((A +ℤ (pos a *ℤ d)) +ℤ (F +ℤ (pos b *ℤ d))) ((A +ℤ F) +ℤ (pos (a + b) *ℤ d))
    (omega (
      arith,
      add_lin (A +ℤ (pos a *ℤ d)) (F +ℤ (pos b *ℤ d)),
      add_lin A (pos a *ℤ d),
      add_lin F (pos b *ℤ d),
      add_lin (A +ℤ F) (pos (a + b) *ℤ d),
      add_lin A F,
      mul_lin (pos a) d,
      mul_lin (pos b) d,
      mul_lin (pos (a + b)) d,
    ))

split : (f : ℕ → ℤ) (r : ℕ → ℕ) (d : ℤ) (n : ℕ) → total_z (λ h. f h +ℤ (pos (r h) *ℤ d)) n ≡ total_z f n +ℤ (pos (total r n) *ℤ d)
split f r d zero = lin_eq (pos 0) (pos 0 +ℤ (pos 0 *ℤ d)) (omega (arith, add_lin (pos 0) (pos 0 *ℤ d), mul_lin (pos 0) d))
split f r d (suc n) = ap (λ (z : ℤ). z +ℤ (f n +ℤ (pos (r n) *ℤ d))) (split f r d n) ∙ split_step (total_z f n) (f n) d (total r n) (r n)

total_below : (f : ℕ → ℤ) (c : ℤ) (n : ℕ) → ((h : ℕ) → h < n → f h ≤ℤ c) → total_z f n ≤ℤ (pos n *ℤ c)
total_below f c zero k = lin_le (pos 0) (pos 0 *ℤ c) (omega (arith, mul_lin (pos 0) c))
total_below f c (suc n) k =
    lin_le (total_z f n +ℤ f n) (pos (suc n) *ℤ c)
    (omega (arith, le_lin (total_below f c n (λ h p. k h (omega arith))), le_lin (k n (omega arith)), add_lin (total_z f n) (f n), mul_lin (pos (suc n)) c, mul_lin (pos n) c))

-- ---- each load is once each Yi
front : (f : ℕ → ℕ) (n : ℕ) → total f (suc n) ≡ f 0 + total (λ h. f (suc h)) n
front f zero = omega arith
front f (suc n) = omega (arith, front f n)

alike : (f g : ℕ → ℕ) (n : ℕ) → ((h : ℕ) → f h ≡ g h) → total f n ≡ total g n
alike f g zero e = refl
alike f g (suc n) e = omega (arith, alike f g n e, e n)

module _ (hours : List ℕ) where
  abbrev S : ℕ
  S = squared_loads hours day_hours

  abbrev Y : ℕ → ℕ → ℕ
  Y i hour = relative_load hours hour i

  below_mean : (hour i : ℕ) → i < heating_hours → Y i hour ≡ day_hours * squared_load hours (earlier hour i)
  unfolding relative_load
  below_mean hour i p = rw (lt-ltb i heating_hours p)

  -- i + 1 hours before the next hour it is i hours before this one
  moved_on : (i : ℕ) → suc i < heating_hours → (hour : ℕ) → Y (suc i) (suc hour) ≡ Y i hour
  moved_on i p hour =
      let same : suc hour + day_hours - suc i ≡ hour + day_hours - i = omega arith in
      below_mean (suc hour) (suc i) p ∙ ap (λ (n : ℕ). day_hours * squared_load hours (n % day_hours)) same ∙ sym (below_mean hour i (omega arith))

  -- "hour 23 coming before hour 0"
  around_midnight : (i : ℕ) → suc i < heating_hours → earlier 0 (suc i) ≡ earlier 23 i
  around_midnight zero p = refl
  around_midnight (suc zero) p = refl
  around_midnight (suc (suc zero)) p = refl
  around_midnight (suc (suc (suc zero))) p = refl
  around_midnight (suc (suc (suc (suc zero)))) p = refl
  around_midnight (suc (suc (suc (suc (suc i))))) p = absurd (omega arith)

  -- so over the day Y(i+1) takes the same values as Yi, the last one first
  rotated : (i : ℕ) → i < heating_hours → total (Y i) day_hours ≡ day_hours * S
  unfolding relative_load squared_loads
  rotated zero p = omega arith
  rotated (suc i) p =
      let first = below_mean 0 (suc i) p ∙ ap (λ (n : ℕ). day_hours * squared_load hours n) (around_midnight i p) ∙ sym (below_mean 23 i (omega arith)) in
      front (Y (suc i)) 23 ∙ ap₂ ◌+◌ first (alike (λ h. Y (suc i) (suc h)) (Y i) 23 (moved_on i p)) ∙ add_comm (Y i 23) (total (Y i) 23) ∙ rotated i (omega arith)

  mean_each_hour : total (Y heating_hours) day_hours ≡ day_hours * S
  unfolding relative_load
  mean_each_hour = omega arith

  telescope : (d : ℕ) (a b : ℤ) → (pos d *ℤ b) +ℤ (pos d *ℤ (a -ℤ b)) ≡ pos d *ℤ a
  telescope d a b =
      lin_eq ((pos d *ℤ b) +ℤ (pos d *ℤ (a -ℤ b))) (pos d *ℤ a)
      (omega (
        arith,
        add_lin (pos d *ℤ b) (pos d *ℤ (a -ℤ b)),
        mul_lin (pos d) b,
        mul_lin (pos d) a,
        mul_lin (pos d) (a -ℤ b),
        ap (λ (n : ℕ). d * n) (rw (neg_up b, neg_dn b) at (add_lin a (neg_ℤ b))),
      ))

  module _ (G : ℕ → ℤ) where
    steps_total : (n : ℕ) → n ≤ heating_hours → total_z (λ h. written_steps hours h G n) day_hours ≡ pos (day_hours * S) *ℤ from_start G n
    unfolding written_steps
    steps_total zero h = lin_eq (pos 0) (pos (day_hours * S) *ℤ pos 0) (omega (arith, mul_lin (pos (day_hours * S)) (pos 0)))
    steps_total (suc n) h =
        split (λ k. written_steps hours k G n) (λ k. relative_load hours k n) (G (suc n) -ℤ from_start G n) day_hours
        ∙ ap (λ (z : ℤ). z +ℤ (pos (total (λ k. relative_load hours k n) day_hours) *ℤ (G (suc n) -ℤ from_start G n))) (steps_total n (omega arith))
        ∙ ap (λ (k : ℕ). (pos (day_hours * S) *ℤ from_start G n) +ℤ (pos k *ℤ (G (suc n) -ℤ from_start G n))) (rotated n (omega arith))
        ∙ telescope (day_hours * S) (G (suc n)) (from_start G n)

    -- the 24 sums, as they are written, add up to 24·μ
    pub sums_total : (one : ℤ) → total_z (λ h. written_sum hours h one G) day_hours ≡ pos (day_hours * S) *ℤ one
    sums_total one =
        split (λ k. written_steps hours k G heating_hours) (λ k. relative_load hours k heating_hours) (one -ℤ G heating_hours) day_hours
        ∙ ap (λ (z : ℤ). z +ℤ (pos (total (λ k. relative_load hours k heating_hours) day_hours) *ℤ (one -ℤ G heating_hours))) (steps_total heating_hours (le_refl heating_hours))
        ∙ ap (λ (k : ℕ). (pos (day_hours * S) *ℤ G heating_hours) +ℤ (pos k *ℤ (one -ℤ G heating_hours))) mean_each_hour
        ∙ telescope (day_hours * S) one (G heating_hours)

-- 4,899² · 41,667 is above 10^12
small_factor : (L : ℤ) {m : ℕ} → pos 41667 ≤ℤ L → allowed L m ≡ true → m ≤ 4898
unfolding allowed
small_factor (pos l) {m} h e = not_above m (λ p. omega (arith, leb-true (l * (m * m)) most_heating e, mul-le-mul {n₁ = 41667} {m₁ = 24000201} {n₂ = l} {m₂ = m * m} (omega (arith, le_lin h)) (omega (arith, mul-le-mul p p))))
  where
    not_above : (m : ℕ) → (4899 ≤ m → ⊥) → m ≤ 4898
    not_above m f = omega arith
small_factor (negsuc l) h e = absurd h.le

-- ---- the largest sum
module _ (hours : List ℕ) (pairs : ℕ → Bounds) (ordered : (i : ℕ) → i < heating_hours → (pairs (suc i)).low ≤ℤ (pairs (suc i)).high) (loaded : 0 < highest_load hours) where
  abbrev D : ℕ
  D = common_divisor hours

  abbrev largest_sum : ℤ
  largest_sum = heating_sum pairs hours (reference_hour pairs hours)

  abbrev lows : ℕ → ℤ
  lows i = (pairs i).low

  low_in : (i : ℕ) → i < heating_hours → In (pairs (suc i)) (lows (suc i)) 1
  low_in i h = over_one (pairs (suc i)) (lows (suc i)) (≤ℤ_refl (lows (suc i))) (ordered i h)

  scaled : (s l : ℤ) → s ≤ℤ l → (s *ℤ pos (D * 1)) ≤ℤ (l *ℤ pos D)
  scaled s l h = lin_le (s *ℤ pos (D * 1)) (l *ℤ pos D) (omega (arith, mul_lin s (pos (D * 1)), mul_lin l (pos D), mul-le-mul_right D (le_lin h)))

  each_under : (h : ℕ) → h < day_hours → written_sum hours h (pos 1000000) lows ≤ℤ (largest_sum *ℤ pos D)
  each_under h p =
      ≤ℤ_trans (heating_in hours h 1 lows pairs low_in (divisor_above_zero hours loaded)).to (scaled (heating_sum pairs hours h) largest_sum ((is_latest_largest (heating_sum pairs hours) day_hours).largest h p))

  all_under : (pos (day_hours * S hours) *ℤ pos 1000000) ≤ℤ (pos day_hours *ℤ (largest_sum *ℤ pos D))
  all_under = subst (λ (z : ℤ). z ≤ℤ (pos day_hours *ℤ (largest_sum *ℤ pos D))) (sums_total hours lows (pos 1000000)) (total_below (λ h. written_sum hours h (pos 1000000) lows) (largest_sum *ℤ pos D) day_hours each_under)

  -- 24·l ≥ 1,000,000 from 24·S·1,000,000 ≤ 24·(l·D), D = 24·x and 0 < x ≤ S
  share_of_day : (x s l : ℕ) → 0 < x → x ≤ s → 24 * s * 1000000 ≤ 24 * (l * (24 * x)) → 1000000 ≤ 24 * l
  share_of_day x s l z p h = le_of_mul-le-mul_right {k = x} (omega arith) z

  from_largest : (L : ℤ) → (pos (day_hours * S hours) *ℤ pos 1000000) ≤ℤ (pos day_hours *ℤ (L *ℤ pos D)) → pos 41667 ≤ℤ L
  from_largest (pos l) h =
      let x = highest_load hours * highest_load hours in
      let e : 1000000 ≤ 24 * l = share_of_day x (S hours) l (omega (arith, mul-le-mul loaded loaded)) (highest_summed hours day_hours) (omega (arith, le_lin h)) in
      lin_le (pos 41667) (pos l) (omega arith)
  from_largest (negsuc l) h =
      absurd (omega (arith, le_lin h, mul_lin (negsuc l) (pos D), mul_lin (pos day_hours) (negsuc l *ℤ pos D), highest_summed hours day_hours, mul-le-mul loaded loaded))

  -- 1/24 in millionths, rounded up: no day's largest sum is smaller
  pub largest_sum_from : pos 41667 ≤ℤ largest_sum
  largest_sum_from = from_largest largest_sum all_under

  pub below_cap : largest_factor largest_sum ≤ 4898
  below_cap = small_factor largest_sum largest_sum_from (is_largest (allowed largest_sum) (nothing_allowed largest_sum) most_factor).passes
