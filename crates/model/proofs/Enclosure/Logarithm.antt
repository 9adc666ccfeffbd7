-- The logarithm's pair encloses ln: the doublings and the rest are exact slices laid end to end. The stretch from x to y may be scaled by any c, so
-- that two logarithms are laid end to end as well: twice the logarithm of y/x is that of y²/x².
use Prim.Native.Nat.{ℕ, zero, suc, ◌*◌, ◌-◌, ◌≤◌, ◌<◌}
use mathlib.Core.Path.{◌≡◌, refl}
use mathlib.Core.List.{List, [], ◌∷◌, ◌++◌}
use native.Mathlib.Nat.{mul-pos, mul-le-mul_left}
use native.Mathlib.Omega.{arith}
use Rattle.numbers.specs.Fraction.{◌≼◌, ◌≈◌, ◌per◌, 1F, ◌⊗◌}
use Rattle.numbers.proofs.Fractions.{trans≼, add≼, refl≈, per_times, per≼}
use Rattle.numbers.proofs.FractionProver.{qv, qn, ◌+'◌, ◌*'◌, q_eqfrom, q_le, eq}
use Rattle.bounds.specs.Pair.{Pair, add_p, times_p}
use Rattle.exact.specs.Value.{ln}
use Rattle.exact.proofs.SignedParts.{ln_slices_at_most, ln_slices_at_least}
use Rattle.exact.proofs.Slices.{Slice, All, none, more, Adjacent, end, next, total, near_far, to_same, adjacent_both, all_both, total_both}
use Rattle.exact.proofs.Enclosure.{low_area, high_area, Lower, Upper}
use Rattle.exact.proofs.LogarithmSlices.{ln_exponent}
use Rattle.model.specs.Scale.{one, most_doublings}
use Rattle.model.specs.Logarithm.{power_of_two, logarithm_slice, doublings, logarithm_after, logarithm}
use Rattle.model.proofs.Series.{same_theta}
use Rattle.model.proofs.Logarithm.{power_above_zero, doublings_in_octave}
use Rattle.model.specs.Encloses.{unit, Encloses}
use Rattle.model.proofs.Enclosure.Units.{unit_add, unit≼}
use Rattle.model.proofs.Enclosure.Slice.{ln_slice, ln_slice_in}
use Rattle.model.proofs.Enclosure.Places.{per_distance}
use Rattle.model.proofs.Enclosure.Encloses.{most_less, least_more}

-- the pair encloses the totals of exact slices from x to y
pub record LogarithmIn (x y : ℕ) (b : Pair) : Type 0 where
  pub slices : List Slice
  pub adjacent : Adjacent (x per 1) slices (y per 1)
  pub lowers : All (Lower ln_exponent) slices
  pub uppers : All (Upper ln_exponent) slices
  pub low : unit b.low ≼ total (low_area ln_exponent) slices
  pub high : total (high_area ln_exponent) slices ≼ unit b.high

same_stretch : {x y v w : ℕ} {b : Pair} → x ≡ v → y ≡ w → LogarithmIn x y b → LogarithmIn v w b
same_stretch e f r = rw (← e, ← f) r

wider : {x y : ℕ} {b c : Pair} → c.low ≤ b.low → b.high ≤ c.high → LogarithmIn x y b → LogarithmIn x y c
wider h k r = record { slices = r.slices; adjacent = r.adjacent; lowers = r.lowers; uppers = r.uppers; low = trans≼ (unit≼ h) r.low; high = trans≼ r.high (unit≼ k) }

-- ---- end to end
pub end_to_end : {x y z : ℕ} {b c : Pair} → LogarithmIn x y b → LogarithmIn y z c → LogarithmIn x z (add_p b c)
unfolding add_p
end_to_end {x} {y} {z} {b} {c} r s = record {
  slices = r.slices ++ s.slices;
  adjacent = adjacent_both r.adjacent s.adjacent;
  lowers = all_both r.lowers s.lowers;
  uppers = all_both r.uppers s.uppers;
  low = trans≼ (unit_add b.low c.low).to (trans≼ (add≼ r.low s.low) (total_both (low_area ln_exponent) r.slices s.slices).from);
  high = trans≼ (total_both (high_area ln_exponent) r.slices s.slices).to (trans≼ (add≼ r.high s.high) (unit_add b.high c.high).from);
}

-- ---- one slice, scaled by c
same_slice : (c x y : ℕ) → 0 < c → x ≤ y → logarithm_slice (c * x) (c * y) ≡ logarithm_slice x y
unfolding logarithm_slice
same_slice c x y z h = rw (same_theta c x y z h) refl

one_slice : (c x y : ℕ) → 0 < c → 0 < x → x ≤ y → y ≤ 2 * x → LogarithmIn (c * x) (c * y) (logarithm_slice x y)
one_slice c x y z k h l = rw (same_slice c x y z h) at (go (c * x) (c * y) (mul-pos z k) (mul-le-mul_left c h) (omega (arith, mul-le-mul_left c l)))
  where
    go : (v w : ℕ) → 0 < v → v ≤ w → w ≤ 2 * v → LogarithmIn v w (logarithm_slice v w)
    go v w i j m =
        let s = ln_slice_in v w (omega arith) (omega arith) in
        record {
          slices = ln_slice v w ∷ [];
          adjacent = next {s = ln_slice v w} (per_distance v w 1 (omega arith) j) (end (refl≈ (w per 1)));
          lowers = more s.lower none;
          uppers = more s.upper none;
          low = trans≼ s.low (q_le (low_area ln_exponent (ln_slice v w) ((w - v) per 1) ∷ []) (qv 0) (qv 0 +' qn 0) tt);
          high = trans≼ (q_le (high_area ln_exponent (ln_slice v w) ((w - v) per 1) ∷ []) (qv 0 +' qn 0) (qv 0) tt) s.high;
        }

-- ---- n doublings, and the rest
times_one : (a : ℕ) → a per 1 ≈ (a * 1) per 1
times_one a = omega arith

doubled : (a n : ℕ) → 0 < a → LogarithmIn a (a * power_of_two n) (times_p (logarithm_slice 1 2) n)
unfolding power_of_two times_p add_p
doubled a zero z = record { slices = []; adjacent = end (times_one a); lowers = none; uppers = none; low = omega arith; high = omega arith }
doubled a (suc n) z =
    wider (sum_low (logarithm_slice 1 2)) (sum_high (logarithm_slice 1 2))
    (end_to_end (doubled a n z) (same_stretch (omega arith) (omega arith) (one_slice (a * power_of_two n) 1 2 (mul-pos z (power_above_zero n)) (omega arith) (omega arith) (omega arith))))
  where
    sum_low : (p : Pair) → p.low * suc n ≤ (add_p (times_p p n) p).low
    sum_low p = omega arith

    sum_high : (p : Pair) → (add_p (times_p p n) p).high ≤ p.high * suc n
    sum_high p = omega arith

after_doublings : (c n x y : ℕ) → 0 < c → 0 < x → x * power_of_two n ≤ y → y ≤ 2 * (x * power_of_two n) → LogarithmIn (c * x) (c * y) (logarithm_after n x y)
unfolding logarithm_after
after_doublings c n x y z k h l =
    end_to_end (same_stretch refl (omega arith) (doubled (c * x) n (mul-pos z k))) (one_slice c (x * power_of_two n) y z (mul-pos k (power_above_zero n)) h l)

-- ---- against ln
module _ {x y : ℕ} {b : Pair} (k : 0 < x) (r : LogarithmIn x y b) where
  at_least_one : 1F ≼ y per x
  at_least_one = go (near_far r.adjacent)
    where
      go : x per 1 ≼ y per 1 → 1F ≼ y per x
      go h = per≼ 1 1 y x (omega arith) k (omega arith)

  to_ratio : Adjacent (x per 1) r.slices (x per 1 ⊗ y per x)
  to_ratio = to_same r.adjacent (q_eqfrom ((x per 1) ∷ (y per 1) ∷ (y per x) ∷ []) (eq (qn 0) (qn 1) (qv 2 *' qv 0) (qv 1) ∷ []) (qv 1) (qv 0 *' qv 2) tt tt (per_times y x k))

  slices_enclose : Encloses one b (ln (y per x))
  slices_enclose = record {
    low_at_most = most_less r.low (ln_slices_at_most (x per 1) (y per x) r.slices k at_least_one to_ratio r.lowers);
    high_at_least = least_more r.high (ln_slices_at_least (x per 1) (y per x) r.slices k at_least_one to_ratio r.uppers);
  }

-- ---- the logarithm
module _ (x y : ℕ) (k : 0 < x) (h : x ≤ y) (l : y < x * power_of_two most_doublings) where
  logarithm_in : (c : ℕ) → 0 < c → LogarithmIn (c * x) (c * y) (logarithm x y)
  unfolding logarithm
  logarithm_in c z = let o = doublings_in_octave most_doublings x y h l in after_doublings c (doublings most_doublings x y) x y z k o.from (omega (arith, o.to))

  twice_logarithm_in : LogarithmIn (x * x) (y * y) (times_p (logarithm x y) 2)
  unfolding times_p add_p
  twice_logarithm_in = wider (omega arith) (omega arith) (end_to_end (logarithm_in x k) (same_stretch (omega arith) refl (logarithm_in y (omega arith))))

  pub logarithm_encloses : Encloses one (logarithm x y) (ln (y per x))
  logarithm_encloses = slices_enclose k (same_stretch (omega arith) (omega arith) (logarithm_in 1 (omega arith)))

  pub twice_logarithm_encloses : Encloses one (times_p (logarithm x y) 2) (ln ((y * y) per (x * x)))
  twice_logarithm_encloses = slices_enclose (mul-pos k k) twice_logarithm_in
