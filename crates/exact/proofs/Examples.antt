-- Worked examples of the definitions, each by computation. The values on the right were worked out apart from these definitions, with exact
-- fractions, from document 01, 'Exact values without reals' and 'The attained share', and document 02, note 2.
use Rattle.std.specs.Prelude.{ℕ, ◌+◌, ◌*◌, true, false, ◌≡◌, refl, [], ◌∷◌, T, pos, negsuc}
use Rattle.std.proofs.Common.{leb→le}
use Rattle.numbers.specs.Fraction.{Frac, ◌≈◌, ◌≼?◌, ◌per◌, whole, 0F, 1F, ◌∸◌}
use Rattle.numbers.specs.Signed.{Signed, ◌≈ₛ◌, ◌≼ₛ?◌, of_frac, neg_s, min_s, max_s}
use Rattle.exact.specs.Exponential.{exp_low, exp_high}
use Rattle.exact.specs.Cutting.{integral_low, integral_high, ln_low, ln_high}
use Rattle.exact.specs.Value.{Value, number, integral, ln, ◌+ᵥ◌, ◌−ᵥ◌, ◌·ᵥ◌, reciprocal, ◌/ᵥ◌, ◌⊔ᵥ◌, largestᵥ}
use Rattle.exact.specs.Share.{CableNumbers, sources, InTrench, exponent, near_end, far_end, ratio, attainment, source_end, beta, share}

same : (a b : Frac) → T (a ≼? b) → T (b ≼? a) → a ≈ b
same a b h k = record { to = record { cross = leb→le _ _ h }; from = record { cross = leb→le _ _ k } }

-- both ends of a value at an order
record Ends (x : Value) (n : ℕ) (low high : Signed) : Type 0 where
  low_is : x.low n ≈ₛ low
  high_is : x.high n ≈ₛ high

sameₛ : (a b : Signed) → T (a ≼ₛ? b) → T (b ≼ₛ? a) → a ≈ₛ b
sameₛ a b h k = record { to = record { le = record { cross = leb→le _ _ h } }; from = record { le = record { cross = leb→le _ _ k } } }

-- ---- e^(−x)
exp_1_low : exp_low 1F 2 ≈ 6 per 17
exp_1_low = same _ _ tt tt

exp_1_high : exp_high 1F 2 ≈ 2 per 5
exp_1_high = same _ _ tt tt

exp_half_low : exp_low (1 per 2) 1 ≈ 4 per 7
exp_half_low = same _ _ tt tt

exp_half_high : exp_high (1 per 2) 1 ≈ 2 per 3
exp_half_high = same _ _ tt tt

exp_1_tenth_low : exp_low 1F 10 ≈ 13305600 per 36168371
exp_1_tenth_low = same _ _ tt tt

exp_1_tenth_high : exp_high 1F 10 ≈ 3628800 per 9864101
exp_1_tenth_high = same _ _ tt tt

-- the rule for n below 2x: at 2x the sums count, below it 0 and 1
at_twice_low : exp_low (3 per 2) 3 ≈ 64 per 295
at_twice_low = same _ _ tt tt

at_twice_high : exp_high (3 per 2) 3 ≈ 16 per 67
at_twice_high = same _ _ tt tt

below_twice_low : exp_low (3 per 2) 2 ≈ 0F
below_twice_low = same _ _ tt tt

below_twice_high : exp_high (3 per 2) 2 ≈ 1F
below_twice_high = same _ _ tt tt

-- ---- ln 2
ln_2_low : ln_low 1F 1F 4 ≈ 533 per 840
ln_2_low = same _ _ tt tt

ln_2_high : ln_high 1F 1F 4 ≈ 319 per 420
ln_2_high = same _ _ tt tt

ln_2_first : Ends (ln (whole 2)) 1 (of_frac (1 per 2)) (of_frac 1F)
unfolding ◌∸◌
ln_2_first = record { low_is = sameₛ _ _ tt tt; high_is = sameₛ _ _ tt tt }

-- ---- J
integral_quarter_low : integral_low (1 per 4) (1 per 4) 2 ≈ 16981 per 44940
integral_quarter_low = same _ _ tt tt

integral_quarter_high : integral_high (1 per 4) (1 per 4) 2 ≈ 14128 per 22755
integral_quarter_high = same _ _ tt tt

-- from 1 to 2 at order 2: at 3/2 the order is too small
integral_1_2 : Ends (integral 1F (whole 2)) 2 (of_frac 0F) (of_frac (8 per 15))
unfolding ◌∸◌
integral_1_2 = record { low_is = sameₛ _ _ tt tt; high_is = sameₛ _ _ tt tt }

-- ---- combined on the cautious side
abbrev within : Signed → Signed → Value
within a b = record { ok = λ n. true; low = λ n. a; high = λ n. b }

abbrev minus : ℕ → Signed
minus n = neg_s (of_frac (whole n))

abbrev plus : ℕ → Signed
plus n = of_frac (whole n)

sum_of : Ends (within (minus 1) (plus 2) +ᵥ within (plus 3) (plus 5)) 1 (plus 2) (plus 7)
sum_of = record { low_is = sameₛ _ _ tt tt; high_is = sameₛ _ _ tt tt }

difference_of : Ends (within (minus 1) (plus 2) −ᵥ within (plus 3) (plus 5)) 1 (minus 6) (minus 1)
difference_of = record { low_is = sameₛ _ _ tt tt; high_is = sameₛ _ _ tt tt }

product_of : Ends (within (minus 1) (plus 2) ·ᵥ within (plus 3) (plus 5)) 1 (minus 5) (plus 10)
unfolding min_s max_s
product_of = record { low_is = sameₛ _ _ tt tt; high_is = sameₛ _ _ tt tt }

product_below : Ends (within (minus 3) (minus 2) ·ᵥ within (minus 1) (plus 5)) 1 (minus 15) (plus 3)
unfolding min_s max_s
product_below = record { low_is = sameₛ _ _ tt tt; high_is = sameₛ _ _ tt tt }

reciprocal_of : Ends (reciprocal (within (plus 4) (plus 8))) 1 (of_frac (1 per 8)) (of_frac (1 per 4))
unfolding ◌∸◌
reciprocal_of = record { low_is = sameₛ _ _ tt tt; high_is = sameₛ _ _ tt tt }

quotient_of : Ends (within (plus 1) (plus 2) /ᵥ within (plus 4) (plus 8)) 1 (of_frac (1 per 8)) (of_frac (1 per 2))
unfolding min_s max_s ◌∸◌
quotient_of = record { low_is = sameₛ _ _ tt tt; high_is = sameₛ _ _ tt tt }

-- the lower fraction of the one and the upper one of the other
larger_of_two : Ends (within (minus 1) (plus 7) ⊔ᵥ within (plus 3) (plus 5)) 1 (plus 3) (plus 7)
unfolding max_s
larger_of_two = record { low_is = sameₛ _ _ tt tt; high_is = sameₛ _ _ tt tt }

-- of 0 to 1, 2 to 3 and 4 to 5
largest_of_three : Ends (largestᵥ (λ (i : ℕ). within (plus (2 * i)) (plus (2 * i + 1))) 3) 1 (plus 4) (plus 5)
unfolding largestᵥ max_s
largest_of_three = record { low_is = sameₛ _ _ tt tt; high_is = sameₛ _ _ tt tt }

-- an order at which the divisor's lower fraction is not above 0 gives no bounds; one at which it is does
no_bounds_at_zero : (number 1F /ᵥ within (plus 0) (plus 1)).ok 1 ≡ false
unfolding ◌∸◌
no_bounds_at_zero = refl

no_bounds_below_zero : (number 1F /ᵥ within (minus 1) (plus 1)).ok 1 ≡ false
unfolding ◌∸◌
no_bounds_below_zero = refl

bounds_above_zero : (number 1F /ᵥ within (of_frac (1 per 9)) (plus 1)).ok 1 ≡ true
unfolding ◌∸◌
bounds_above_zero = refl

-- orders run from 1
no_order_zero : (ln (whole 2)).ok 0 ≡ false
no_order_zero = refl

-- ---- cable A at 60 minutes, and cable B's exponent at 1 minute
abbrev cable_a : CableNumbers
cable_a = record { d = 500; l = 1000; s = 500; k = 600000; w = 500000; fast = 1000; slow = 100; neighbours = [] }

near_a : near_end cable_a 60 ≈ 25 per 288
near_a = same _ _ tt tt

far_a : far_end cable_a 60 ≈ 5000 per 9
far_a = same _ _ tt tt

ratio_a : ratio cable_a ≈ whole 6400
ratio_a = same _ _ tt tt

fast_a : exponent 1000 60 ≈ 36 per 10
fast_a = same _ _ tt tt

slow_a : exponent 100 60 ≈ 36 per 100
slow_a = same _ _ tt tt

fast_b : exponent 100000 1 ≈ whole 6
fast_b = same _ _ tt tt

-- ---- a small cable at order 1; its k and w are not those of 1 − k and 1 − w
abbrev small : CableNumbers
small = record { d = 100; l = 300; s = 2000; k = 250000; w = 200000; fast = 5; slow = 1; neighbours = [] }

attainment_small : Ends (attainment small 2880) 1 (of_frac (432 per 3665)) (of_frac (157289 per 469789))
unfolding min_s max_s
attainment_small = record { low_is = sameₛ _ _ tt tt; high_is = sameₛ _ _ tt tt }

beta_small : Ends (beta small 2880) 1 (of_frac (16 per 306025)) (of_frac (796262400 per 55297))
unfolding min_s max_s ◌∸◌
beta_small = record { low_is = sameₛ _ _ tt tt; high_is = sameₛ _ _ tt tt }

share_small : Ends (share small 2880) 1 (of_frac (99153828 per 1121581625)) (of_frac (11388128133009 per 9446517212))
unfolding min_s max_s ◌∸◌
share_small = record { low_is = sameₛ _ _ tt tt; high_is = sameₛ _ _ tt tt }

-- ---- the small cable with one neighbour 200 mm to its left at its own depth, and one 300 mm to its right and 100 mm deeper
abbrev trench : CableNumbers
trench = record {
  d = 100;
  l = 300;
  s = 2000;
  k = 250000;
  w = 200000;
  fast = 5;
  slow = 1;
  neighbours = record { offset = negsuc 199; depth = 300 } ∷ record { offset = pos 300; depth = 400 } ∷ [];
}

sources_trench : sources trench ≡ record { near = 40000; image = 400000 } ∷ record { near = 100000; image = 580000 } ∷ []
sources_trench = refl

beta_trench : Ends (beta trench 2880) 1 (of_frac (1304905168147280251 per 9760105174336693747480)) (of_frac (4530821995675883520 per 857474667853559))
unfolding min_s max_s ◌∸◌
beta_trench = record { low_is = sameₛ _ _ tt tt; high_is = sameₛ _ _ tt tt }

-- c²/(4tδ) and m²/(4tδ) of a neighbour 200 mm beside cable A, after 60 minutes
near_beside_a : source_end 500 60 40000 ≈ 50 per 9
near_beside_a = same _ _ tt tt

image_beside_a : source_end 500 60 4040000 ≈ 5050 per 9
image_beside_a = same _ _ tt tt

-- c = d is not below d: cable A's d is 50 mm, and its neighbour lies 30 mm to the side and 40 mm deeper
touching_a : InTrench cable_a (record { offset = pos 30; depth = 1040 })
touching_a = record { offset_to = leb→le _ _ tt; depth_from = leb→le _ _ tt; depth_to = leb→le _ _ tt; apart = leb→le _ _ tt }
