-- Worked values of the models. Each was worked out beforehand, in whole numbers and not by this code. Of β and the surface factor no values stand here; of the
-- share they do.
use Rattle.std.specs.Prelude.{◌≡◌, refl, List, [], ◌∷◌}
use Rattle.exact.specs.Share.{Source}
use Rattle.bounds.specs.Pair.{Pair, add_p, less_p, scaled_p, quotient_p, times_p, divided_p, at_most_p}
use Rattle.numbers.specs.Rounding.{ceil_n}
use Rattle.model.specs.Scale.{one, half}
use Rattle.model.specs.Exponential.{exp_term, exp_sum, fraction_exp_pair, decayed, exp_pair}
use Rattle.model.specs.Series.{series_term, series_sum, series_pair}
use Rattle.model.specs.Logarithm.{power_of_two, logarithm_slice, doublings, logarithm_after, logarithm}
use Rattle.model.specs.Integral.{slice_pair, unit_slice, half_slice, any_slice, part_slice, unit_part, half_part, slice_start, far_pair, unit_sum, half_sum, heating_integral}
use Rattle.model.specs.Share.{beta, surface_factor, attainment_of, attainment, share_of, cable_logarithm, cable_integral, source_logarithm, source_integral, with_logarithms, with_integrals, group_logarithm, group_integral, attained_share}

-- e^(-0.36), e^0 and e^(-17)
pub exponentials : ◌≡◌ {A = List Pair}
    (exp_pair 360000 1000000 ∷
    exp_pair 0 7 ∷
    exp_pair 17000000 1000000 ∷
    [])
    (record { low = 749124229; high = 749124254 } ∷
    record { low = 1073741775; high = 1073741824 } ∷
    record { low = 0; high = 45 } ∷
    [])
unfolding at_most_p exp_term exp_sum quotient_p fraction_exp_pair scaled_p decayed exp_pair
exponentials = refl

-- the series where it is largest, θ = 1/2 and τ = 1
pub series : ◌≡◌ {A = List Pair} (series_pair half one ∷ []) (record { low = 2705209321; high = 2705211007 } ∷ [])
unfolding exp_term series_term series_sum series_pair
series = refl

-- ln 80 and ln 2,000
pub logarithms : ◌≡◌ {A = List Pair}
    (logarithm 500 40000 ∷
    logarithm 100 200000 ∷
    [])
    (record { low = 4705164969; high = 4705166152 } ∷
    record { low = 8161406339; high = 8161408398 } ∷
    [])
unfolding add_p times_p exp_term scaled_p series_term series_sum series_pair power_of_two logarithm_slice doublings logarithm_after logarithm
logarithms = refl

-- J from 3/2 to 25; and J of d 1,500, l 300, s 100 after a minute, which is all far slice
pub integrals : ◌≡◌ {A = List Pair}
    (heating_integral 3 50 2 2147483648 ∷
    heating_integral 11250000 720000000 48000 4465567558 ∷
    [])
    (record { low = 107395183; high = 107395472 } ∷
    record { low = 0; high = 188 } ∷
    [])
unfolding add_p at_most_p exp_term exp_sum quotient_p fraction_exp_pair scaled_p decayed exp_pair series_term series_sum series_pair slice_pair power_of_two unit_slice half_slice any_slice part_slice unit_part half_part slice_start far_pair unit_sum half_sum heating_integral
integrals = refl

-- w 500,000, fast 1,000, slow 100, after an hour
pub attainments : ◌≡◌ {A = List Pair} (attainment 500000 1000 100 3600 ∷ []) (record { low = 684510384; high = 684510399 } ∷ [])
unfolding add_p less_p times_p divided_p ceil_n at_most_p exp_term exp_sum quotient_p fraction_exp_pair scaled_p decayed exp_pair attainment_of attainment
attainments = refl

-- shares after an hour; with k 0 and w 1,000,000 after two days; with the most slices; with none
pub shares : ◌≡◌ {A = List Pair}
    (attained_share 500 1000 500 600000 500000 1000 100 3600 [] ∷
    attained_share 500 1000 500 0 1000000 1000 100 172800 [] ∷
    attained_share 100 5000 2000 1000000 0 100000 1 172800 [] ∷
    attained_share 1500 300 100 1000000 1000000 100000 1 60 [] ∷
    [])
    (record { low = 340185; high = 340186 } ∷
    record { low = 999999; high = 1000000 } ∷
    record { low = 107974; high = 107976 } ∷
    record { low = 0; high = 1 } ∷
    [])
unfolding add_p less_p times_p divided_p ceil_n at_most_p exp_term exp_sum quotient_p fraction_exp_pair scaled_p decayed exp_pair series_term series_sum series_pair power_of_two logarithm_slice doublings logarithm_after logarithm slice_pair unit_slice half_slice any_slice part_slice unit_part half_part slice_start far_pair unit_sum half_sum heating_integral beta surface_factor attainment_of attainment share_of cable_logarithm cable_integral with_logarithms with_integrals attained_share
shares = refl

-- of a cable 1,000 mm deep: two neighbours as deep, 200 mm to either side; and one such with one 300 mm to the side and 500 mm deeper
abbrev flat : List Source
flat = record { near = 40000; image = 4040000 } ∷ record { near = 40000; image = 4040000 } ∷ []

abbrev unlike : List Source
unlike = record { near = 40000; image = 4040000 } ∷ record { near = 340000; image = 6340000 } ∷ []

-- β's divisor, and its numerator after two days
pub group_sums : ◌≡◌ {A = List Pair}
    (group_logarithm 500 1000 unlike ∷
    group_integral 500 1000 500 172800 unlike ∷
    [])
    (record { low = 17507211386; high = 17507215755 } ∷
    record { low = 8221620738; high = 8221623976 } ∷
    [])
unfolding add_p times_p at_most_p exp_term exp_sum quotient_p fraction_exp_pair scaled_p decayed exp_pair series_term series_sum series_pair power_of_two logarithm_slice doublings logarithm_after logarithm slice_pair unit_slice half_slice any_slice part_slice unit_part half_part slice_start far_pair unit_sum half_sum heating_integral cable_logarithm cable_integral source_logarithm source_integral with_logarithms with_integrals
group_sums = refl

-- shares with neighbours after an hour, and after two days
pub group_shares : ◌≡◌ {A = List Pair}
    (attained_share 500 1000 500 600000 500000 1000 100 3600 flat ∷
    attained_share 500 1000 500 600000 500000 1000 100 172800 flat ∷
    attained_share 500 1000 500 600000 500000 1000 100 172800 unlike ∷
    [])
    (record { low = 296514; high = 296516 } ∷
    record { low = 704203; high = 704204 } ∷
    record { low = 681767; high = 681769 } ∷
    [])
unfolding add_p less_p times_p divided_p ceil_n at_most_p exp_term exp_sum quotient_p fraction_exp_pair scaled_p decayed exp_pair series_term series_sum series_pair power_of_two logarithm_slice doublings logarithm_after logarithm slice_pair unit_slice half_slice any_slice part_slice unit_part half_part slice_start far_pair unit_sum half_sum heating_integral beta surface_factor attainment_of attainment share_of cable_logarithm cable_integral source_logarithm source_integral with_logarithms with_integrals attained_share
group_shares = refl
