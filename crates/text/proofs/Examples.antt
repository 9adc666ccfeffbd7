-- Worked examples of numbers read and written. Each text is given above its bytes.
use Rattle.std.specs.Prelude.{◌≡◌, refl, false, [], ◌∷◌, pos, negsuc, Some, None}
use Rattle.text.specs.Reading.{all_digits, followed_by, number_of, signed_of, same_bytes}
use Rattle.text.specs.Writing.{leading, decimal_text, signed_text}

-- ---- whole numbers of 32 bits

-- "402"
reads_402 : number_of (52 ∷ 48 ∷ 50 ∷ []) 4294967295 ≡ Some 402
unfolding number_of all_digits followed_by
reads_402 = refl

-- "007"
reads_leading_zeros : number_of (48 ∷ 48 ∷ 55 ∷ []) 4294967295 ≡ Some 7
unfolding number_of all_digits followed_by
reads_leading_zeros = refl

-- "4294967295"
reads_the_most : number_of (52 ∷ 50 ∷ 57 ∷ 52 ∷ 57 ∷ 54 ∷ 55 ∷ 50 ∷ 57 ∷ 53 ∷ []) 4294967295 ≡ Some 4294967295
unfolding number_of all_digits followed_by
reads_the_most = refl

-- "4294967296"
reads_one_beyond : number_of (52 ∷ 50 ∷ 57 ∷ 52 ∷ 57 ∷ 54 ∷ 55 ∷ 50 ∷ 57 ∷ 54 ∷ []) 4294967295 ≡ Some 4294967295
unfolding number_of all_digits followed_by
reads_one_beyond = refl

-- ""
reads_nothing : number_of [] 4294967295 ≡ None
unfolding number_of
reads_nothing = refl

-- "4a"
reads_a_letter : number_of (52 ∷ 97 ∷ []) 4294967295 ≡ None
unfolding number_of all_digits
reads_a_letter = refl

-- "4:", the byte after '9'
reads_a_colon : number_of (52 ∷ 58 ∷ []) 4294967295 ≡ None
unfolding number_of all_digits
reads_a_colon = refl

-- "/4", the byte before '0'
reads_a_slash : number_of (47 ∷ 52 ∷ []) 4294967295 ≡ None
unfolding number_of all_digits
reads_a_slash = refl

-- "-3"
reads_no_sign : number_of (45 ∷ 51 ∷ []) 4294967295 ≡ None
unfolding number_of all_digits
reads_no_sign = refl

-- ---- signed numbers

-- "-6400"
reads_minus_6400 : signed_of (45 ∷ 54 ∷ 52 ∷ 48 ∷ 48 ∷ []) ≡ Some (negsuc 6399)
unfolding signed_of all_digits followed_by
reads_minus_6400 = refl

-- "6400"
reads_6400 : signed_of (54 ∷ 52 ∷ 48 ∷ 48 ∷ []) ≡ Some (pos 6400)
unfolding signed_of all_digits followed_by
reads_6400 = refl

-- "-"
reads_a_sign_alone : signed_of (45 ∷ []) ≡ None
unfolding signed_of all_digits
reads_a_sign_alone = refl

-- "999999999999999999", of 18 digits
reads_18_digits :
    signed_of (57 ∷ 57 ∷ 57 ∷ 57 ∷ 57 ∷ 57 ∷ 57 ∷ 57 ∷ 57 ∷ 57 ∷ 57 ∷ 57 ∷ 57 ∷ 57 ∷ 57 ∷ 57 ∷ 57 ∷ 57 ∷ []) ≡ Some (pos 999999999999999999)
unfolding signed_of all_digits followed_by
reads_18_digits = refl

-- "1000000000000000000", of 19 digits
reads_19_digits : signed_of (49 ∷ 48 ∷ 48 ∷ 48 ∷ 48 ∷ 48 ∷ 48 ∷ 48 ∷ 48 ∷ 48 ∷ 48 ∷ 48 ∷ 48 ∷ 48 ∷ 48 ∷ 48 ∷ 48 ∷ 48 ∷ 48 ∷ []) ≡ None
unfolding signed_of all_digits followed_by
reads_19_digits = refl

-- ---- numbers written

writes_402 : decimal_text 402 ≡ 52 ∷ 48 ∷ 50 ∷ []
unfolding decimal_text leading
writes_402 = refl

writes_0 : decimal_text 0 ≡ 48 ∷ []
unfolding decimal_text leading
writes_0 = refl

writes_10 : decimal_text 10 ≡ 49 ∷ 48 ∷ []
unfolding decimal_text leading
writes_10 = refl

-- the greatest number of 64 bits, "18446744073709551615"
writes_64_bits :
    decimal_text 18446744073709551615
    ≡ 49 ∷ 56 ∷ 52 ∷ 52 ∷ 54 ∷ 55 ∷ 52 ∷ 52 ∷ 48 ∷ 55 ∷ 51 ∷ 55 ∷ 48 ∷ 57 ∷ 53 ∷ 53 ∷ 49 ∷ 54 ∷ 49 ∷ 53 ∷ []
unfolding decimal_text leading
writes_64_bits = refl

writes_minus_6400 : signed_text (negsuc 6399) ≡ 45 ∷ 54 ∷ 52 ∷ 48 ∷ 48 ∷ []
unfolding decimal_text leading
writes_minus_6400 = refl

-- ---- two texts

-- "on" and "once"
not_the_start_of_another : same_bytes (111 ∷ 110 ∷ []) (111 ∷ 110 ∷ 99 ∷ 101 ∷ []) ≡ false
unfolding same_bytes
not_the_start_of_another = refl
