-- Integers (XCSP3-core, integers).
use Rattle.std.specs.Prelude.{ℕ, ◌-◌, ◌^◌, Bool, ◌&&◌, nat_le, nat_lt, ℤ, nat_abs, List, length, slice_index, ◌==◌, Option, None, Some, if◌then◌else◌}
use Rattle.std.specs.Char.{is_ascii_digit}
use Rattle.std.specs.List.{list_all}
use Rattle.std.specs.Str.Parse.{without_leading_sign, signed_digits_value}
use Rattle.xf_num.specs.Limits as limits

-- digits, with an optional `-` or `+` before them
abbrev pub is_integer : List ℕ → Bool
is_integer word = nat_lt 0 (length (without_leading_sign word)) && list_all is_ascii_digit (without_leading_sign word)

-- the integer that a word spells
abbrev pub integer_of : List ℕ → Option ℤ
integer_of word = if is_integer word then Some (signed_digits_value 10 word) else None

-- the greatest magnitude of an integer
abbrev pub magnitudes : ℕ
magnitudes = limits.greatest_magnitude

abbrev pub is_small : ℤ → Bool
is_small z = nat_le (nat_abs z) magnitudes

-- where the number begins: behind a `+`
abbrev pub number_place : List ℕ → ℕ
number_place word = if slice_index word 0 == 43 then 1 else 0

-- the value of an integer, where it is small
abbrev pub small_value_of : List ℕ → Option ℤ
small_value_of word = if is_small (signed_digits_value 10 word) then Some (signed_digits_value 10 word) else None

abbrev pub is_minus : List ℕ → Bool
is_minus word = slice_index word 0 == 45

abbrev pub is_zero : ℕ → Bool
is_zero n = n == 0
