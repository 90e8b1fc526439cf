-- Words of an expression's text (XCSP3-core, "Intensional constraints").
use Rattle.std.specs.Prelude.{ℕ, ℤ, pos, int_le, Bool, false, ◌&&◌, List, Option, None, Some}
use Rattle.xs_fields.specs.Integers.{integer_of}

abbrev pub is_exponent_value : Option ℤ → Bool
is_exponent_value None = false
is_exponent_value (Some z) = int_le (pos 1) z && int_le z (pos 64)

-- a word is an exponent: an integer from 1 to 64, however it is spelt
abbrev pub is_exponent_word : List ℕ → Bool
is_exponent_word word = is_exponent_value (integer_of word)
