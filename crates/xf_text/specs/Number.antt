-- The number that starts at a place of a text: an optional minus and the longest run of digits.
use Rattle.std.specs.Prelude.{ℕ, ◌+◌, ◌<◌, Bool, cond, List, length, drop, slice_index, ◌==◌, ℤ, pos, neg_ℤ}
use Rattle.std.specs.Char.{is_ascii_digit}
use Rattle.std.specs.List.{take_while}
use Rattle.std.specs.Str.Parse.{digits_value}

-- a minus stands there
abbrev pub is_minus : List ℕ → ℕ → Bool
is_minus text at = slice_index text at == 45

-- where the digits begin
abbrev pub digits_start : List ℕ → ℕ → ℕ
digits_start text at = cond (is_minus text at) (at + 1) at

-- the digits
abbrev pub digits_at : List ℕ → ℕ → List ℕ
digits_at text at = take_while is_ascii_digit (drop (digits_start text at) text)

-- a number stands there
abbrev pub IsNumberAt : List ℕ → ℕ → Type 0
IsNumberAt text at = 0 < length (digits_at text at)

-- where it ends
abbrev pub number_end : List ℕ → ℕ → ℕ
number_end text at = digits_start text at + length (digits_at text at)

-- the number of a sign and a magnitude
abbrev pub signed : Bool → ℕ → ℤ
signed minus n = cond minus (neg_ℤ (pos n)) (pos n)

-- the number
abbrev pub number_at : List ℕ → ℕ → ℤ
number_at text at = signed (is_minus text at) (digits_value 10 (digits_at text at))
