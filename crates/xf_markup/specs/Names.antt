-- Names, and runs of bytes (XML 1.0, section 2.3 "Names and tokens", here of ASCII letters alone).
use Rattle.std.specs.Prelude.{ℕ, ◌+◌, ◌==◌, nat_le, Bool, ◌&&◌, ◌||◌, List, [], ◌∷◌, if◌then◌else◌}

-- a byte that a name may begin with: an ASCII letter or `_`
abbrev pub is_name_start : ℕ → Bool
is_name_start b = (nat_le 97 b && nat_le b 122) || (nat_le 65 b && nat_le b 90) || b == 95

-- a byte that may follow: a letter, a digit, `_`, `-`, `.` or `:`
abbrev pub is_name : ℕ → Bool
is_name b = is_name_start b || (nat_le 48 b && nat_le b 58) || b == 45 || b == 46

-- how many bytes from the front pass the test
abbrev pub run : (ℕ → Bool) → List ℕ → ℕ
run test [] = 0
run test (b ∷ bs) = if test b then run test bs + 1 else 0
