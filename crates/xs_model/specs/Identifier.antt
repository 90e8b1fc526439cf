-- Identifiers (XCSP3-core, identifiers of variables and arrays).
use Rattle.std.specs.Prelude.{◌≡◌, ℕ, Bool, true, ◌&&◌, ◌||◌, nat_le, nat_eq, List, [], ◌∷◌}
use Rattle.std.specs.List.{list_all}

-- an ASCII digit
abbrev pub is_digit : ℕ → Bool
is_digit b = nat_le 48 b && nat_le b 57

-- an ASCII letter or `_`
abbrev pub is_letter : ℕ → Bool
is_letter b = (nat_le 65 b && nat_le b 90) || (nat_le 97 b && nat_le b 122) || nat_eq b 95

abbrev pub is_word : ℕ → Bool
is_word b = is_letter b || is_digit b

-- a letter or `_`, and then letters, digits and `_`
abbrev pub IsIdentifier : List ℕ → Type 0
IsIdentifier [] = ⊥
IsIdentifier (b ∷ bs) = (is_letter b ≡ true) × (list_all is_word bs ≡ true)
