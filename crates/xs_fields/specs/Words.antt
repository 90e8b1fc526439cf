-- How a text is cut into words.
use Rattle.std.specs.Prelude.{ℕ, ◌+◌, Bool, ◌||◌, nat_lt, nat_eq, List, [], ◌∷◌, length, Option, None, Some, if◌then◌else◌}
use Rattle.std.specs.List.{filter}

-- space, tab, CR and LF
abbrev pub is_space : ℕ → Bool
is_space b = nat_eq b 32 || nat_eq b 9 || nat_eq b 13 || nat_eq b 10

abbrev pub is_byte : ℕ → ℕ → Bool
is_byte stop b = nat_eq b stop

abbrev pub onto_first : ℕ → List (List ℕ) → List (List ℕ)
onto_first b [] = (b ∷ []) ∷ []
onto_first b (p ∷ ps) = (b ∷ p) ∷ ps

-- the parts of a text before, between and behind the bytes that pass the test: one more than there are such bytes
abbrev pub parts : (ℕ → Bool) → List ℕ → List (List ℕ)
parts test [] = [] ∷ []
parts test (b ∷ bs) = if test b then [] ∷ parts test bs else onto_first b (parts test bs)

abbrev pub is_nonempty : List ℕ → Bool
is_nonempty p = nat_lt 0 (length p)

-- the words of a text: what is not empty between whitespace
abbrev pub words_of : List ℕ → List (List ℕ)
words_of text = filter is_nonempty (parts is_space text)

-- the parts of what stands behind the first such byte, if there is one
abbrev pub parts_behind : (ℕ → Bool) → Option (List ℕ) → List (List ℕ)
parts_behind test None = []
parts_behind test (Some bytes) = parts test bytes

-- how much is left to cut
abbrev pub left_len : Option (List ℕ) → ℕ
left_len None = 0
left_len (Some bytes) = length bytes + 1
