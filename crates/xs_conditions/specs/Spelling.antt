-- How the texts of single fields are cut.
use Rattle.std.specs.Prelude.{ℕ, ◌+◌, ◌-◌, Bool, true, false, ◌&&◌, nat_eq, nat_le, List, [], ◌∷◌, length, take, drop, position, Option, None, Some, if◌then◌else◌}
use Rattle.std.specs.List.{ends_with}
use Rattle.std.specs.Option.{option_map}
use Rattle.xs_fields.specs.Words.{is_byte, words_of}
use Rattle.xs_fields.specs.declared.condition.Condition.{Condition}
use Rattle.xs_fields.specs.declared.condition.Condition.TheVariants.{Counting, Spelling}

-- a test that is asked as spelling
abbrev pub spelt_meets : Bool → Condition → Bool
spelt_meets test Spelling = test
spelt_meets test k = true

-- a text of one word is that word
abbrev pub only_of : List (List ℕ) → Option (List ℕ)
only_of [] = None
only_of (w ∷ []) = Some w
only_of (w ∷ v ∷ ws) = None

abbrev pub word_in : List ℕ → Option (List ℕ)
word_in text = only_of (words_of text)

-- the two words of a text
abbrev pub pair_of : List (List ℕ) → Option (List ℕ × List ℕ)
pair_of [] = None
pair_of (v ∷ []) = None
pair_of (v ∷ w ∷ []) = Some (v, w)
pair_of (v ∷ w ∷ u ∷ us) = None

abbrev pub words_in : List ℕ → Option (List ℕ × List ℕ)
words_in text = pair_of (words_of text)

-- what is asked of the one word of a text
abbrev pub word_meets : (List ℕ → Condition → Bool) → Option (List ℕ) → Condition → Bool
word_meets test None k = spelt_meets false k
word_meets test (Some w) k = test w k

-- what stands before and behind the first such byte
abbrev pub halves_of : ℕ → List ℕ → Option (List ℕ × List ℕ)
halves_of stop word = option_map (λ at. (take at word, drop (at + 1) word)) (position (is_byte stop) word)

-- what stands between the first byte and the last, which are these
abbrev pub between_of : ℕ → ℕ → List ℕ → Option (List ℕ)
between_of first last [] = None
between_of first last (b ∷ bs) = if nat_eq b first && ends_with nat_eq bs (last ∷ []) then Some (take (length bs - 1) bs) else None

-- what is missed first where so many items are to be no more than are left
abbrev pub with_count : Option Condition → ℕ → ℕ → Option Condition
with_count None count left = if nat_le count left then None else Some Counting
with_count (Some k) count left = Some k
