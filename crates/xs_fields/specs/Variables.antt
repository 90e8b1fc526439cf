-- Variable words and what they denote (XCSP3-core, variables, arrays and compact forms).
use Rattle.std.specs.Prelude.{ℕ, Bool, true, false, ◌&&◌, List, [], ◌∷◌, Option, None, Some, Result, Ok, Err}
use Rattle.std.specs.List.{flat_map, list_all}
use Rattle.std.specs.Option.{option_map}
use Rattle.xs_fields.specs.Conditions.{all_meet, judged, meets}
use Rattle.xs_fields.specs.Identifiers.{identifier_meets}
use Rattle.xs_fields.specs.Integers.{integer_of, is_small}
use Rattle.xs_fields.specs.Lists.{range_of, has_small_ends}
use Rattle.xs_fields.specs.Sizes.{inner_of, brackets_of}
use Rattle.xs_fields.specs.Words.{is_byte, parts}
use Rattle.xs_fields.specs.declared.condition.Condition.{Condition}
use Rattle.xs_fields.specs.declared.variable.Bracket.{Bracket}
use Rattle.xs_fields.specs.declared.variable.Bracket.TheVariants.{At, Between, Every}
use Rattle.xs_fields.specs.declared.variable.Word.{Word}

-- what stands in a bracket: nothing, an index `k`, or a range `a..b` with a at most b
abbrev pub bracket_in : List (List ℕ) → Option Bracket
bracket_in [] = None
bracket_in ([] ∷ []) = Some Every
bracket_in ((x ∷ xs) ∷ []) = option_map At (integer_of (x ∷ xs))
bracket_in (a ∷ b ∷ []) = None
bracket_in (a ∷ [] ∷ b ∷ []) = option_map Between (range_of (integer_of a) (integer_of b))
bracket_in (a ∷ (x ∷ xs) ∷ b ∷ []) = None
bracket_in (a ∷ m ∷ b ∷ p ∷ ps) = None

abbrev pub bracket_inside : Option (List ℕ) → Option Bracket
bracket_inside None = None
bracket_inside (Some text) = bracket_in (parts (is_byte 46) text)

-- a bracket, from behind its `[` on
abbrev pub bracket_of : List ℕ → Option Bracket
bracket_of part = bracket_inside (inner_of part)

abbrev pub is_small_bracket : Bracket → Bool
is_small_bracket (At k) = is_small k
is_small_bracket (Between s) = has_small_ends s
is_small_bracket Every = true

abbrev pub bracket_meets : List ℕ → Condition → Bool
bracket_meets part = meets is_small_bracket (bracket_of part)

-- what stands before the first `[`
abbrev pub first_part : List (List ℕ) → List ℕ
first_part [] = []
first_part (p ∷ ps) = p

abbrev pub name_in : List ℕ → List ℕ
name_in word = first_part (parts (is_byte 91) word)

-- what a variable word meets: an identifier, and brackets
abbrev pub word_meets : List ℕ → Condition → Bool
word_meets word k = identifier_meets (name_in word) k && all_meet bracket_meets (brackets_of word) k

abbrev pub bracket_list : Result Bracket Condition → List Bracket
bracket_list (Ok b) = b ∷ []
bracket_list (Err k) = []

abbrev pub brackets_from : List ℕ → List Bracket
brackets_from part = bracket_list (judged is_small_bracket (bracket_of part))

-- the word that is spelt
abbrev pub word_of : List ℕ → Word
word_of word = record { name = name_in word; brackets = flat_map brackets_from (brackets_of word) }

-- a word is direct where each bracket is one index; else it is compact
abbrev pub is_index : Bracket → Bool
is_index (At k) = true
is_index (Between s) = false
is_index Every = false

abbrev pub is_direct : Word → Bool
is_direct word = list_all is_index word.brackets
