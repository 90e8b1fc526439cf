-- The words of an `args` and of the list of a slide (XCSP3-core, "Groups" and "Slides"; the compact form `vxk` of a list of
-- integers, and compact words of variables).
use Rattle.std.specs.Prelude.{ℕ, Bool, true, ◌&&◌, pos, int_le, nat_abs, List, [], ◌∷◌, replicate, Option, None, Some, if◌then◌else◌}
use Rattle.std.specs.List.{flat_map, list_all}
use Rattle.std.specs.Str.Parse.{signed_digits_value}
use Rattle.xs_model.specs.Outline.{Outline}
use Rattle.xs_words.specs.Compact.{cell_words_of, is_compact}
use Rattle.xs_fields.specs.Integers.{is_integer, is_small}
use Rattle.xs_fields.specs.Words.{is_byte, parts, words_of}
use Rattle.xs_fields.specs.declared.condition.Condition.{Condition}
use Rattle.xs_fields.specs.declared.condition.Condition.TheVariants.{Magnitude}

-- an integer of at least 1
abbrev pub is_count : List ℕ → Bool
is_count word = is_integer word && int_le (pos 1) (signed_digits_value 10 word)

abbrev pub copied_in : List (List ℕ) → Option (List ℕ × List ℕ)
copied_in [] = None
copied_in (v ∷ []) = None
copied_in (v ∷ k ∷ []) = if is_integer v && is_count k then Some (v, k) else None
copied_in (v ∷ k ∷ p ∷ ps) = None

-- the `v` and the `k` of a word `vxk`, for an integer `v` and at least one copy
abbrev pub copied_of : List ℕ → Option (List ℕ × List ℕ)
copied_of word = copied_in (parts (is_byte 120) word)

abbrev pub copies_of : List ℕ → List ℕ → List (List ℕ)
copies_of v k = if is_small (signed_digits_value 10 k) then replicate (nat_abs (signed_digits_value 10 k)) v else []

-- a compact word stands for the direct words of its cells, and each other for itself
abbrev pub other_args : List Outline → List ℕ → List (List ℕ)
other_args os word = if is_compact word then cell_words_of os word else word ∷ []

abbrev pub args_in : List Outline → List ℕ → Option (List ℕ × List ℕ) → List (List ℕ)
args_in os word None = other_args os word
args_in os word (Some c) = copies_of c.0 c.1

-- the words that a word of an `args` stands for: k copies of `v` for `vxk`
abbrev pub word_args : List Outline → List ℕ → List (List ℕ)
word_args os word = args_in os word (copied_of word)

-- the words of an `args`, after expansion
abbrev pub args_of : List Outline → List ℕ → List (List ℕ)
args_of os text = flat_map (word_args os) (words_of text)

abbrev pub is_few_in : Option (List ℕ × List ℕ) → Bool
is_few_in None = true
is_few_in (Some c) = is_small (signed_digits_value 10 c.1)

-- the number of copies is no integer that is too large
abbrev pub is_few : List ℕ → Bool
is_few word = is_few_in (copied_of word)

abbrev pub are_few : List ℕ → Bool
are_few text = list_all is_few (words_of text)

-- a test that is asked by `Magnitude` alone
abbrev pub magnitude_meets : Bool → Condition → Bool
magnitude_meets test Magnitude = test
magnitude_meets test k = true
