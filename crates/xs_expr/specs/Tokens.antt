-- The tokens of an expression's text (XCSP3-core, "Intensional constraints", functional notation): parentheses, commas,
-- and the words between these, with whitespace free between tokens.
use Rattle.std.specs.Prelude.{ℕ, Bool, not, ◌&&◌, ◌||◌, nat_eq, List, [], ◌∷◌, slice_index, if◌then◌else◌}
use Rattle.std.specs.List.{prefix_len}
use Rattle.xs_fields.specs.Words.{is_space, onto_first}

-- `(`, `)` and `,`
abbrev pub is_mark : ℕ → Bool
is_mark b = nat_eq b 40 || nat_eq b 41 || nat_eq b 44

abbrev pub is_in_word : ℕ → Bool
is_in_word b = not (is_space b) && not (is_mark b)

-- the tokens with a byte of a word before these bytes: of the first word, where these begin with a word's byte
abbrev pub onto_word : ℕ → List ℕ → List (List ℕ) → List (List ℕ)
onto_word b [] ts = (b ∷ []) ∷ ts
onto_word b (c ∷ cs) ts = if is_in_word c then onto_first b ts else (b ∷ []) ∷ ts

-- the tokens with a byte before bytes of these tokens
abbrev pub with_byte : ℕ → List ℕ → List (List ℕ) → List (List ℕ)
with_byte b bs ts = if is_space b then ts else (if is_mark b then (b ∷ []) ∷ ts else onto_word b bs ts)

-- the tokens of a text, each as its bytes
abbrev pub tokens_of : List ℕ → List (List ℕ)
tokens_of [] = []
tokens_of (b ∷ bs) = with_byte b bs (tokens_of bs)

-- how long the token is that these bytes begin with
abbrev pub token_len : List ℕ → ℕ
token_len bytes = if is_mark (slice_index bytes 0) then 1 else prefix_len is_in_word bytes
