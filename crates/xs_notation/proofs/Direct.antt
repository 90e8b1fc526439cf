-- The bytes of a direct word.
use Rattle.std.proofs.Common.{◌≡◌, ℕ, true, List, [], ◌∷◌, ◌++◌, refl, ◌∙◌, arith}
use Rattle.std.specs.List.{flat_map, list_all}
use Rattle.std.proofs.lemmas.List.Folds.{list_all-append}
use Rattle.xs_expr.specs.Tokens.{is_in_word}
use Rattle.xs_fields.proofs.Decimals.{integer-bytes}
use Rattle.xs_fields.proofs.DirectLemmas.{both, both-left, both-right, identifier-words, word-byte}
use Rattle.xs_model.specs.Denotes.{bracketed, SpellsIndex, SpellIndices}
use Rattle.xs_model.specs.Identifier.{is_word, IsIdentifier}
use Rattle.xs_notation.proofs.Marked.{high-byte, IsOneWord}

pub name-bytes : (n : List ℕ) → list_all is_word n ≡ true → list_all is_in_word n ≡ true
name-bytes [] h = refl
name-bytes (b ∷ bs) h = let l = (word-byte b (both-left (is_word b) (list_all is_word bs) h)).0 in both (is_in_word b) (list_all is_in_word bs) (high-byte b (omega arith)) (name-bytes bs (both-right (is_word b) (list_all is_word bs) h))

index-bytes : (t : List ℕ) (i : ℕ) → SpellsIndex t i → list_all is_in_word t ≡ true
index-bytes t i h = integer-bytes is_in_word refl refl (λ c l g. high-byte c (omega arith)) t h.0

bytes-both : (xs ys : List ℕ) → list_all is_in_word xs ≡ true → list_all is_in_word ys ≡ true → list_all is_in_word (xs ++ ys) ≡ true
bytes-both xs ys h g = list_all-append is_in_word xs ys ∙ both (list_all is_in_word xs) (list_all is_in_word ys) h g

pub brackets-bytes : (ts : List (List ℕ)) (is : List ℕ) → SpellIndices ts is → list_all is_in_word (flat_map bracketed ts) ≡ true
brackets-bytes [] is s = refl
brackets-bytes (t ∷ ts) [] s = absurd s
brackets-bytes (t ∷ ts) (i ∷ is) s = bytes-both (bracketed t) (flat_map bracketed ts) (bytes-both t (93 ∷ []) (index-bytes t i s.0) refl) (brackets-bytes ts is s.1)

-- a name and brackets are one word
word-whole : (n rest : List ℕ) → IsIdentifier n → list_all is_in_word rest ≡ true → IsOneWord (n ++ rest)
word-whole [] rest h g = absurd h
word-whole (b ∷ bs) rest h g =
    let all = name-bytes (b ∷ bs) (identifier-words (b ∷ bs) h) in
    (both-left (is_in_word b) (list_all is_in_word bs) all, bytes-both bs rest (both-right (is_in_word b) (list_all is_in_word bs) all) g)

pub one-word : (n : List ℕ) (ts : List (List ℕ)) (is : List ℕ) → IsIdentifier n → SpellIndices ts is → IsOneWord (n ++ flat_map bracketed ts)
one-word n ts is h s = word-whole n (flat_map bracketed ts) h (brackets-bytes ts is s)
