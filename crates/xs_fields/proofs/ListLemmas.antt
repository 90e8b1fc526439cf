-- Lists of integers, word after word.
use Rattle.std.proofs.Common.{◌≡◌, ℕ, ◌+◌, ◌<◌, ◌++◌, List, [], ◌∷◌, None, Some, length, refl, ap, sym, ◌∙◌, arith, length-append, append_assoc, append-nil}
use Rattle.std.specs.List.{flat_map}
use Rattle.xs_fields.specs.declared.condition.Condition.TheVariants.{Spelling}
use Rattle.xs_fields.specs.Conditions.{first_missed}
use Rattle.xs_fields.specs.Sizes.{front_meets}
use Rattle.xs_fields.specs.Lists.{piece_in, run_in}
use Rattle.xs_fields.specs.Variables.{bracket_in}
use Rattle.xs_fields.specs.Words.{is_byte, parts}
use Rattle.xs_fields.proofs.PartLemmas.{parts_front}

-- more than two parts are no word of a list of integers
pub not_run : (v k bytes : List ℕ) → run_in (v ∷ k ∷ parts (is_byte 120) bytes) ≡ None
not_run v k bytes = ap (λ ps. run_in (v ∷ k ∷ ps)) (parts_front (is_byte 120) bytes)

-- nor are more than three a word of a domain text
pub not_piece : (a m b bytes : List ℕ) → piece_in (a ∷ m ∷ b ∷ parts (is_byte 46) bytes) ≡ None
not_piece a [] b bytes = ap (λ ps. piece_in (a ∷ [] ∷ b ∷ ps)) (parts_front (is_byte 46) bytes)
not_piece a (x ∷ xs) b bytes = ap (λ ps. piece_in (a ∷ (x ∷ xs) ∷ b ∷ ps)) (parts_front (is_byte 46) bytes)

-- nor are they a bracket
pub not_bracket : (a m b bytes : List ℕ) → bracket_in (a ∷ m ∷ b ∷ parts (is_byte 46) bytes) ≡ None
not_bracket a [] b bytes = ap (λ ps. bracket_in (a ∷ [] ∷ b ∷ ps)) (parts_front (is_byte 46) bytes)
not_bracket a (x ∷ xs) b bytes = ap (λ ps. bracket_in (a ∷ (x ∷ xs) ∷ b ∷ ps)) (parts_front (is_byte 46) bytes)

-- brackets with nothing before them are spelt right
pub front_right : (front bytes : List ℕ) → length front ≡ 0 → None ≡ first_missed (front_meets (front ∷ parts (is_byte 91) bytes))
front_right [] bytes none = sym (ap (λ ps. first_missed (front_meets ([] ∷ ps))) (parts_front (is_byte 91) bytes))
front_right (b ∷ bs) bytes none = absurd (omega arith)

pub front_wrong : (front bytes : List ℕ) → 0 < length front → Some Spelling ≡ first_missed (front_meets (front ∷ parts (is_byte 91) bytes))
front_wrong [] bytes some = absurd (omega arith)
front_wrong (b ∷ bs) bytes some = refl

-- the members of one word more
pub members_more : {A : Type 0} (members : List ℕ → List A) (words ws : List (List ℕ)) (w : List ℕ) (done all : List A) → words ≡ w ∷ ws → done ++ flat_map members words ≡ all → (done ++ members w) ++ flat_map members ws ≡ all
members_more members words ws w done all cut so_far = append_assoc done (members w) (flat_map members ws) ∙ ap (λ ys. done ++ flat_map members ys) (sym cut) ∙ so_far

pub members_all : {A : Type 0} (members : List ℕ → List A) (words : List (List ℕ)) (done all : List A) → words ≡ [] → done ++ flat_map members words ≡ all → done ≡ all
members_all members words done all none so_far = sym (append-nil done) ∙ ap (λ ys. done ++ flat_map members ys) (sym none) ∙ so_far

-- and their count
pub count_more : {A : Type 0} (members : List ℕ → List A) (words ws : List (List ℕ)) (w : List ℕ) (count all : ℕ) → words ≡ w ∷ ws → count + length (flat_map members words) ≡ all → (count + length (members w)) + length (flat_map members ws) ≡ all
count_more members words ws w count all cut so_far =
    let e = ap (λ ys. length (flat_map members ys)) cut in
    omega (arith, e, length-append (members w) (flat_map members ws), so_far)

pub count_all : {A : Type 0} (members : List ℕ → List A) (words : List (List ℕ)) (count all : ℕ) → words ≡ [] → count + length (flat_map members words) ≡ all → count ≡ all
count_all members words count all none so_far = let e = ap (λ ys. length (flat_map members ys)) none in omega (arith, e, so_far)
