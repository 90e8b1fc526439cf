-- How a `noOverlap` is written (XCSP3-core, "Constraint noOverlap"): on one line, the origins and then the lengths, a word for
-- each box. A box of one dimension is its one word, and each other a tuple. That zeros are ignored is not written.
use Rattle.std.specs.Prelude.{ℕ, Bool, true, false, nat_le, List, [], ◌∷◌, ◌++◌, map, slice_index_or, codes}
use Rattle.std.specs.Fmt.{signed_decimal}
use Rattle.std.specs.List.{flat_map}
use Rattle.xs_expr.specs.Text.{joined_from}
use Rattle.xs_language.specs.Written.{spaced}
use Rattle.xs_model.specs.Lists.{width}
use Rattle.xs_model.specs.declared.concrete.Concrete.{Concrete}
use Rattle.xs_model.specs.declared.concrete.Pair.{Pair}
use Rattle.xs_model.specs.declared.concrete.Part.{Part}
use Rattle.xs_model.specs.declared.term.Term.{Term}
use Rattle.xs_model.specs.declared.term.Term.TheVariants.{Int, Var}

-- the direct words of all variables are given
abbrev pub word_at : List (List ℕ) → ℕ → List ℕ
word_at words v = slice_index_or words v []

abbrev pub term_word : List (List ℕ) → Term → List ℕ
term_word words (Int z) = signed_decimal z
term_word words (Var v) = word_at words v

-- boxes have one dimension, or there is none
abbrev pub is_flat : {X : Type 0} → List (List X) → Bool
is_flat rows = nat_le (width rows) 1

-- the entries of a box as one word: in parentheses, but where boxes have one dimension
abbrev pub opened : Bool → List ℕ
opened true = []
opened false = codes "("

abbrev pub closed : Bool → List ℕ
closed true = []
closed false = codes ")"

abbrev pub box_word : Bool → List (List ℕ) → List ℕ
box_word flat ws = opened flat ++ (joined_from [] ws ++ closed flat)

abbrev pub origin_word : List (List ℕ) → Bool → List ℕ → List ℕ
origin_word words flat vs = box_word flat (map (word_at words) vs)

abbrev pub length_word : List (List ℕ) → Bool → List Term → List ℕ
length_word words flat ts = box_word flat (map (term_word words) ts)

-- the texts of origins and of lengths
abbrev pub origins_text : List (List ℕ) → List (List ℕ) → List ℕ
origins_text words rows = spaced (map (origin_word words (is_flat rows)) rows)

abbrev pub lengths_text : List (List ℕ) → List (List Term) → List ℕ
lengths_text words rows = spaced (map (length_word words (is_flat rows)) rows)

-- the value of the attribute, where it is written
abbrev pub flag_words : Bool → List (List ℕ)
flag_words true = []
flag_words false = codes "false" ∷ []

abbrev pub flag_pair : List ℕ → Pair
flag_pair word = record { name = codes "zeroIgnored"; value = word }

abbrev pub child : List ℕ → List ℕ → Part
child name text = record { name = name; attrs = []; text = text }

-- the element that stands for a constraint
abbrev pub element_of : List (List ℕ) → List (List ℕ) → List (List Term) → Bool → Concrete
element_of words origins lengths zero_ignored = record {
  name = codes "noOverlap";
  attrs = map flag_pair (flag_words zero_ignored);
  parts = child (codes "origins") (origins_text words origins) ∷ child (codes "lengths") (lengths_text words lengths) ∷ [];
  place = 0;
}

-- its text
abbrev pub flag_text : List ℕ → List ℕ
flag_text word = codes " zeroIgnored=\"" ++ (word ++ codes "\"")

abbrev pub opening : Bool → List ℕ
opening zero_ignored = codes "<noOverlap" ++ (flat_map flag_text (flag_words zero_ignored) ++ codes "> <origins>")

abbrev pub no_overlap_text : List (List ℕ) → List (List ℕ) → List (List Term) → Bool → List ℕ
no_overlap_text words origins lengths zero_ignored =
    opening zero_ignored ++ (origins_text words origins ++ (codes "</origins> <lengths>" ++ (lengths_text words lengths ++ codes "</lengths> </noOverlap>")))
