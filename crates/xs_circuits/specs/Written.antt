-- How a `circuit` is written (XCSP3-core, "Constraint circuit"): on one line, with its list as the text where its start is 0
-- and no size is given, else with children. A start of 0 is not written.
use Rattle.std.specs.Prelude.{ℕ, ℤ, pos, Bool, false, List, [], ◌∷◌, ◌++◌, map, Option, None, Some, slice_index_or, if◌then◌else◌, codes}
use Rattle.std.specs.Fmt.{signed_decimal}
use Rattle.std.specs.List.{flat_map}
use Rattle.std.specs.Ordering.{int_eq}
use Rattle.xs_model.specs.declared.concrete.Concrete.{Concrete}
use Rattle.xs_model.specs.declared.concrete.Pair.{Pair}
use Rattle.xs_model.specs.declared.concrete.Part.{Part}
use Rattle.xs_model.specs.declared.term.Term.{Term}
use Rattle.xs_model.specs.declared.term.Term.TheVariants.{Int, Var}

-- a text: a space, and then its words, a space behind each
abbrev pub spaced : List (List ℕ) → List ℕ
spaced ws = codes " " ++ flat_map (λ w. w ++ codes " ") ws

-- the direct words of all variables are given
abbrev pub word_at : List (List ℕ) → ℕ → List ℕ
word_at words v = slice_index_or words v []

abbrev pub term_word : List (List ℕ) → Term → List ℕ
term_word words (Int z) = signed_decimal z
term_word words (Var v) = word_at words v

abbrev pub vars_text : List (List ℕ) → List ℕ → List ℕ
vars_text words vs = spaced (map (word_at words) vs)

abbrev pub term_text : List (List ℕ) → Term → List ℕ
term_text words t = spaced (term_word words t ∷ [])

-- whether a circuit has neither a size nor a start other than 0
abbrev pub is_plain : ℤ → Option Term → Bool
is_plain start None = int_eq start (pos 0)
is_plain start (Some t) = false

abbrev pub part : List ℕ → List Pair → List ℕ → Part
part name attrs text = record { name = name; attrs = attrs; text = text }

abbrev pub start_pair : ℤ → Pair
start_pair start = record { name = codes "startIndex"; value = signed_decimal start }

abbrev pub start_pairs : ℤ → List Pair
start_pairs start = if int_eq start (pos 0) then [] else start_pair start ∷ []

-- the parts of the element. An own text without words is none
abbrev pub own_parts : List (List ℕ) → List ℕ → List Part
own_parts words [] = []
own_parts words (v ∷ vs) = part [] [] (vars_text words (v ∷ vs)) ∷ []

abbrev pub size_parts : List (List ℕ) → Option Term → List Part
size_parts words None = []
size_parts words (Some t) = part (codes "size") [] (term_text words t) ∷ []

abbrev pub parts_of : List (List ℕ) → List ℕ → ℤ → Option Term → List Part
parts_of words list start size = if is_plain start size then own_parts words list else part (codes "list") (start_pairs start) (vars_text words list) ∷ size_parts words size

-- the element that stands for a circuit
abbrev pub element_of : List (List ℕ) → List ℕ → ℤ → Option Term → Concrete
element_of words list start size = record { name = codes "circuit"; attrs = []; parts = parts_of words list start size; place = 0 }

-- its text
abbrev pub start_text : ℤ → List ℕ
start_text start = if int_eq start (pos 0) then [] else codes " startIndex=\"" ++ (signed_decimal start ++ codes "\"")

abbrev pub size_text : List (List ℕ) → Option Term → List ℕ
size_text words None = []
size_text words (Some t) = codes "<size>" ++ (term_text words t ++ codes "</size> ")

abbrev pub children_text : List (List ℕ) → List ℕ → ℤ → Option Term → List ℕ
children_text words list start size = codes " <list" ++ (start_text start ++ (codes ">" ++ (vars_text words list ++ (codes "</list> " ++ size_text words size))))

abbrev pub body_text : List (List ℕ) → List ℕ → ℤ → Option Term → List ℕ
body_text words list start size = if is_plain start size then vars_text words list else children_text words list start size

abbrev pub circuit_text : List (List ℕ) → List ℕ → ℤ → Option Term → List ℕ
circuit_text words list start size = codes "<circuit>" ++ (body_text words list start size ++ codes "</circuit>")
