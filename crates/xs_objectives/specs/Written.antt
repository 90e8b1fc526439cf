-- How an objective is written (XCSP3-core, "Objectives"): on one line, an expression or a list as its text, and a sum with a
-- list and its coefficients as children. An expression has no type.
use Rattle.std.specs.Prelude.{ℕ, List, [], ◌∷◌, ◌++◌, map, slice_index_or, codes}
use Rattle.std.specs.Fmt.{signed_decimal}
use Rattle.std.specs.List.{flat_map}
use Rattle.xs_expr.specs.Text.{written}
use Rattle.xs_model.specs.declared.concrete.Concrete.{Concrete}
use Rattle.xs_model.specs.declared.concrete.Pair.{Pair}
use Rattle.xs_model.specs.declared.concrete.Part.{Part}
use Rattle.xs_model.specs.declared.instance.Body.{Body}
use Rattle.xs_model.specs.declared.instance.Body.TheVariants as body
use Rattle.xs_model.specs.declared.instance.Direction.{Direction}
use Rattle.xs_model.specs.declared.instance.Direction.TheVariants.{Minimize, Maximize}
use Rattle.xs_model.specs.declared.instance.Objective.{Objective}
use Rattle.xs_model.specs.declared.term.Term.{Term}
use Rattle.xs_model.specs.declared.term.Term.TheVariants.{Int, Var}

-- a text: a space, and then its words, a space behind each
abbrev pub spaced : List (List ℕ) → List ℕ
spaced ws = codes " " ++ flat_map (λ w. w ++ codes " ") ws

-- the direct words of all variables are given
abbrev pub word_at : List (List ℕ) → ℕ → List ℕ
word_at words v = slice_index_or words v []

abbrev pub term_word : List (List ℕ) → Term → List ℕ
term_word words (Int z) = signed_decimal z
term_word words (Var v) = word_at words v

abbrev pub vars_text : List (List ℕ) → List ℕ → List ℕ
vars_text words vs = spaced (map (word_at words) vs)

abbrev pub terms_text : List (List ℕ) → List Term → List ℕ
terms_text words ts = spaced (map (term_word words) ts)

-- the name of the element
abbrev pub name_of : Direction → List ℕ
name_of Minimize = codes "minimize"
name_of Maximize = codes "maximize"

-- the type, where it is written
abbrev pub type_words : Body → List (List ℕ)
type_words (body.Value e) = []
type_words (body.Sum list coeffs) = codes "sum" ∷ []
type_words (body.Least list) = codes "minimum" ∷ []
type_words (body.Greatest list) = codes "maximum" ∷ []
type_words (body.Distinct list) = codes "nValues" ∷ []

abbrev pub type_pair : List ℕ → Pair
type_pair word = record { name = codes "type"; value = word }

abbrev pub own_part : List ℕ → Part
own_part text = record { name = []; attrs = []; text = text }

abbrev pub child : List ℕ → List ℕ → Part
child name text = record { name = name; attrs = []; text = text }

-- the parts of an objective. An own text without words is none
abbrev pub list_parts : List (List ℕ) → List ℕ → List Part
list_parts words [] = []
list_parts words (v ∷ vs) = own_part (vars_text words (v ∷ vs)) ∷ []

abbrev pub parts_of : List (List ℕ) → Body → List Part
parts_of words (body.Value e) = own_part (spaced (written words e ∷ [])) ∷ []
parts_of words (body.Sum list coeffs) = child (codes "list") (vars_text words list) ∷ child (codes "coeffs") (terms_text words coeffs) ∷ []
parts_of words (body.Least list) = list_parts words list
parts_of words (body.Greatest list) = list_parts words list
parts_of words (body.Distinct list) = list_parts words list

-- the element that stands for an objective
abbrev pub element_of : List (List ℕ) → Objective → Concrete
element_of words o = record { name = name_of o.direction; attrs = map type_pair (type_words o.body); parts = parts_of words o.body; place = 0 }

-- its text
abbrev pub type_text : List ℕ → List ℕ
type_text word = codes " type=\"" ++ (word ++ codes "\"")

abbrev pub opening : Objective → List ℕ
opening o = codes "<" ++ (name_of o.direction ++ (flat_map type_text (type_words o.body) ++ codes ">"))

abbrev pub closing : Objective → List ℕ
closing o = codes "</" ++ (name_of o.direction ++ codes ">")

abbrev pub body_text : List (List ℕ) → Body → List ℕ
body_text words (body.Value e) = spaced (written words e ∷ [])
body_text words (body.Sum list coeffs) =
    codes " <list>" ++ (vars_text words list ++ (codes "</list> <coeffs>" ++ (terms_text words coeffs ++ codes "</coeffs> ")))
body_text words (body.Least list) = vars_text words list
body_text words (body.Greatest list) = vars_text words list
body_text words (body.Distinct list) = vars_text words list

abbrev pub objective_text : List (List ℕ) → Objective → List ℕ
objective_text words o = opening o ++ (body_text words o.body ++ closing o)
