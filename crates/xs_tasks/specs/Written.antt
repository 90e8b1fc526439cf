-- How a `cumulative` is written (XCSP3-core, "Constraint cumulative"): on one line, a child for each field, and `ends` where
-- they are given.
use Rattle.std.specs.Prelude.{ℕ, List, [], ◌∷◌, ◌++◌, map, slice_index_or, Option, None, Some, codes}
use Rattle.std.specs.Fmt.{signed_decimal}
use Rattle.std.specs.List.{flat_map}
use Rattle.xs_model.specs.declared.concrete.Concrete.{Concrete}
use Rattle.xs_model.specs.declared.concrete.Part.{Part}
use Rattle.xs_model.specs.declared.instance.Constraint.{Constraint}
use Rattle.xs_model.specs.declared.instance.Constraint.TheVariants.{Cumulative}
use Rattle.xs_model.specs.declared.term.Cond.{Cond}
use Rattle.xs_model.specs.declared.term.Cond.TheVariants.{Lt, Le}
use Rattle.xs_model.specs.declared.term.Term.{Term}
use Rattle.xs_model.specs.declared.term.Term.TheVariants.{Int, Var}

-- a text: a space, and then its words, a space behind each
abbrev pub spaced : List (List ℕ) → List ℕ
spaced ws = codes " " ++ flat_map (λ w. w ++ codes " ") ws

-- the direct words of all variables are given
abbrev pub word_at : List (List ℕ) → ℕ → List ℕ
word_at words v = slice_index_or words v []

abbrev pub term_word : List (List ℕ) → Term → List ℕ
term_word words (Int z) = signed_decimal z
term_word words (Var v) = word_at words v

abbrev pub vars_text : List (List ℕ) → List ℕ → List ℕ
vars_text words vs = spaced (map (word_at words) vs)

abbrev pub terms_text : List (List ℕ) → List Term → List ℕ
terms_text words ts = spaced (map (term_word words) ts)

-- a limit is one word
abbrev pub limit_word : List (List ℕ) → Cond → List ℕ
limit_word words (Lt t) = codes "(lt," ++ (term_word words t ++ codes ")")
limit_word words (Le t) = codes "(le," ++ (term_word words t ++ codes ")")
limit_word words cond = []

abbrev pub limit_text : List (List ℕ) → Cond → List ℕ
limit_text words cond = spaced (limit_word words cond ∷ [])

abbrev pub child : List ℕ → List ℕ → Part
child name text = record { name = name; attrs = []; text = text }

-- the condition, behind the ends where they are given
abbrev pub last_parts : List (List ℕ) → Option (List ℕ) → Cond → List Part
last_parts words None cond = child (codes "condition") (limit_text words cond) ∷ []
last_parts words (Some ends) cond = child (codes "ends") (vars_text words ends) ∷ child (codes "condition") (limit_text words cond) ∷ []

abbrev pub parts_of : List (List ℕ) → Constraint → List Part
parts_of words (Cumulative origins lengths heights ends cond) =
    child (codes "origins") (vars_text words origins) ∷ child (codes "lengths") (terms_text words lengths) ∷ child (codes "heights") (terms_text words heights) ∷ last_parts words ends cond
parts_of words c = []

-- the element that stands for a `cumulative`
abbrev pub element_of : List (List ℕ) → Constraint → Concrete
element_of words c = record { name = codes "cumulative"; attrs = []; parts = parts_of words c; place = 0 }

-- its text
abbrev pub ends_text : List (List ℕ) → Option (List ℕ) → List ℕ
ends_text words None = []
ends_text words (Some ends) = codes " <ends>" ++ (vars_text words ends ++ codes "</ends>")

abbrev pub cumulative_text : List (List ℕ) → Constraint → List ℕ
cumulative_text words (Cumulative origins lengths heights ends cond) =
    (codes "<cumulative> <origins>" ++ (vars_text words origins ++ codes "</origins>"))
    ++ ((codes " <lengths>" ++ (terms_text words lengths ++ codes "</lengths>"))
    ++ ((codes " <heights>" ++ (terms_text words heights ++ codes "</heights>"))
    ++ (ends_text words ends ++ (codes " <condition>" ++ (limit_text words cond ++ codes "</condition> </cumulative>")))))
cumulative_text words c = []
