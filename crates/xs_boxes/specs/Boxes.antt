-- The texts of `origins` and `lengths` (XCSP3-core, "Constraint noOverlap"): lists, a word for each box of one dimension, or
-- tuples, one for each box.
use Rattle.std.specs.Prelude.{ℕ, ◌+◌, Bool, true, ◌&&◌, ◌||◌, nat_eq, List, [], ◌∷◌, ◌++◌, length, map, Option, None, Some, if◌then◌else◌}
use Rattle.std.specs.List.{list_all}
use Rattle.xs_boxes.specs.Tuples.{length_of, origin_of, tuple_meets, width_of}
use Rattle.xs_conditions.specs.Single.{direct_meets, single_meets}
use Rattle.xs_fields.specs.Cells.{vars_meet, vars_of}
use Rattle.xs_fields.specs.Terms.{terms_meet, terms_of}
use Rattle.xs_fields.specs.declared.condition.Condition.{Condition}
use Rattle.xs_model.specs.Formed.{total}
use Rattle.xs_model.specs.Outline.{Outline}
use Rattle.xs_model.specs.declared.term.Term.{Term}
use Rattle.xs_tables.specs.Groups.{groups_meet, groups_of, spelt_meets}
use Rattle.xs_tables.specs.Tables.{are_tuples, sizes_meet}

-- all are the same
abbrev pub are_even : List ℕ → Bool
are_even [] = true
are_even (n ∷ ns) = list_all (nat_eq n) ns

abbrev pub first_in : List ℕ → Option ℕ
first_in [] = None
first_in (n ∷ ns) = Some n

-- how many entries each tuple of a text has
abbrev pub widths_of : List ℕ → List ℕ
widths_of text = map width_of (groups_of text)

-- what texts of tuples meet, where so many items may still come: all their tuples are equally long
abbrev pub tuples_meet : List Outline → ℕ → List ℕ → List ℕ → Condition → Bool
tuples_meet os left origins lengths k =
    spelt_meets (are_even (widths_of origins ++ widths_of lengths)) k
    && (groups_meet (tuple_meets (direct_meets os)) (origin_of os) origins left k && groups_meet (tuple_meets (single_meets os)) (length_of os) lengths left k)

-- what lists meet
abbrev pub lists_meet : List Outline → ℕ → List ℕ → List ℕ → Condition → Bool
lists_meet os left origins lengths k = vars_meet os origins left k && terms_meet os lengths left k

-- where one of the texts begins with `(`, both are texts of tuples; a blank text is one of no tuples, too
abbrev pub is_tupled : List ℕ → List ℕ → Bool
is_tupled origins lengths = are_tuples origins || are_tuples lengths

abbrev pub texts_meet : List Outline → ℕ → List ℕ → List ℕ → Condition → Bool
texts_meet os left origins lengths k = if is_tupled origins lengths then tuples_meet os left origins lengths k else lists_meet os left origins lengths k

-- a row for each
abbrev pub one_each : {A : Type 0} → List A → List (List A)
one_each xs = map (λ x. x ∷ []) xs

-- the origins of the boxes, and their lengths
abbrev pub origins_of : List Outline → List ℕ → List ℕ → List (List ℕ)
origins_of os origins lengths = if is_tupled origins lengths then map (origin_of os) (groups_of origins) else one_each (vars_of os origins)

abbrev pub lengths_of : List Outline → List ℕ → List ℕ → List (List Term)
lengths_of os origins lengths = if is_tupled origins lengths then map (length_of os) (groups_of lengths) else one_each (terms_of os lengths)

-- no more items than are left, and as many lengths as origins
abbrev pub rows_meet : ℕ → List (List ℕ) → List (List Term) → Condition → Bool
rows_meet left origins lengths k = sizes_meet (total (map length origins) + total (map length lengths)) left (nat_eq (length lengths) (length origins)) k

-- what the two texts meet
abbrev pub boxes_meet : List Outline → ℕ → List ℕ → List ℕ → Condition → Bool
boxes_meet os left origins lengths k = texts_meet os left origins lengths k && rows_meet left (origins_of os origins lengths) (lengths_of os origins lengths) k
