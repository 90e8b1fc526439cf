-- The tuples of a `noOverlap` (XCSP3-core, "Constraint noOverlap"): `(x,y)`, an entry for each dimension. An entry is a direct
-- word, and of lengths also an integer.
use Rattle.std.specs.Prelude.{ℕ, Bool, false, List, [], length, map, Option, None, Some}
use Rattle.xs_conditions.specs.Single.{direct_of, single_of}
use Rattle.xs_fields.specs.Conditions.{all_meet}
use Rattle.xs_fields.specs.Words.{is_byte, parts}
use Rattle.xs_fields.specs.declared.condition.Condition.{Condition}
use Rattle.xs_model.specs.Outline.{Outline}
use Rattle.xs_model.specs.declared.term.Term.{Term}
use Rattle.xs_tables.specs.Groups.{inner_of, spelt_meets}

-- the entries of a tuple stand between commas, behind its `(`
abbrev pub words_inside : Option (List ℕ) → List (List ℕ)
words_inside None = []
words_inside (Some inner) = parts (is_byte 44) inner

abbrev pub entries_of : List ℕ → List (List ℕ)
entries_of group = words_inside (inner_of group)

abbrev pub width_of : List ℕ → ℕ
width_of group = length (entries_of group)

-- what a tuple meets, where it is told what each entry does
abbrev pub inside_meets : (List ℕ → Condition → Bool) → Option (List ℕ) → Condition → Bool
inside_meets test None k = spelt_meets false k
inside_meets test (Some inner) k = all_meet test (parts (is_byte 44) inner) k

abbrev pub tuple_meets : (List ℕ → Condition → Bool) → List ℕ → Condition → Bool
tuple_meets test group k = inside_meets test (inner_of group) k

-- the origin that a tuple denotes, and the lengths
abbrev pub origin_of : List Outline → List ℕ → List ℕ
origin_of os group = map (direct_of os) (entries_of group)

abbrev pub length_of : List Outline → List ℕ → List Term
length_of os group = map (single_of os) (entries_of group)
