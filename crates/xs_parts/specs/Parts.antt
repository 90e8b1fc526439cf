-- The parts of a constraint after expansion (XCSP3-core, "Constraints"): its children, and its own text as a part without a
-- name, and the attributes of each.
use Rattle.std.specs.Prelude.{ℕ, Bool, ◌||◌, nat_le, List, [], ◌∷◌, length, Option, None, Some, if◌then◌else◌}
use Rattle.std.specs.List.{filter}
use Rattle.std.specs.Str.{bytes_eq}
use Rattle.xs_model.specs.declared.concrete.Pair.{Pair}
use Rattle.xs_model.specs.declared.concrete.Part.{Part}

-- the value of the first attribute with this name
abbrev pub value_among : List Pair → List ℕ → Option (List ℕ)
value_among [] name = None
value_among (p ∷ ps) name = if bytes_eq p.name name then Some p.value else value_among ps name

-- an attribute's value, and this one where it is not there
abbrev pub or_else : Option (List ℕ) → List ℕ → List ℕ
or_else None value = value
or_else (Some text) value = text

abbrev pub has_name : List ℕ → Part → Bool
has_name name p = bytes_eq p.name name

-- the children with this name, and with the empty name the own text
abbrev pub parts_named : List ℕ → List Part → List Part
parts_named name parts = filter (has_name name) parts

abbrev pub first_of : List Part → Option Part
first_of [] = None
first_of (p ∷ ps) = Some p

-- the first child with this name
abbrev pub part_in : List ℕ → List Part → Option Part
part_in name parts = first_of (parts_named name parts)

-- no second child has this name
abbrev pub is_single : List ℕ → List Part → Bool
is_single name parts = nat_le (length (parts_named name parts)) 1

-- the own text, or the one child with this name
abbrev pub is_text_part : List ℕ → Part → Bool
is_text_part child p = bytes_eq p.name [] || bytes_eq p.name child

-- the one text of a constraint: its own, or that of its one child, which has this name. A constraint without parts has a blank
-- text
abbrev pub one_text : List ℕ → List Part → Option (List ℕ)
one_text child [] = Some []
one_text child (p ∷ []) = if is_text_part child p then Some p.text else None
one_text child (p ∷ q ∷ ps) = None

-- the text of the own part, where nothing stands beside it
abbrev pub own_text : List Part → List ℕ
own_text [] = []
own_text (p ∷ []) = if bytes_eq p.name [] then p.text else []
own_text (p ∷ q ∷ ps) = []

abbrev pub text_among : List Part → List Part → List ℕ
text_among [] parts = own_text parts
text_among (p ∷ []) parts = p.text
text_among (p ∷ q ∷ ps) parts = []

-- the text of the one child with this name, whatever stands beside it, or without such a child the own text; where there are
-- two of them, none
abbrev pub text_of_one : List ℕ → List Part → List ℕ
text_of_one child parts = text_among (parts_named child parts) parts
