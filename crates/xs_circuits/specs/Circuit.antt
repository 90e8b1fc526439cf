-- A `circuit` (XCSP3-core, "Constraint circuit"): what it meets, and the constraint. Its list is its own text, or a `list`
-- child with an optional `startIndex`, and then a `size` child may stand beside it, in any order.
use Rattle.std.specs.Prelude.{ℕ, ◌+◌, Bool, true, false, ◌&&◌, ◌||◌, nat_eq, is_some, List, [], ◌∷◌, length, Option, None, Some, codes}
use Rattle.std.specs.Option.{option_map}
use Rattle.std.specs.Str.{bytes_eq}
use Rattle.xs_conditions.specs.Flags.{start_meets, start_of}
use Rattle.xs_conditions.specs.Single.{one_term_meets, one_term_of}
use Rattle.xs_fields.specs.Cells.{vars_meet, vars_of}
use Rattle.xs_fields.specs.Lists.{count_meets}
use Rattle.xs_fields.specs.declared.condition.Condition.{Condition}
use Rattle.xs_model.specs.Outline.{Outline}
use Rattle.xs_model.specs.declared.concrete.Concrete.{Concrete}
use Rattle.xs_model.specs.declared.concrete.Part.{Part}
use Rattle.xs_model.specs.declared.instance.Constraint.{Constraint}
use Rattle.xs_model.specs.declared.instance.Constraint.TheVariants.{Circuit}
use Rattle.xs_model.specs.declared.term.Term.{Term}
use Rattle.xs_parts.specs.Parts.{or_else, part_in, value_among}
use Rattle.xs_var.specs.Variable.{spelling_meets}

-- the text of the first part with this name; that of the empty name is the own text
abbrev pub text_of : List ℕ → List Part → Option (List ℕ)
text_of name parts = option_map (λ p. p.text) (part_in name parts)

-- no part but the own text
abbrev pub is_own : List Part → Bool
is_own [] = true
is_own (p ∷ []) = bytes_eq p.name []
is_own (p ∷ q ∷ ps) = false

-- how many parts there are where the list is a child: it, and the size where there is one
abbrev pub children_in : Option (List ℕ) → ℕ
children_in None = 1
children_in (Some size) = 2

-- one `list`, at most one `size`, and nothing beside them
abbrev pub are_children : List Part → Bool
are_children parts = is_some (text_of (codes "list") parts) && nat_eq (length parts) (children_in (text_of (codes "size") parts))

abbrev pub are_parts : List Part → Bool
are_parts parts = is_own parts || are_children parts

-- the text of the list: of its child, or else the own text
abbrev pub list_text : List Part → List ℕ
list_text parts = or_else (text_of (codes "list") parts) (or_else (text_of [] parts) [])

-- the start, which is an attribute of the list child
abbrev pub start_in : Option Part → Option (List ℕ)
start_in None = None
start_in (Some p) = value_among p.attrs (codes "startIndex")

abbrev pub start_text : List Part → Option (List ℕ)
start_text parts = start_in (part_in (codes "list") parts)

abbrev pub size_text : List Part → Option (List ℕ)
size_text parts = text_of (codes "size") parts

-- the size, where there is one
abbrev pub size_meets : List Outline → Option (List ℕ) → Condition → Bool
size_meets os None k = true
size_meets os (Some text) k = one_term_meets os text k

abbrev pub size_of : List Outline → Option (List ℕ) → Option Term
size_of os None = None
size_of os (Some text) = Some (one_term_of os text)

-- the items: each list member, the start, given or not, and the size where there is one
abbrev pub items_in : ℕ → Option (List ℕ) → ℕ
items_in members None = members + 1
items_in members (Some size) = members + 2

abbrev pub texts_meet : List Outline → ℕ → List ℕ → Option (List ℕ) → Option (List ℕ) → Condition → Bool
texts_meet os left list start size k = vars_meet os list left k && (start_meets start k && size_meets os size k)

-- what the texts of the list, the start and the size meet, where so many items may still come
abbrev pub fields_meet : List Outline → ℕ → List ℕ → Option (List ℕ) → Option (List ℕ) → Condition → Bool
fields_meet os left list start size k = texts_meet os left list start size k && count_meets (items_in (length (vars_of os list)) size) left k

abbrev pub fields_denote : List Outline → List ℕ → Option (List ℕ) → Option (List ℕ) → Constraint
fields_denote os list start size = Circuit (vars_of os list) (start_of start) (size_of os size)

abbrev pub parts_meet : List Outline → ℕ → List Part → Condition → Bool
parts_meet os left parts k = spelling_meets (are_parts parts) k && fields_meet os left (list_text parts) (start_text parts) (size_text parts) k

abbrev pub parts_denote : List Outline → List Part → Constraint
parts_denote os parts = fields_denote os (list_text parts) (start_text parts) (size_text parts)

-- what a `circuit` meets, where so many items may still come
abbrev pub circuit_meets : List Outline → ℕ → Concrete → Condition → Bool
circuit_meets os left c k = parts_meet os left c.parts k

-- the constraint
abbrev pub circuit_of : List Outline → Concrete → Constraint
circuit_of os c = parts_denote os c.parts
