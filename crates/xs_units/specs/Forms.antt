-- What the forms of constraints know (XCSP3-core, "Constraints"): a row for each form, with its children, and the attributes
-- of the form and of its children.
use Rattle.std.specs.Prelude.{ℕ, Bool, false, ◌&&◌, ◌||◌, List, [], ◌∷◌, map, if◌then◌else◌, codes}
use Rattle.std.specs.List.{list_all, list_any}
use Rattle.std.specs.Str.{bytes_eq}
use Rattle.xf_markup.specs.declared.tree.Attr.{Attr}
use Rattle.xf_markup.specs.declared.tree.Node.{Node}
use Rattle.xs_fields.specs.Words.{words_of}
use Rattle.xs_var.specs.Elements.{children_of, is_one_of}
use Rattle.xs_var.specs.Variable.{has_no_child, is_blank}

-- an attribute of a child, or with the empty name of the form itself. Where words are given its value is one of them
pub record AttributeRow : Type 0 where
  pub owner : List ℕ
  pub name : List ℕ
  pub words : List ℕ

-- a form: the name of its element, the names of its children, and their attributes and its own
pub record FormRow : Type 0 where
  pub name : List ℕ
  pub children : List (List ℕ)
  pub attributes : List AttributeRow

-- the forms that are known
abbrev pub form_rows : List FormRow
form_rows =
    record { name = codes "intension"; children = codes "function" ∷ []; attributes = [] }
    ∷ record { name = codes "extension"; children = codes "list" ∷ codes "supports" ∷ codes "conflicts" ∷ []; attributes = [] }
    ∷ record { name = codes "regular"; children = codes "list" ∷ codes "transitions" ∷ codes "start" ∷ codes "final" ∷ []; attributes = [] }
    ∷ record { name = codes "mdd"; children = codes "list" ∷ codes "transitions" ∷ []; attributes = [] }
    ∷ record { name = codes "allDifferent"; children = codes "list" ∷ []; attributes = [] }
    ∷ []

-- no words are given, or the value is one of them
abbrev pub is_value : List ℕ → List ℕ → Bool
is_value words value = is_blank words || is_one_of (words_of words) value

abbrev pub is_attribute_of : List ℕ → Attr → AttributeRow → Bool
is_attribute_of owner a row = bytes_eq row.owner owner && (bytes_eq row.name a.name && is_value row.words a.value)

-- an attribute is one of these names, or one that the rows know of this element
abbrev pub is_attribute_known : List (List ℕ) → List ℕ → List AttributeRow → Attr → Bool
is_attribute_known dropped owner rows a = is_one_of dropped a.name || list_any (is_attribute_of owner a) rows

-- a child: its name and its attributes are known, and no element stands in it
abbrev pub is_child_known : List (List ℕ) → List AttributeRow → Node → Bool
is_child_known names rows c =
    is_one_of names c.name && (list_all (is_attribute_known (codes "class" ∷ codes "note" ∷ []) c.name rows) c.attrs && has_no_child c.pieces)

-- the attributes of the form and its children are known
abbrev pub are_parts_known : List (List ℕ) → List AttributeRow → Node → Bool
are_parts_known names rows n =
    list_all (is_attribute_known (codes "id" ∷ codes "class" ∷ codes "note" ∷ []) [] rows) n.attrs
    && list_all (is_child_known names rows) (children_of n.pieces)

-- the name is that of a form that is known
abbrev pub is_form : List ℕ → Bool
is_form name = is_one_of (map (λ row. row.name) form_rows) name

abbrev pub is_known_by : List FormRow → Node → Bool
is_known_by [] n = false
is_known_by (row ∷ rows) n = if bytes_eq n.name row.name then are_parts_known row.children row.attributes n else is_known_by rows n

-- the form, its attributes and its children are known
abbrev pub is_form_known : Node → Bool
is_form_known n = is_known_by form_rows n
