-- Attributes, texts and children of an element (XML 1.0, elements and attributes; XCSP3-core uses no other markup).
use Rattle.std.specs.Prelude.{ℕ, Bool, List, [], ◌∷◌, Option, None, Some, if◌then◌else◌}
use Rattle.std.specs.List.{flat_map, list_all, list_any}
use Rattle.std.specs.Str.{bytes_eq}
use Rattle.xf_markup.specs.declared.tree.Attr.{Attr}
use Rattle.xf_markup.specs.declared.tree.Node.{Node}
use Rattle.xf_markup.specs.declared.tree.Piece.{Piece, Piece-F, out-Piece}

-- the value of the first attribute with this name
abbrev pub value_in : List ℕ → List Attr → Option (List ℕ)
value_in name [] = None
value_in name (a ∷ attrs) = if bytes_eq a.name name then Some a.value else value_in name attrs

-- a name is one of a list
abbrev pub is_one_of : List (List ℕ) → List ℕ → Bool
is_one_of names name = list_any (λ known. bytes_eq name known) names

-- each attribute's name is one of these
abbrev pub has_only : List (List ℕ) → List Attr → Bool
has_only names attrs = list_all (λ a. is_one_of names a.name) attrs

abbrev pub text_step : Piece-F Piece Node → List ℕ
text_step (Piece-F.Words text) = text
text_step (Piece-F.Inner node) = []

abbrev pub piece_text : Piece → List ℕ
piece_text p = text_step (out-Piece p)

-- the text of an element: its text pieces joined
abbrev pub text_in : List Piece → List ℕ
text_in ps = flat_map piece_text ps

abbrev pub node_step : Piece-F Piece Node → List Node
node_step (Piece-F.Words text) = []
node_step (Piece-F.Inner node) = node ∷ []

abbrev pub piece_nodes : Piece → List Node
piece_nodes p = node_step (out-Piece p)

-- the child elements, in order
abbrev pub children_of : List Piece → List Node
children_of ps = flat_map piece_nodes ps

-- an attribute's value, where there is one
abbrev pub text_or_none : Option (List ℕ) → List ℕ
text_or_none None = []
text_or_none (Some text) = text
