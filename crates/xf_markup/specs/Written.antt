-- The bytes that a tree is written as, the trees that can be written (XML 1.0, sections 2.3, 2.4 and 3.1), and a tree
-- without its places.
use Rattle.std.specs.Prelude.{ℕ, ◌==◌, Bool, true, false, not, ◌&&◌, ◌||◌, List, [], ◌∷◌, ◌++◌, map, codes, if◌then◌else◌}
use Rattle.std.specs.List.{list_all}
use Rattle.xf_markup.specs.declared.tree.Node.{Node, Node-F, fold-Node, roll-Node}
use Rattle.xf_markup.specs.declared.tree.Piece.{Piece, Piece-F, fold-Piece, roll-Piece}
use Rattle.xf_markup.specs.declared.tree.Attr.{Attr}
use Rattle.xf_markup.specs.Names.{is_name, is_name_start}
use Rattle.xf_markup.specs.Tag.{are_distinct}

-- a byte other than the quote
abbrev pub is_other : ℕ → ℕ → Bool
is_other quote b = not (b == quote)

-- a value stands in `"`, but one that has a `"` stands in `'`
abbrev pub quote_of : List ℕ → ℕ
quote_of value = if list_all (is_other 34) value then 34 else 39

abbrev pub joined_bytes : List (List ℕ) → List ℕ
joined_bytes [] = []
joined_bytes (xs ∷ xss) = xs ++ joined_bytes xss

abbrev pub written_attr : Attr → List ℕ
written_attr a = codes " " ++ (a.name ++ (codes "=" ++ ((quote_of a.value ∷ []) ++ (a.value ++ (quote_of a.value ∷ [])))))

abbrev pub written_attrs : List Attr → List ℕ
written_attrs attrs = joined_bytes (map written_attr attrs)

-- a piece, with the bytes of an inner element in its place
abbrev pub written_piece_step : Piece-F (List ℕ) (List ℕ) → List ℕ
written_piece_step (Piece-F.Words text) = text
written_piece_step (Piece-F.Inner bytes) = bytes

-- an open tag, what the element holds, and the end tag
abbrev pub written_node_step : Node-F (List ℕ) (List ℕ) → List ℕ
written_node_step n = codes "<" ++ (n.name ++ (written_attrs n.attrs ++ (codes ">" ++ (joined_bytes n.pieces ++ (codes "</" ++ (n.name ++ codes ">"))))))

abbrev pub written : Node → List ℕ
written = fold-Node (List ℕ) (List ℕ) written_piece_step written_node_step

abbrev pub written_piece : Piece → List ℕ
written_piece = fold-Piece (List ℕ) (List ℕ) written_piece_step written_node_step

-- a name as it may stand in a tag
abbrev pub is_spelt_name : List ℕ → Bool
is_spelt_name [] = false
is_spelt_name (b ∷ bs) = is_name_start b && list_all is_name bs

-- a value that one of the quotes may stand round: no `<`, and not both quotes
abbrev pub is_spelt_value : List ℕ → Bool
is_spelt_value value = list_all (is_other 60) value && (list_all (is_other 34) value || list_all (is_other 39) value)

abbrev pub is_spelt_attr : Attr → Bool
is_spelt_attr a = is_spelt_name a.name && is_spelt_value a.value

abbrev pub is_text_byte : ℕ → Bool
is_text_byte b = not (b == 60 || b == 38)

-- a text that stands between two tags: not empty, no `<` and no `&`
abbrev pub is_spelt_text : List ℕ → Bool
is_spelt_text [] = false
is_spelt_text (b ∷ bs) = is_text_byte b && list_all is_text_byte bs

-- whether a piece is a text, and whether it is spelt as it must be
pub record Shape : Type 0 where
  pub is_text : Bool
  pub is_spelt : Bool

abbrev pub starts_with_text : List Shape → Bool
starts_with_text [] = false
starts_with_text (p ∷ ps) = p.is_text

-- no two texts stand side by side
abbrev pub are_apart : List Shape → Bool
are_apart [] = true
are_apart (p ∷ ps) = not (p.is_text && starts_with_text ps) && are_apart ps

abbrev pub shape_piece_step : Piece-F Shape Bool → Shape
shape_piece_step (Piece-F.Words text) = record { is_text = true; is_spelt = is_spelt_text text }
shape_piece_step (Piece-F.Inner ok) = record { is_text = false; is_spelt = ok }

abbrev pub spelt_node_step : Node-F Shape Bool → Bool
spelt_node_step n = (is_spelt_name n.name && (list_all is_spelt_attr n.attrs && are_distinct n.attrs)) && (list_all (λ p. p.is_spelt) n.pieces && are_apart n.pieces)

-- every name, value and text of the tree is spelt as it must be, no element has two attributes of one name, and no
-- text is empty or stands beside another
abbrev pub is_spelt : Node → Bool
is_spelt = fold-Node Shape Bool shape_piece_step spelt_node_step

abbrev pub shape : Piece → Shape
shape = fold-Piece Shape Bool shape_piece_step spelt_node_step

-- the same tree with each place 0
abbrev pub unplaced_node_step : Node-F Piece Node → Node
unplaced_node_step n = roll-Node (record { name = n.name; attrs = n.attrs; pieces = n.pieces; place = 0 })

abbrev pub unplaced : Node → Node
unplaced = fold-Node Piece Node roll-Piece unplaced_node_step

abbrev pub unplaced_piece : Piece → Piece
unplaced_piece = fold-Piece Piece Node roll-Piece unplaced_node_step
