-- A tree, as the row of its tags and texts (XML 1.0, section 3 "Logical structures"), and the row of marks that tokens
-- come to: a comment counts as one space.
use Rattle.std.specs.Prelude.{ℕ, List, [], ◌∷◌, ◌++◌, map, if◌then◌else◌}
use Rattle.xf_markup.specs.declared.tree.Node.{Node, Node-F, fold-Node}
use Rattle.xf_markup.specs.declared.tree.Piece.{Piece, Piece-F, fold-Piece}
use Rattle.xf_markup.specs.declared.tree.Attr.{Attr}
use Rattle.xf_markup.specs.Tokens.{Token, Opens, Closes, Remark, Says}

-- a tag, or the whole text between two tags
pub data Mark : Type 0 where
  Opened : (place : ℕ) → (name : List ℕ) → (attrs : List Attr) → Mark
  Said : (words : List ℕ) → Mark
  Closed : (name : List ℕ) → Mark

abbrev pub joined : List (List Mark) → List Mark
joined [] = []
joined (xs ∷ xss) = xs ++ joined xss

-- a piece, with the marks of an inner element in its place
abbrev pub piece_step : Piece-F (List Mark) (List Mark) → List Mark
piece_step (Piece-F.Words text) = Said text ∷ []
piece_step (Piece-F.Inner marks) = marks

abbrev pub node_step : Node-F (List Mark) (List Mark) → List Mark
node_step n = Opened n.place n.name n.attrs ∷ (joined n.pieces ++ Closed n.name ∷ [])

abbrev pub flat : Node → List Mark
flat = fold-Node (List Mark) (List Mark) piece_step node_step

abbrev pub flat_piece : Piece → List Mark
flat_piece = fold-Piece (List Mark) (List Mark) piece_step node_step

abbrev pub flat_pieces : List Piece → List Mark
flat_pieces ps = joined (map flat_piece ps)

abbrev pub said : List ℕ → List Mark
said [] = []
said (w ∷ ws) = Said (w ∷ ws) ∷ []

-- the marks of some tokens, and the text since the last tag
pub record Shown : Type 0 where
  pub marks : List Mark
  pub words : List ℕ

abbrev pub nothing : Shown
nothing = record { marks = []; words = [] }

abbrev pub tagged : Shown → Mark → Shown
tagged s mark = record { marks = s.marks ++ (said s.words ++ mark ∷ []); words = [] }

abbrev pub add : Shown → Token → Shown
add s (Opens place name attrs is_empty) = if is_empty then tagged (tagged s (Opened place name attrs)) (Closed name) else tagged s (Opened place name attrs)
add s (Closes name) = tagged s (Closed name)
add s Remark = record { marks = s.marks; words = s.words ++ 32 ∷ [] }
add s (Says words) = record { marks = s.marks; words = s.words ++ words }

abbrev pub shown : Shown → List Token → Shown
shown s [] = s
shown s (t ∷ ts) = shown (add s t) ts
