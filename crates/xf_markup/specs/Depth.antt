-- How many levels of elements a tree has.
use Rattle.std.specs.Prelude.{ℕ, ◌+◌, max, List, [], ◌∷◌}
use Rattle.xf_markup.specs.declared.tree.Node.{Node, Node-F, fold-Node}
use Rattle.xf_markup.specs.declared.tree.Piece.{Piece, Piece-F, fold-Piece}

abbrev pub greatest_of : List ℕ → ℕ
greatest_of [] = 0
greatest_of (d ∷ ds) = max d (greatest_of ds)

-- a piece, with the levels of an inner element in its place
abbrev pub depth_piece_step : Piece-F ℕ ℕ → ℕ
depth_piece_step (Piece-F.Words text) = 0
depth_piece_step (Piece-F.Inner levels) = levels

abbrev pub depth_node_step : Node-F ℕ ℕ → ℕ
depth_node_step n = greatest_of n.pieces + 1

-- an element has one level more than the deepest of those in it
abbrev pub depth : Node → ℕ
depth = fold-Node ℕ ℕ depth_piece_step depth_node_step

abbrev pub depth_piece : Piece → ℕ
depth_piece = fold-Piece ℕ ℕ depth_piece_step depth_node_step
