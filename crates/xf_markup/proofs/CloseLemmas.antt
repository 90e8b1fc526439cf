-- The marks when an element is closed.
use Rattle.std.proofs.Common.{◌≡◌, ◌<◌, List, [], ◌∷◌, ◌++◌, length, ap, ◌∙◌, append_assoc, arith}
use Rattle.xf_markup.specs.declared.tree.Node.{Node}
use Rattle.xf_markup.specs.declared.tree.Piece.{Piece, Inner}
use Rattle.xf_markup.specs.declared.growing.Frame.{Frame}
use Rattle.xf_markup.specs.Marks.{Opened, flat, flat_pieces}
use Rattle.xf_markup.specs.Growing.{open_marks}
use Rattle.xf_markup.proofs.MarkLemmas.{flat_pieces-snoc, flat_piece-Inner}

pub open_marks_inner : (fs : List Frame) (ps : List Piece) (n : Node) → 0 < length fs → open_marks fs (ps ++ Inner n ∷ []) ≡ open_marks fs ps ++ flat n
open_marks_inner [] ps n lt = absurd (omega arith)
open_marks_inner (g ∷ gs) ps n lt =
    let e : flat_pieces (ps ++ Inner n ∷ []) ≡ flat_pieces ps ++ flat n = flat_pieces-snoc ps (Inner n) ∙ ap (λ x. flat_pieces ps ++ x) (flat_piece-Inner n) in
    ap (λ x. open_marks gs g.before ++ Opened g.place g.name g.attrs ∷ x) e ∙ simp append_assoc
