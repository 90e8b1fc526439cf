-- Marks of pieces.
use Rattle.std.proofs.Common.{◌≡◌, ℕ, List, [], ◌∷◌, ◌++◌, ap, sym, ◌∙◌, rules, append_assoc, ◌<◌, length, arith}
use Rattle.std.proofs.lemmas.List.{append-nil}
use Rattle.xf_markup.specs.declared.tree.Node.{Node, the_lemmas}
use Rattle.xf_markup.specs.declared.tree.Piece.{Piece, Words, Inner}
use Rattle.xf_markup.specs.declared.tree.Attr.{Attr}
use Rattle.xf_markup.specs.Marks.{Opened, Said, Closed, flat, flat_piece, flat_pieces, said}

pub flat_piece-Words : (w : List ℕ) → flat_piece (Words w) ≡ Said w ∷ []
flat_piece-Words w = search (rules, the_lemmas)

pub flat_piece-Inner : (n : Node) → flat_piece (Inner n) ≡ flat n
flat_piece-Inner n = search (rules, the_lemmas)

pub flat_pieces-snoc : (ps : List Piece) (p : Piece) → flat_pieces (ps ++ p ∷ []) ≡ flat_pieces ps ++ flat_piece p
flat_pieces-snoc [] p = append-nil (flat_piece p)
flat_pieces-snoc (q ∷ ps) p = ap (λ x. flat_piece q ++ x) (flat_pieces-snoc ps p) ∙ sym (append_assoc (flat_piece q) (flat_pieces ps) (flat_piece p))

pub flat_pieces-words : (ps : List Piece) (w : List ℕ) → 0 < length w → flat_pieces (ps ++ Words w ∷ []) ≡ flat_pieces ps ++ said w
flat_pieces-words ps [] lt = absurd (omega arith)
flat_pieces-words ps (b ∷ w) lt = flat_pieces-snoc ps (Words (b ∷ w)) ∙ ap (λ x. flat_pieces ps ++ x) (flat_piece-Words (b ∷ w))

pub flat-Node : (name : List ℕ) (attrs : List Attr) (pieces : List Piece) (place : ℕ) → flat (record { name = name; attrs = attrs; pieces = pieces; place = place }) ≡ Opened place name attrs ∷ (flat_pieces pieces ++ Closed name ∷ [])
flat-Node name attrs pieces place = search (rules, the_lemmas)
