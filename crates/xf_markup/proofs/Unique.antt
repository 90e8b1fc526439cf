-- Two trees with the same marks are one.
use Rattle.std.proofs.Common.{◌≡◌, ℕ, drop, List, [], ◌∷◌, ◌++◌, map, refl, ap, sym, ◌∙◌, append_assoc, length}
use Rattle.xf_markup.specs.declared.tree.Node.{Node, Node-F, ind-Node, out-Node, roll-Node, fold-roll-Node, roll-out-Node, map-Node}
use Rattle.xf_markup.specs.declared.tree.Piece.{Piece, Piece-F, out-Piece, roll-Piece, fold-roll-Piece, roll-out-Piece, map-Piece}
use Rattle.xf_markup.specs.declared.tree.Attr.{Attr}
use Rattle.xf_markup.specs.Marks.{Mark, Opened, Said, Closed, flat, flat_piece, flat_pieces, said, piece_step, node_step, shown, nothing}
use Rattle.xf_markup.specs.Head.{head_at}
use Rattle.xf_markup.specs.Reading.{Tree, start}
use Rattle.xf_markup.proofs.Alone.{same_end, whole_stops}

pub flat_roll : (x : Node-F Piece Node) → flat (roll-Node x) ≡ Opened x.place x.name x.attrs ∷ (flat_pieces x.pieces ++ Closed x.name ∷ [])
flat_roll x = fold-roll-Node (List Mark) (List Mark) piece_step node_step x

pub words_roll : (w : List ℕ) → flat_piece (roll-Piece (Piece-F.Words w)) ≡ Said w ∷ []
words_roll w = fold-roll-Piece (List Mark) (List Mark) piece_step node_step (Piece-F.Words w)

pub inner_roll : (n : Node) → flat_piece (roll-Piece (Piece-F.Inner n)) ≡ flat n
inner_roll n = fold-roll-Piece (List Mark) (List Mark) piece_step node_step (Piece-F.Inner n)

-- the marks of an element
flat_out : (m : Node) → flat m ≡ Opened (out-Node m).place (out-Node m).name (out-Node m).attrs ∷ (flat_pieces (out-Node m).pieces ++ Closed (out-Node m).name ∷ [])
flat_out m = ap flat (sym (roll-out-Node m)) ∙ flat_roll (out-Node m)

heads : {X : Type 0} (x y : X) (xs ys : List X) → x ∷ xs ≡ y ∷ ys → (x ≡ y) × (xs ≡ ys)
heads x y xs ys e = (cc, cc)

-- the claims
abbrev NodeClaim : Node → Type 0
NodeClaim n = (m : Node) (a b : List Mark) → flat n ++ a ≡ flat m ++ b → (n ≡ m) × (a ≡ b)

abbrev PieceClaim : Piece → Type 0
PieceClaim p = (q : Piece) (a b : List Mark) → flat_piece p ++ a ≡ flat_piece q ++ b → (p ≡ q) × (a ≡ b)

-- a piece does not begin with an end tag, nor an element with a text
layer_closed : (z : Piece-F Piece Node) (s : List ℕ) (a b : List Mark) → Closed s ∷ a ≡ flat_piece (roll-Piece z) ++ b → ⊥
layer_closed (Piece-F.Words w) s a b h = let e = h ∙ ap (λ x. x ++ b) (words_roll w) in cc
layer_closed (Piece-F.Inner n) s a b h = let e = h ∙ ap (λ x. x ++ b) (inner_roll n ∙ flat_out n) in cc

piece_closed : (q : Piece) (s : List ℕ) (a b : List Mark) → Closed s ∷ a ≡ flat_piece q ++ b → ⊥
piece_closed q s a b h = layer_closed (out-Piece q) s a b (h ∙ ap (λ p. flat_piece p ++ b) (sym (roll-out-Piece q)))

pieces_agree : (ps : List ((p : Piece) × PieceClaim p)) (qs : List Piece) (s t : List ℕ) (a b : List Mark)
    → flat_pieces (map (λ p. p.0) ps) ++ Closed s ∷ a ≡ flat_pieces qs ++ Closed t ∷ b → (map (λ p. p.0) ps ≡ qs) × (a ≡ b)
pieces_agree [] [] s t a b h = (refl, (heads (Closed s) (Closed t) a b h).1)
pieces_agree [] (q ∷ qs) s t a b h = absurd (piece_closed q s a (flat_pieces qs ++ Closed t ∷ b) (h ∙ append_assoc (flat_piece q) (flat_pieces qs) (Closed t ∷ b)))
pieces_agree (p ∷ ps) [] s t a b h = absurd (piece_closed p.0 t b (flat_pieces (map (λ q. q.0) ps) ++ Closed s ∷ a) (sym h ∙ append_assoc (flat_piece p.0) (flat_pieces (map (λ q. q.0) ps)) (Closed s ∷ a)))
pieces_agree (p ∷ ps) (q ∷ qs) s t a b h =
    let e = p.1 q (flat_pieces (map (λ x. x.0) ps) ++ Closed s ∷ a) (flat_pieces qs ++ Closed t ∷ b)
    (sym (append_assoc (flat_piece p.0) (flat_pieces (map (λ x. x.0) ps)) (Closed s ∷ a)) ∙ h ∙ append_assoc (flat_piece q) (flat_pieces qs) (Closed t ∷ b)) in
    let more = pieces_agree ps qs s t a b e.1 in
    (ap (λ x. x ∷ map (λ y. y.0) ps) e.0 ∙ ap (λ xs. q ∷ xs) more.0, more.1)

opened_is : (p q : ℕ) (s t : List ℕ) (a b : List Attr) → Opened p s a ≡ Opened q t b → (p ≡ q) × (s ≡ t) × (a ≡ b)
opened_is p q s t a b e = (cc, cc, cc)

abbrev pub layer : List ℕ → List Attr → List Piece → ℕ → Node-F Piece Node
layer name attrs pieces place = record { name = name; attrs = attrs; pieces = pieces; place = place }

node_step_agrees : (x : Node-F Piece Node) (y : Node-F ((p : Piece) × PieceClaim p) ((n : Node) × NodeClaim n))
    → map-Node ((p : Piece) × PieceClaim p) ((n : Node) × NodeClaim n) Piece Node (λ e. e.0) (λ e. e.0) y ≡ x → NodeClaim (roll-Node x)
node_step_agrees x y is m a b h =
    let z : Node-F Piece Node = out-Node m in
    let pieces : map (λ (p : (p : Piece) × PieceClaim p). p.0) y.pieces ≡ x.pieces = ap (λ n. n.pieces) is in
    let left : flat (roll-Node x) ++ a ≡ Opened x.place x.name x.attrs ∷ (flat_pieces x.pieces ++ Closed x.name ∷ a)
    = ap (λ k. k ++ a) (flat_roll x) ∙ ap (λ k. Opened x.place x.name x.attrs ∷ k) (append_assoc (flat_pieces x.pieces) (Closed x.name ∷ []) a) in
    let right : flat m ++ b ≡ Opened z.place z.name z.attrs ∷ (flat_pieces z.pieces ++ Closed z.name ∷ b)
    = ap (λ k. k ++ b) (flat_out m) ∙ ap (λ k. Opened z.place z.name z.attrs ∷ k) (append_assoc (flat_pieces z.pieces) (Closed z.name ∷ []) b) in
    let e = heads (Opened x.place x.name x.attrs) (Opened z.place z.name z.attrs) (flat_pieces x.pieces ++ Closed x.name ∷ a) (flat_pieces z.pieces ++ Closed z.name ∷ b) (sym left ∙ h ∙ right) in
    let tag = opened_is x.place z.place x.name z.name x.attrs z.attrs e.0 in
    let inside = pieces_agree y.pieces z.pieces x.name z.name a b (ap (λ ps. flat_pieces ps ++ Closed x.name ∷ a) pieces ∙ e.1) in
    let all : x.pieces ≡ z.pieces = sym pieces ∙ inside.0 in
    let same : x ≡ z = ap (λ k. layer k x.attrs x.pieces x.place) tag.1 ∙ ap (λ k. layer z.name k x.pieces x.place) tag.2 ∙ ap (λ k. layer z.name z.attrs k x.place) all ∙ ap (λ k. layer z.name z.attrs z.pieces k) tag.0 in
    (ap roll-Node same ∙ roll-out-Node m, inside.1)

layers_agree : (x : Piece-F Piece Node) (y : Piece-F ((p : Piece) × PieceClaim p) ((n : Node) × NodeClaim n)) (z : Piece-F Piece Node)
    → map-Piece ((p : Piece) × PieceClaim p) ((n : Node) × NodeClaim n) Piece Node (λ e. e.0) (λ e. e.0) y ≡ x → (a b : List Mark)
    → flat_piece (roll-Piece x) ++ a ≡ flat_piece (roll-Piece z) ++ b → (x ≡ z) × (a ≡ b)
layers_agree (Piece-F.Words w) y (Piece-F.Words v) is a b h =
    let e = heads (Said w) (Said v) a b (sym (ap (λ k. k ++ a) (words_roll w)) ∙ h ∙ ap (λ k. k ++ b) (words_roll v)) in
    let same : w ≡ v = (let f = e.0 in cc) in
    (ap (λ k. Piece-F.Words k) same, e.1)
layers_agree (Piece-F.Words w) y (Piece-F.Inner m) is a b h =
    let e = sym (ap (λ k. k ++ a) (words_roll w)) ∙ h ∙ ap (λ k. k ++ b) (inner_roll m ∙ flat_out m) in
    absurd (cc e)
layers_agree (Piece-F.Inner n) y (Piece-F.Words v) is a b h =
    let e = sym (ap (λ k. k ++ a) (inner_roll n ∙ flat_out n)) ∙ h ∙ ap (λ k. k ++ b) (words_roll v) in
    absurd (cc e)
layers_agree (Piece-F.Inner n) (Piece-F.Words w) (Piece-F.Inner m) is a b h = absurd (cc is)
layers_agree (Piece-F.Inner n) (Piece-F.Inner c) (Piece-F.Inner m) is a b h =
    let me : c.0 ≡ n = cc in
    let e = c.1 m a b (ap (λ k. flat k ++ a) me ∙ sym (ap (λ k. k ++ a) (inner_roll n)) ∙ h ∙ ap (λ k. k ++ b) (inner_roll m)) in
    (ap (λ k. Piece-F.Inner k) (sym me ∙ e.0), e.1)

piece_step_agrees : (x : Piece-F Piece Node) (y : Piece-F ((p : Piece) × PieceClaim p) ((n : Node) × NodeClaim n))
    → map-Piece ((p : Piece) × PieceClaim p) ((n : Node) × NodeClaim n) Piece Node (λ e. e.0) (λ e. e.0) y ≡ x → PieceClaim (roll-Piece x)
piece_step_agrees x y is q a b h =
    let e = layers_agree x y (out-Piece q) is a b (h ∙ ap (λ p. flat_piece p ++ b) (sym (roll-out-Piece q))) in
    (ap roll-Piece e.0 ∙ roll-out-Piece q, e.1)

pub flat_alone : (n : Node) → NodeClaim n
flat_alone = ind-Node PieceClaim NodeClaim piece_step_agrees node_step_agrees

-- what stands before the element is told apart from it
before_agrees : (u v : List ℕ) (n m : Node) → said u ++ flat n ≡ said v ++ flat m → flat n ≡ flat m
before_agrees [] [] n m h = h
before_agrees [] (c ∷ v) n m h = let e = sym (flat_out n) ∙ h in absurd (cc e)
before_agrees (c ∷ u) [] n m h = let e = h ∙ flat_out m in absurd (cc e)
before_agrees (c ∷ u) (d ∷ v) n m h = (heads (Said (c ∷ u)) (Said (d ∷ v)) (flat n) (flat m) h).1

-- a text has at most one tree
pub one_tree : (text : List ℕ) (n m : Node) → Tree n text → Tree m text → n ≡ m
one_tree text n m a b =
    let same = same_end (length text) start (drop (head_at text) text) a.tokens b.tokens a.end b.end a.rest b.rest a.reads (whole_stops (length text) a.end a.rest a.whole) b.reads (whole_stops (length text) b.end b.rest b.whole) in
    let marks : said a.before ++ flat n ≡ said b.before ++ flat m = sym a.marks ∙ ap (λ ts. (shown nothing ts).marks) same.0 ∙ b.marks in
    (flat_alone n m [] [] (ap (λ k. k ++ []) (before_agrees a.before b.before n m marks))).0
