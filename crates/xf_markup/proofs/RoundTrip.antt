-- What is written is read again as the same tree but for places.
use Rattle.std.proofs.Common.{◌≡◌, ℕ, ◌-◌, Bool, true, false, not, ◌&&◌, List, [], ◌∷◌, ◌++◌, map, length, drop, Some, refl, ap, sym, ◌∙◌, subst, arith, append_assoc}
use Rattle.std.specs.List.{list_all}
use Rattle.std.proofs.lemmas.List.{append-nil}
use Rattle.xf_markup.specs.declared.tree.Node.{Node, Node-F, ind-Node, out-Node, roll-Node, fold-roll-Node, roll-out-Node, map-Node}
use Rattle.xf_markup.specs.declared.tree.Piece.{Piece, Piece-F, out-Piece, roll-Piece, fold-roll-Piece, roll-out-Piece, map-Piece}
use Rattle.xf_markup.specs.declared.tree.Attr.{Attr}
use Rattle.xf_markup.specs.Names.{is_name, is_name_start}
use Rattle.xf_markup.specs.Head.{head_at}
use Rattle.xf_markup.specs.Depth.{depth}
use Rattle.xf_markup.proofs.DepthLemmas.{depth_same}
use Rattle.xf_markup.specs.Tag.{are_distinct}
use Rattle.xf_markup.specs.Tokens.{Token, Opens, Closes, Says}
use Rattle.xf_markup.specs.Marks.{Mark, Opened, Said, Closed, flat, flat_piece, flat_pieces, said, Shown, nothing, tagged, add, shown}
use Rattle.xf_markup.specs.Reading.{State, start, opened, fits, fits_at, next, Reads, Tree}
use Rattle.xf_markup.specs.Written.{written, written_piece, written_attrs, joined_bytes, written_piece_step, written_node_step, Shape, shape, is_spelt, starts_with_text, are_apart, shape_piece_step, spelt_node_step, is_spelt_name, is_spelt_attr, is_spelt_text, unplaced, unplaced_piece, unplaced_node_step}
use Rattle.xf_markup.proofs.DistinctLemmas.{and_left, and_right}
use Rattle.xf_markup.proofs.Unique.{flat_roll, words_roll, inner_roll, layer}
use Rattle.xf_markup.proofs.TakeLemmas.{fits_opens, fits_closes}
use Rattle.xf_markup.proofs.SpellingLemmas.{not_start}
use Rattle.xf_markup.proofs.WrittenTokens.{next_open, next_close, next_text}

reads_join : (total : ℕ) (s : State) (bytes : List ℕ) (ts : List Token) (mid : State) (rest : List ℕ) (us : List Token) (end : State) (left : List ℕ)
    → Reads total s bytes ts mid rest → Reads total mid rest us end left → Reads total s bytes (ts ++ us) end left
reads_join total s bytes [] mid rest us end left h k = subst (λ b. Reads total s b us end left) (sym h.1) (subst (λ z. Reads total z rest us end left) (sym h.0) k)
reads_join total s bytes (t ∷ ts) mid rest us end left h k = (h.0, h.1, h.2, reads_join total h.0 h.1 ts mid rest us end left h.3 k)

shown_join : (sh : Shown) (ts us : List Token) → shown sh (ts ++ us) ≡ shown (shown sh ts) us
shown_join sh [] us = refl
shown_join sh (t ∷ ts) us = shown_join (add sh t) ts us

-- one layer of a tree
written_roll : (x : Node-F Piece Node) → written (roll-Node x) ≡ 60 ∷ (x.name ++ (written_attrs x.attrs ++ 62 ∷ (joined_bytes (map written_piece x.pieces) ++ 60 ∷ 47 ∷ (x.name ++ 62 ∷ []))))
written_roll x = fold-roll-Node (List ℕ) (List ℕ) written_piece_step written_node_step x

written_words : (w : List ℕ) → written_piece (roll-Piece (Piece-F.Words w)) ≡ w
written_words w = fold-roll-Piece (List ℕ) (List ℕ) written_piece_step written_node_step (Piece-F.Words w)

written_inner : (n : Node) → written_piece (roll-Piece (Piece-F.Inner n)) ≡ written n
written_inner n = fold-roll-Piece (List ℕ) (List ℕ) written_piece_step written_node_step (Piece-F.Inner n)

pub spelt_roll : (x : Node-F Piece Node) → is_spelt (roll-Node x) ≡ ((is_spelt_name x.name && (list_all is_spelt_attr x.attrs && are_distinct x.attrs)) && (list_all (λ (p : Shape). p.is_spelt) (map shape x.pieces) && are_apart (map shape x.pieces)))
spelt_roll x = fold-roll-Node Shape Bool shape_piece_step spelt_node_step x

shape_words : (w : List ℕ) → shape (roll-Piece (Piece-F.Words w)) ≡ record { is_text = true; is_spelt = is_spelt_text w }
shape_words w = fold-roll-Piece Shape Bool shape_piece_step spelt_node_step (Piece-F.Words w)

shape_inner : (n : Node) → shape (roll-Piece (Piece-F.Inner n)) ≡ record { is_text = false; is_spelt = is_spelt n }
shape_inner n = fold-roll-Piece Shape Bool shape_piece_step spelt_node_step (Piece-F.Inner n)

unplaced_roll : (x : Node-F Piece Node) → unplaced (roll-Node x) ≡ roll-Node (layer x.name x.attrs (map unplaced_piece x.pieces) 0)
unplaced_roll x = fold-roll-Node Piece Node roll-Piece unplaced_node_step x

unplaced_inner : (n : Node) → unplaced_piece (roll-Piece (Piece-F.Inner n)) ≡ roll-Piece (Piece-F.Inner (unplaced n))
unplaced_inner n = fold-roll-Piece Piece Node roll-Piece unplaced_node_step (Piece-F.Inner n)

-- the marks, with the text since the last tag
abbrev flushed : Shown → List Mark
flushed sh = sh.marks ++ said sh.words

record NodeRead (n : Node) (total : ℕ) (s : State) (sh : Shown) (rest : List ℕ) : Type 0 where
  tree : Node
  tokens : List Token
  end : State
  reads : Reads total s (written n ++ rest) tokens end rest
  names : end.open_names ≡ s.open_names
  begun : end.begun ≡ true
  marks : (shown sh tokens).marks ≡ flushed sh ++ flat tree
  words : (shown sh tokens).words ≡ []
  same : unplaced tree ≡ unplaced n

abbrev NodeClaim : Node → Type 0
NodeClaim n = is_spelt n ≡ true → (total : ℕ) (s : State) (sh : Shown) (rest : List ℕ) → (s.open_names ≡ [] → s.begun ≡ false) → NodeRead n total s sh rest

record PieceRead (p : Piece) (total : ℕ) (s : State) (sh : Shown) (rest : List ℕ) : Type 0 where
  piece : Piece
  tokens : List Token
  end : State
  reads : Reads total s (written_piece p ++ rest) tokens end rest
  names : end.open_names ≡ s.open_names
  begun : end.begun ≡ true
  marks : flushed (shown sh tokens) ≡ flushed sh ++ flat_piece piece
  words : (shape p).is_text ≡ false → (shown sh tokens).words ≡ []
  same : unplaced_piece piece ≡ unplaced_piece p

-- a tag follows
abbrev TagFollows : List ℕ → Type 0
TagFollows rest = (more : List ℕ) × (rest ≡ 60 ∷ more)

abbrev PieceClaim : Piece → Type 0
PieceClaim p = (shape p).is_spelt ≡ true → (total : ℕ) (s : State) (sh : Shown) (rest : List ℕ) (inner : List ℕ) (outer : List (List ℕ)) → s.open_names ≡ inner ∷ outer → s.begun ≡ true
    → ((shape p).is_text ≡ true → (sh.words ≡ []) × TagFollows rest) → PieceRead p total s sh rest

-- a text
said_some : (w : List ℕ) → is_spelt_text w ≡ true → said w ≡ Said w ∷ []
said_some [] h = cc
said_some (b ∷ bs) h = refl

words_read : (w : List ℕ) → PieceClaim (roll-Piece (Piece-F.Words w))
words_read w ok total s sh rest inner outer is begun text =
    let given = text (ap (λ (z : Shape). z.is_text) (shape_words w)) in
    let more : List ℕ = given.1.0 in
    let follows : rest ≡ 60 ∷ more = given.1.1 in
    let spelt : is_spelt_text w ≡ true = sym (ap (λ (z : Shape). z.is_spelt) (shape_words w)) ∙ ok in
    let fit : fits s (Says w) ≡ Some s = ap (λ o. fits_at o s (Says w)) is in
    let bytes : written_piece (roll-Piece (Piece-F.Words w)) ++ rest ≡ w ++ 60 ∷ more = ap (λ z. z ++ rest) (written_words w) ∙ ap (λ z. w ++ z) follows in
    record {
      piece = roll-Piece (Piece-F.Words w);
      tokens = Says w ∷ [];
      end = s;
      reads = (s, 60 ∷ more, ap (next total s) bytes ∙ next_text total s s w more spelt fit, (refl, sym follows));
      names = refl;
      begun = begun;
      marks = ap (λ z. sh.marks ++ said (z ++ w)) given.0 ∙ ap (λ z. sh.marks ++ z) (said_some w spelt) ∙ ap (λ z. z ++ Said w ∷ []) (sym (append-nil sh.marks)) ∙ ap (λ z. (sh.marks ++ said z) ++ Said w ∷ []) (sym given.0) ∙ ap (λ z. flushed sh ++ z) (sym (words_roll w));
      words = λ plain. (let e = sym plain ∙ ap (λ (z : Shape). z.is_text) (shape_words w) in cc);
      same = refl;
    }

-- an element
inner_read : (n : Node) → NodeClaim n → PieceClaim (roll-Piece (Piece-F.Inner n))
inner_read n claim ok total s sh rest inner outer is begun text =
    let spelt : is_spelt n ≡ true = sym (ap (λ (z : Shape). z.is_spelt) (shape_inner n)) ∙ ok in
    let got = claim spelt total s sh rest (λ none. let e = sym none ∙ is in cc) in
    record {
      piece = roll-Piece (Piece-F.Inner got.tree);
      tokens = got.tokens;
      end = got.end;
      reads = subst (λ b. Reads total s (b ++ rest) got.tokens got.end rest) (sym (written_inner n)) got.reads;
      names = got.names;
      begun = got.begun;
      marks = ap (λ z. (shown sh got.tokens).marks ++ said z) got.words ∙ append-nil (shown sh got.tokens).marks ∙ got.marks ∙ ap (λ z. flushed sh ++ z) (sym (inner_roll got.tree));
      words = λ plain. got.words;
      same = unplaced_inner got.tree ∙ ap (λ z. roll-Piece (Piece-F.Inner z)) got.same ∙ sym (unplaced_inner n);
    }

piece_step_read : (x : Piece-F Piece Node) (y : Piece-F ((p : Piece) × PieceClaim p) ((n : Node) × NodeClaim n))
    → map-Piece ((p : Piece) × PieceClaim p) ((n : Node) × NodeClaim n) Piece Node (λ e. e.0) (λ e. e.0) y ≡ x → PieceClaim (roll-Piece x)
piece_step_read (Piece-F.Words w) y is = words_read w
piece_step_read (Piece-F.Inner n) (Piece-F.Words w) is = absurd (cc is)
piece_step_read (Piece-F.Inner n) (Piece-F.Inner c) is =
    let same : c.0 ≡ n = cc in
    inner_read n (subst NodeClaim same c.1)

-- several pieces
record PiecesRead (ps : List Piece) (total : ℕ) (s : State) (sh : Shown) (rest : List ℕ) : Type 0 where
  pieces : List Piece
  tokens : List Token
  end : State
  reads : Reads total s (joined_bytes (map written_piece ps) ++ rest) tokens end rest
  names : end.open_names ≡ s.open_names
  begun : end.begun ≡ true
  marks : flushed (shown sh tokens) ≡ flushed sh ++ flat_pieces pieces
  same : map unplaced_piece pieces ≡ map unplaced_piece ps

layer_begins : (x : Piece-F Piece Node) (ys : List ℕ) → (shape (roll-Piece x)).is_text ≡ false → TagFollows (written_piece (roll-Piece x) ++ ys)
layer_begins (Piece-F.Words w) ys plain = absurd (let e = sym plain ∙ ap (λ (z : Shape). z.is_text) (shape_words w) in cc)
layer_begins (Piece-F.Inner n) ys plain = (_, ap (λ z. z ++ ys) (written_inner n ∙ ap written (sym (roll-out-Node n)) ∙ written_roll (out-Node n)))

begins : (ps : List Piece) (more : List ℕ) → starts_with_text (map shape ps) ≡ false → TagFollows (joined_bytes (map written_piece ps) ++ 60 ∷ more)
begins [] more plain = (more, refl)
begins (p ∷ ps) more plain =
    let ys : List ℕ = joined_bytes (map written_piece ps) ++ 60 ∷ more in
    let is = roll-out-Piece p in
    let got = layer_begins (out-Piece p) ys (ap (λ q. (shape q).is_text) is ∙ plain) in
    (got.0, append_assoc (written_piece p) (joined_bytes (map written_piece ps)) (60 ∷ more) ∙ ap (λ q. written_piece q ++ ys) (sym is) ∙ got.1)

apart_first : (a b : Bool) → not (a && b) ≡ true → a ≡ true → b ≡ false
apart_first true true h e = cc
apart_first true false h e = refl
apart_first false b h e = cc

apart_second : (a b : Bool) → not (a && b) ≡ true → b ≡ true → a ≡ false
apart_second true true h e = cc
apart_second true false h e = cc
apart_second false b h e = refl

pieces_read : (qs : List ((p : Piece) × PieceClaim p)) → list_all (λ (p : Shape). p.is_spelt) (map shape (map (λ q. q.0) qs)) ≡ true → are_apart (map shape (map (λ q. q.0) qs)) ≡ true
    → (total : ℕ) (s : State) (sh : Shown) (more inner : List ℕ) (outer : List (List ℕ)) → s.open_names ≡ inner ∷ outer → s.begun ≡ true → (starts_with_text (map shape (map (λ q. q.0) qs)) ≡ true → sh.words ≡ [])
    → PiecesRead (map (λ q. q.0) qs) total s sh (60 ∷ more)
pieces_read [] ok apart total s sh more inner outer is begun text = record {
  pieces = [];
  tokens = [];
  end = s;
  reads = (refl, refl);
  names = refl;
  begun = begun;
  marks = sym (append-nil (flushed sh));
  same = refl;
}
pieces_read (q ∷ qs) ok apart total s sh more inner outer is begun text =
    let ps : List Piece = map (λ (r : (p : Piece) × PieceClaim p). r.0) qs in
    let rest : List ℕ = joined_bytes (map written_piece ps) ++ 60 ∷ more in
    let shapes : List Shape = map shape ps in
    let beside : not ((shape q.0).is_text && starts_with_text shapes) ≡ true = and_left (not ((shape q.0).is_text && starts_with_text shapes)) (are_apart shapes) apart in
    let one = q.1 (and_left (shape q.0).is_spelt (list_all (λ (p : Shape). p.is_spelt) shapes) ok) total s sh rest inner outer is begun
    (λ e. (text e, begins ps more (apart_first (shape q.0).is_text (starts_with_text shapes) beside e))) in
    let others = pieces_read qs (and_right (shape q.0).is_spelt (list_all (λ (p : Shape). p.is_spelt) shapes) ok) (and_right (not ((shape q.0).is_text && starts_with_text shapes)) (are_apart shapes) apart)
    total one.end (shown sh one.tokens) more inner outer (one.names ∙ is) one.begun (λ e. one.words (apart_second (shape q.0).is_text (starts_with_text shapes) beside e)) in
    record {
      pieces = one.piece ∷ others.pieces;
      tokens = one.tokens ++ others.tokens;
      end = others.end;
      reads = subst (λ b. Reads total s b (one.tokens ++ others.tokens) others.end (60 ∷ more)) (sym (append_assoc (written_piece q.0) (joined_bytes (map written_piece ps)) (60 ∷ more)))
          (reads_join total s (written_piece q.0 ++ rest) one.tokens one.end rest others.tokens others.end (60 ∷ more) one.reads others.reads);
      names = others.names ∙ one.names;
      begun = others.begun;
      marks = ap (λ z. flushed z) (shown_join sh one.tokens others.tokens) ∙ others.marks ∙ ap (λ z. z ++ flat_pieces others.pieces) one.marks ∙ append_assoc (flushed sh) (flat_piece one.piece) (flat_pieces others.pieces);
      same = ap (λ z. z ∷ map unplaced_piece others.pieces) one.same ∙ ap (λ z. unplaced_piece q.0 ∷ z) others.same;
    }

-- an element with its pieces
node_read : (name : List ℕ) (attrs : List Attr) (place : ℕ) (qs : List ((p : Piece) × PieceClaim p)) → NodeClaim (roll-Node (layer name attrs (map (λ q. q.0) qs) place))
node_read name attrs place qs ok total s sh rest free =
    let ps : List Piece = map (λ (r : (p : Piece) × PieceClaim p). r.0) qs in
    let x : Node-F Piece Node = layer name attrs ps place in
    let all = sym (spelt_roll x) ∙ ok in
    let tag = and_left (is_spelt_name name && (list_all is_spelt_attr attrs && are_distinct attrs)) (list_all (λ (p : Shape). p.is_spelt) (map shape ps) && are_apart (map shape ps)) all in
    let held = and_right (is_spelt_name name && (list_all is_spelt_attr attrs && are_distinct attrs)) (list_all (λ (p : Shape). p.is_spelt) (map shape ps) && are_apart (map shape ps)) all in
    let named : is_spelt_name name ≡ true = and_left (is_spelt_name name) (list_all is_spelt_attr attrs && are_distinct attrs) tag in
    let row = and_right (is_spelt_name name) (list_all is_spelt_attr attrs && are_distinct attrs) tag in
    let spelt : list_all is_spelt_attr attrs ≡ true = and_left (list_all is_spelt_attr attrs) (are_distinct attrs) row in
    let distinct : are_distinct attrs ≡ true = and_right (list_all is_spelt_attr attrs) (are_distinct attrs) row in
    let close : List ℕ = 60 ∷ 47 ∷ (name ++ 62 ∷ rest) in
    let inside : List ℕ = joined_bytes (map written_piece ps) ++ close in
    let bytes : List ℕ = 60 ∷ (name ++ (written_attrs attrs ++ 62 ∷ inside)) in
    let whole : written (roll-Node x) ++ rest ≡ bytes = ap (λ z. z ++ rest) (written_roll x) ∙ simp append_assoc in
    let at : ℕ = total - length bytes in
    let within : State = opened name false s in
    let first = next_open total s within name attrs inside named spelt (fits_opens s.open_names s at name attrs false distinct free) in
    let shown_open : Shown = tagged sh (Opened at name attrs) in
    let got = pieces_read qs (and_left (list_all (λ (p : Shape). p.is_spelt) (map shape ps)) (are_apart (map shape ps)) held) (and_right (list_all (λ (p : Shape). p.is_spelt) (map shape ps)) (are_apart (map shape ps)) held)
    total within shown_open (47 ∷ (name ++ 62 ∷ rest)) name s.open_names refl refl (λ e. refl) in
    let after : State = record { open_names = s.open_names; begun = got.end.begun; deepest = got.end.deepest } in
    let last = next_close total got.end after name rest named (fits_closes got.end.open_names s.open_names got.end name name got.names refl) in
    let tokens : List Token = Opens at name attrs false ∷ (got.tokens ++ Closes name ∷ []) in
    let y : Node-F Piece Node = layer name attrs got.pieces at in
    let middle : (flushed shown_open ++ flat_pieces got.pieces) ++ Closed name ∷ [] ≡ flushed sh ++ Opened at name attrs ∷ (flat_pieces got.pieces ++ Closed name ∷ []) = simp (append_assoc, append-nil) in
    let ends : shown sh tokens ≡ tagged (shown shown_open got.tokens) (Closed name) = shown_join shown_open got.tokens (Closes name ∷ []) in
    record {
      tree = roll-Node y;
      tokens = tokens;
      end = after;
      reads = subst (λ b. Reads total s b tokens after rest) (sym whole)
          (within, inside, first, reads_join total within inside got.tokens got.end close (Closes name ∷ []) after rest got.reads (after, rest, last, (refl, refl)));
      names = refl;
      begun = got.begun;
      marks = ap (λ (z : Shown). z.marks) ends ∙ sym (append_assoc (shown shown_open got.tokens).marks (said (shown shown_open got.tokens).words) (Closed name ∷ []))
          ∙ ap (λ z. z ++ Closed name ∷ []) got.marks ∙ middle ∙ ap (λ z. flushed sh ++ z) (sym (flat_roll y));
      words = ap (λ (z : Shown). z.words) ends;
      same = unplaced_roll y ∙ ap (λ z. roll-Node (layer name attrs z 0)) got.same ∙ sym (unplaced_roll x);
    }

node_step_read : (x : Node-F Piece Node) (y : Node-F ((p : Piece) × PieceClaim p) ((n : Node) × NodeClaim n))
    → map-Node ((p : Piece) × PieceClaim p) ((n : Node) × NodeClaim n) Piece Node (λ e. e.0) (λ e. e.0) y ≡ x → NodeClaim (roll-Node x)
node_step_read x y is =
    let pieces : map (λ (p : (p : Piece) × PieceClaim p). p.0) y.pieces ≡ x.pieces = ap (λ n. n.pieces) is in
    subst (λ ps. NodeClaim (roll-Node (layer x.name x.attrs ps x.place))) pieces (node_read x.name x.attrs x.place y.pieces)

all_read : (n : Node) → NodeClaim n
all_read = ind-Node PieceClaim NodeClaim piece_step_read node_step_read

-- no mark and no declaration is written
no_head : (name ys : List ℕ) → is_spelt_name name ≡ true → head_at (60 ∷ (name ++ ys)) ≡ 0
no_head [] ys h = cc
no_head (n ∷ ns) ys h = rw (not_start n 63 (and_left (is_name_start n) (list_all is_name ns) h) (omega arith)) refl

written_head : (n : Node) → is_spelt n ≡ true → head_at (written n) ≡ 0
written_head n ok =
    let x : Node-F Piece Node = out-Node n in
    let all = sym (spelt_roll x) ∙ ap is_spelt (roll-out-Node n) ∙ ok in
    let tag = and_left (is_spelt_name x.name && (list_all is_spelt_attr x.attrs && are_distinct x.attrs)) _ all in
    ap (λ m. head_at (written m)) (sym (roll-out-Node n)) ∙ ap head_at (written_roll x) ∙ no_head x.name _ (and_left (is_spelt_name x.name) _ tag)

pub round_trip : (n : Node) → is_spelt n ≡ true → (m : Node) × Tree m (written n) × (unplaced m ≡ unplaced n) × (depth m ≡ depth n)
round_trip n ok =
    let text : List ℕ = written n in
    let got = all_read n ok (length text) start nothing [] (λ e. refl) in
    let bytes : text ++ [] ≡ drop (head_at text) text = append-nil text ∙ ap (λ k. drop k text) (sym (written_head n ok)) in (
      got.tree,
      record {
        tokens = got.tokens;
        end = got.end;
        rest = [];
        before = [];
        reads = subst (λ b. Reads (length text) start b got.tokens got.end []) bytes got.reads;
        whole = (refl, got.names, got.begun);
        marks = got.marks;
      },
      got.same,
      depth_same got.tree n got.same,
    )

pub leaf_spelt : (x : Node-F Piece Node) (n : ℕ) → x.name ≡ n ∷ [] → is_name_start n ≡ true → x.attrs ≡ [] → x.pieces ≡ [] → is_spelt (roll-Node x) ≡ true
leaf_spelt x n named starts bare hollow =
    spelt_roll x
    ∙ ap (λ z. (is_spelt_name z && (list_all is_spelt_attr x.attrs && are_distinct x.attrs)) && (list_all (λ (p : Shape). p.is_spelt) (map shape x.pieces) && are_apart (map shape x.pieces))) named
    ∙ ap (λ z. (is_spelt_name (n ∷ []) && (list_all is_spelt_attr z && are_distinct z)) && (list_all (λ (p : Shape). p.is_spelt) (map shape x.pieces) && are_apart (map shape x.pieces))) bare
    ∙ ap (λ z. (is_spelt_name (n ∷ []) && true) && (list_all (λ (p : Shape). p.is_spelt) (map shape z) && are_apart (map shape z))) hollow
    ∙ ap (λ t. ((t && true) && true) && true) starts
