-- The levels of a tree are the most elements that are open at once in its text.
use Rattle.std.proofs.Common.{◌≡◌, ℕ, ◌+◌, ◌-◌, ◌≤◌, max, Bool, true, false, not, ◌||◌, List, [], ◌∷◌, ◌++◌, map, length, drop, Option, Some, None, refl, ap, sym, ◌∙◌, subst, arith, append_assoc, if◌then◌else◌}
use Rattle.std.specs.List.{list_all}
use Rattle.std.specs.Str.{bytes_eq}
use Rattle.std.proofs.lemmas.List.{append-nil}
use Rattle.xf_markup.specs.declared.cut.Cut.{Cut}
use Rattle.xf_markup.specs.declared.tree.Node.{Node, Node-F, ind-Node, roll-Node, fold-roll-Node, map-Node}
use Rattle.xf_markup.specs.declared.tree.Piece.{Piece, Piece-F, roll-Piece, fold-roll-Piece, map-Piece}
use Rattle.xf_markup.specs.declared.tree.Attr.{Attr}
use Rattle.xf_markup.specs.Depth.{depth, depth_piece, greatest_of, depth_piece_step, depth_node_step}
use Rattle.xf_markup.specs.Head.{head_at}
use Rattle.xf_markup.specs.Written.{unplaced, unplaced_piece, unplaced_node_step}
use Rattle.xf_markup.specs.Tag.{are_distinct}
use Rattle.xf_markup.specs.Tokens.{Token, Opens, Closes, Remark, Says, cut_at, token, size}
use Rattle.xf_markup.specs.Marks.{Mark, Opened, Said, Closed, flat, flat_piece, flat_pieces, said, piece_step, node_step, Shown, nothing, tagged, add, shown}
use Rattle.xf_markup.specs.Reading.{State, Next, start, opened, fits, fits_at, fitting, next_cut, is_space, Reads, Tree}

-- the most elements that are open at once from k on
abbrev top : ℕ → List Mark → ℕ
top k [] = k
top k (Opened place name attrs ∷ ms) = max k (top (k + 1) ms)
top k (Said words ∷ ms) = top k ms
top k (Closed name ∷ ms) = max k (top (k - 1) ms)

top_least : (k : ℕ) (ms : List Mark) → k ≤ top k ms
top_least k [] = omega arith
top_least k (Opened place name attrs ∷ ms) = omega arith
top_least k (Said words ∷ ms) = top_least k ms
top_least k (Closed name ∷ ms) = omega arith

-- of a tree
abbrev NodeClaim : Node → Type 0
NodeClaim n = (k : ℕ) (ms : List Mark) → top k (flat n ++ ms) ≡ max (k + depth n) (top k ms)

abbrev PieceClaim : Piece → Type 0
PieceClaim p = (k : ℕ) (ms : List Mark) → top k (flat_piece p ++ ms) ≡ max (k + depth_piece p) (top k ms)

depth_roll : (x : Node-F Piece Node) → depth (roll-Node x) ≡ greatest_of (map depth_piece x.pieces) + 1
depth_roll x = fold-roll-Node ℕ ℕ depth_piece_step depth_node_step x

flat_layer : (x : Node-F Piece Node) → flat (roll-Node x) ≡ Opened x.place x.name x.attrs ∷ (flat_pieces x.pieces ++ Closed x.name ∷ [])
flat_layer x = fold-roll-Node (List Mark) (List Mark) piece_step node_step x

words_top : (w : List ℕ) → PieceClaim (roll-Piece (Piece-F.Words w))
words_top w k ms =
    let marks : flat_piece (roll-Piece (Piece-F.Words w)) ≡ Said w ∷ [] = fold-roll-Piece (List Mark) (List Mark) piece_step node_step (Piece-F.Words w) in
    let none : depth_piece (roll-Piece (Piece-F.Words w)) ≡ 0 = fold-roll-Piece ℕ ℕ depth_piece_step depth_node_step (Piece-F.Words w) in
    ap (λ z. top k (z ++ ms)) marks ∙ omega (arith, none, top_least k ms)

inner_top : (n : Node) → NodeClaim n → PieceClaim (roll-Piece (Piece-F.Inner n))
inner_top n claim k ms =
    let marks : flat_piece (roll-Piece (Piece-F.Inner n)) ≡ flat n = fold-roll-Piece (List Mark) (List Mark) piece_step node_step (Piece-F.Inner n) in
    let levels : depth_piece (roll-Piece (Piece-F.Inner n)) ≡ depth n = fold-roll-Piece ℕ ℕ depth_piece_step depth_node_step (Piece-F.Inner n) in
    ap (λ z. top k (z ++ ms)) marks ∙ claim k ms ∙ ap (λ d. max (k + d) (top k ms)) (sym levels)

piece_step_top : (x : Piece-F Piece Node) (y : Piece-F ((p : Piece) × PieceClaim p) ((n : Node) × NodeClaim n))
    → map-Piece ((p : Piece) × PieceClaim p) ((n : Node) × NodeClaim n) Piece Node (λ e. e.0) (λ e. e.0) y ≡ x → PieceClaim (roll-Piece x)
piece_step_top (Piece-F.Words w) y is = words_top w
piece_step_top (Piece-F.Inner n) (Piece-F.Words w) is = absurd (cc is)
piece_step_top (Piece-F.Inner n) (Piece-F.Inner c) is =
    let same : c.0 ≡ n = cc in
    inner_top n (subst NodeClaim same c.1)

pieces_top : (qs : List ((p : Piece) × PieceClaim p)) (k : ℕ) (ms : List Mark) → top k (flat_pieces (map (λ q. q.0) qs) ++ ms) ≡ max (k + greatest_of (map depth_piece (map (λ q. q.0) qs))) (top k ms)
pieces_top [] k ms = omega (arith, top_least k ms)
pieces_top (q ∷ qs) k ms =
    let rest : List Mark = flat_pieces (map (λ (r : (p : Piece) × PieceClaim p). r.0) qs) in
    let first : top k ((flat_piece q.0 ++ rest) ++ ms) ≡ max (k + depth_piece q.0) (top k (rest ++ ms)) = ap (top k) (append_assoc (flat_piece q.0) rest ms) ∙ q.1 k (rest ++ ms) in
    omega (arith, first, pieces_top qs k ms)

node_top : (name : List ℕ) (attrs : List Attr) (place : ℕ) (qs : List ((p : Piece) × PieceClaim p)) → NodeClaim (roll-Node (record { name = name; attrs = attrs; pieces = map (λ q. q.0) qs; place = place }))
node_top name attrs place qs k ms =
    let ps : List Piece = map (λ (r : (p : Piece) × PieceClaim p). r.0) qs in
    let x : Node-F Piece Node = record { name = name; attrs = attrs; pieces = ps; place = place } in
    let marks : flat (roll-Node x) ++ ms ≡ Opened place name attrs ∷ (flat_pieces ps ++ Closed name ∷ ms) = ap (λ z. z ++ ms) (flat_layer x) ∙ ap (λ z. Opened place name attrs ∷ z) (append_assoc (flat_pieces ps) (Closed name ∷ []) ms) in
    let inside : top (k + 1) (flat_pieces ps ++ Closed name ∷ ms) ≡ max (k + 1 + greatest_of (map depth_piece ps)) (top (k + 1) (Closed name ∷ ms)) = pieces_top qs (k + 1) (Closed name ∷ ms) in
    let back : top (k + 1 - 1) ms ≡ top k ms = ap (λ j. top j ms) (omega arith) in
    ap (top k) marks ∙ omega (arith, inside, back, depth_roll x, top_least k ms)

node_step_top : (x : Node-F Piece Node) (y : Node-F ((p : Piece) × PieceClaim p) ((n : Node) × NodeClaim n))
    → map-Node ((p : Piece) × PieceClaim p) ((n : Node) × NodeClaim n) Piece Node (λ e. e.0) (λ e. e.0) y ≡ x → NodeClaim (roll-Node x)
node_step_top x y is =
    let pieces : map (λ (p : (p : Piece) × PieceClaim p). p.0) y.pieces ≡ x.pieces = ap (λ n. n.pieces) is in
    subst (λ ps. NodeClaim (roll-Node (record { name = x.name; attrs = x.attrs; pieces = ps; place = x.place }))) pieces (node_top x.name x.attrs x.place y.pieces)

tree_top : (n : Node) → NodeClaim n
tree_top = ind-Node PieceClaim NodeClaim piece_step_top node_step_top

-- the tags of tokens
abbrev tags : List Token → List Mark
tags [] = []
tags (Opens place name attrs is_empty ∷ ts) = if is_empty then Opened place name attrs ∷ Closed name ∷ tags ts else Opened place name attrs ∷ tags ts
tags (Closes name ∷ ts) = Closed name ∷ tags ts
tags (Remark ∷ ts) = tags ts
tags (Says words ∷ ts) = tags ts

skip_said : (k : ℕ) (xs : List Mark) (w : List ℕ) (ys : List Mark) → top k (xs ++ (said w ++ ys)) ≡ top k (xs ++ ys)
skip_said k [] [] ys = refl
skip_said k [] (b ∷ bs) ys = refl
skip_said k (Opened place name attrs ∷ xs) w ys = ap (max k) (skip_said (k + 1) xs w ys)
skip_said k (Said words ∷ xs) w ys = skip_said k xs w ys
skip_said k (Closed name ∷ xs) w ys = ap (max k) (skip_said (k - 1) xs w ys)

tagged_top : (k : ℕ) (sh : Shown) (m : Mark) (ys : List Mark) → top k ((tagged sh m).marks ++ ys) ≡ top k (sh.marks ++ m ∷ ys)
tagged_top k sh m ys =
    let regroup : (sh.marks ++ (said sh.words ++ m ∷ [])) ++ ys ≡ sh.marks ++ (said sh.words ++ m ∷ ys) = simp append_assoc in
    ap (top k) regroup ∙ skip_said k sh.marks sh.words (m ∷ ys)

shown_top : (k : ℕ) (sh : Shown) (ts : List Token) → top k (shown sh ts).marks ≡ top k (sh.marks ++ tags ts)
shown_top k sh [] = ap (top k) (sym (append-nil sh.marks))
shown_top k sh (Opens place name attrs false ∷ ts) = shown_top k (tagged sh (Opened place name attrs)) ts ∙ tagged_top k sh (Opened place name attrs) (tags ts)
shown_top k sh (Opens place name attrs true ∷ ts) =
    shown_top k (tagged (tagged sh (Opened place name attrs)) (Closed name)) ts ∙ tagged_top k (tagged sh (Opened place name attrs)) (Closed name) (tags ts) ∙ tagged_top k sh (Opened place name attrs) (Closed name ∷ tags ts)
shown_top k sh (Closes name ∷ ts) = shown_top k (tagged sh (Closed name)) ts ∙ tagged_top k sh (Closed name) (tags ts)
shown_top k sh (Remark ∷ ts) = shown_top k (add sh Remark) ts
shown_top k sh (Says words ∷ ts) = shown_top k (add sh (Says words)) ts

-- the deepest level of a reading
some_state : (a b : State) → Some a ≡ Some b → a ≡ b
some_state a b e = cc

none_or : (b : Bool) (x after : State) → (if b then None else Some x) ≡ Some after → x ≡ after
none_or true x after h = cc
none_or false x after h = cc

some_or : (b : Bool) (x after : State) → (if b then Some x else None) ≡ Some after → x ≡ after
some_or true x after h = cc
some_or false x after h = cc

record Deepened (s after : State) (names : List (List ℕ)) (t : Token) (ts : List Token) : Type 0 where
  within : length after.open_names ≤ after.deepest
  deepest : max after.deepest (top (length after.open_names) (tags ts)) ≡ max s.deepest (top (length names) (tags (t ∷ ts)))

opens_deeper : (s after : State) (names : List (List ℕ)) (place : ℕ) (name : List ℕ) (attrs : List Attr) (e : Bool) (ts : List Token) → s.open_names ≡ names → length names ≤ s.deepest → opened name e s ≡ after
    → Deepened s after names (Opens place name attrs e) ts
opens_deeper s after names place name attrs false ts is low h =
    let count : length after.open_names ≡ length names + 1 = omega (arith, ap (λ z. length z.open_names) h, ap length is) in
    let deep : after.deepest ≡ max s.deepest (length names + 1) = omega (arith, ap (λ z. z.deepest) h, ap length is) in
    let more : top (length after.open_names) (tags ts) ≡ top (length names + 1) (tags ts) = ap (λ k. top k (tags ts)) count in
    record { within = omega (arith, count, deep); deepest = omega (arith, deep, more, top_least (length names + 1) (tags ts)) }
opens_deeper s after names place name attrs true ts is low h =
    let count : length after.open_names ≡ length names = omega (arith, ap (λ z. length z.open_names) h, ap length is) in
    let deep : after.deepest ≡ max s.deepest (length names + 1) = omega (arith, ap (λ z. z.deepest) h, ap length is) in
    let more : top (length after.open_names) (tags ts) ≡ top (length names) (tags ts) = ap (λ k. top k (tags ts)) count in
    let back : top (length names + 1 - 1) (tags ts) ≡ top (length names) (tags ts) = ap (λ k. top k (tags ts)) (omega arith) in
    record { within = omega (arith, count, deep); deepest = omega (arith, deep, more, back, top_least (length names) (tags ts)) }

same_deeper : (s after : State) (names : List (List ℕ)) (t : Token) (ts : List Token) → s.open_names ≡ names → length names ≤ s.deepest → s ≡ after → tags (t ∷ ts) ≡ tags ts → Deepened s after names t ts
same_deeper s after names t ts is low h none =
    let count : length after.open_names ≡ length names = omega (arith, ap (λ z. length z.open_names) h, ap length is) in
    let deep : after.deepest ≡ s.deepest = sym (ap (λ z. z.deepest) h) in
    let more : top (length after.open_names) (tags ts) ≡ top (length names) (tags ts) = ap (λ k. top k (tags ts)) count in
    record { within = omega (arith, count, deep); deepest = omega (arith, deep, more, ap (top (length names)) none) }

closes_deeper : (s after : State) (i : List ℕ) (o : List (List ℕ)) (name : List ℕ) (ts : List Token) → length (i ∷ o) ≤ s.deepest → record { open_names = o; begun = s.begun; deepest = s.deepest } ≡ after → Deepened s after (i ∷ o) (Closes name) ts
closes_deeper s after i o name ts low h =
    let count : length after.open_names ≡ length o = sym (ap (λ z. length z.open_names) h) in
    let deep : after.deepest ≡ s.deepest = sym (ap (λ z. z.deepest) h) in
    let more : top (length after.open_names) (tags ts) ≡ top (length o) (tags ts) = ap (λ k. top k (tags ts)) count in
    let back : top (length (i ∷ o) - 1) (tags ts) ≡ top (length o) (tags ts) = ap (λ k. top k (tags ts)) (omega arith) in
    record { within = omega (arith, count, deep); deepest = omega (arith, deep, more, back, top_least (length o) (tags ts)) }

fits_deepened : (names : List (List ℕ)) (s : State) (t : Token) (after : State) (ts : List Token) → s.open_names ≡ names → length names ≤ s.deepest → fits_at names s t ≡ Some after → Deepened s after names t ts
fits_deepened [] s (Opens p n ats x) after ts is low h = opens_deeper s after [] p n ats x ts is low (none_or (s.begun || not (are_distinct ats)) (opened n x s) after h)
fits_deepened [] s (Closes n) after ts is low h = absurd (cc h)
fits_deepened [] s Remark after ts is low h = same_deeper s after [] Remark ts is low (some_state s after h) refl
fits_deepened [] s (Says w) after ts is low h = same_deeper s after [] (Says w) ts is low (some_or (list_all is_space w) s after h) refl
fits_deepened (i ∷ o) s (Opens p n ats x) after ts is low h = opens_deeper s after (i ∷ o) p n ats x ts is low (none_or (not (are_distinct ats)) (opened n x s) after h)
fits_deepened (i ∷ o) s (Closes n) after ts is low h = closes_deeper s after i o n ts low (some_or (bytes_eq n i) (record { open_names = o; begun = s.begun; deepest = s.deepest }) after h)
fits_deepened (i ∷ o) s Remark after ts is low h = same_deeper s after (i ∷ o) Remark ts is low (some_state s after h) refl
fits_deepened (i ∷ o) s (Says w) after ts is low h = same_deeper s after (i ∷ o) (Says w) ts is low (some_state s after h) refl

-- the next token fits
fitting_fits : (s : State) (t : Token) (rest : List ℕ) (r : Option State) (n : Next) → fits s t ≡ r → fitting t rest r ≡ Some n → fits s n.token ≡ Some n.state
fitting_fits s t rest None n fit h = cc
fitting_fits s t rest (Some after) n fit h =
    let same : record { token = t; state = after; rest = rest } ≡ n = cc in
    ap (λ (z : Next). fits s z.token) (sym same) ∙ fit ∙ ap (λ (z : Next). Some z.state) same

next_fits : (s : State) (place : ℕ) (bytes : List ℕ) (c : Option Cut) (n : Next) → next_cut s place bytes c ≡ Some n → fits s n.token ≡ Some n.state
next_fits s place bytes None n h = cc
next_fits s place bytes (Some c) n h = fitting_fits s (token place bytes c) (drop (size c) bytes) (fits s (token place bytes c)) n refl h

reads_top : (total : ℕ) (s : State) (bytes : List ℕ) (ts : List Token) (end : State) (rest : List ℕ) → Reads total s bytes ts end rest → length s.open_names ≤ s.deepest
    → end.deepest ≡ max s.deepest (top (length s.open_names) (tags ts))
reads_top total s bytes [] end rest h low = omega (arith, ap (λ z. z.deepest) h.0)
reads_top total s bytes (t ∷ ts) end rest h low =
    let fit : fits s t ≡ Some h.0 = next_fits s (total - length bytes) bytes (cut_at bytes) (record { token = t; state = h.0; rest = h.1 }) h.2 in
    let step = fits_deepened s.open_names s t h.0 ts refl low fit in
    reads_top total h.0 h.1 ts end rest h.3 step.within ∙ step.deepest

pub depth_is : (n : Node) (text : List ℕ) (tree : Tree n text) → tree.end.deepest ≡ depth n
depth_is n text tree =
    let read : tree.end.deepest ≡ max 0 (top 0 (tags tree.tokens)) = reads_top (length text) start (drop (head_at text) text) tree.tokens tree.end tree.rest tree.reads (omega arith) in
    let marks : top 0 (tags tree.tokens) ≡ top 0 (said tree.before ++ flat n) = sym (shown_top 0 nothing tree.tokens) ∙ ap (top 0) tree.marks in
    let tags_only : top 0 (said tree.before ++ flat n) ≡ top 0 (flat n) = skip_said 0 [] tree.before (flat n) in
    let levels : top 0 (flat n) ≡ max (0 + depth n) (top 0 []) = ap (top 0) (sym (append-nil (flat n))) ∙ tree_top n 0 [] in
    omega (arith, read, marks, tags_only, levels)

-- places do not count
abbrev SameDepth : Node → Type 0
SameDepth n = depth (unplaced n) ≡ depth n

abbrev SamePieceDepth : Piece → Type 0
SamePieceDepth p = depth_piece (unplaced_piece p) ≡ depth_piece p

unplaced_words : (w : List ℕ) → SamePieceDepth (roll-Piece (Piece-F.Words w))
unplaced_words w = ap depth_piece (fold-roll-Piece Piece Node roll-Piece unplaced_node_step (Piece-F.Words w))

unplaced_inner : (n : Node) → SameDepth n → SamePieceDepth (roll-Piece (Piece-F.Inner n))
unplaced_inner n same =
    ap depth_piece (fold-roll-Piece Piece Node roll-Piece unplaced_node_step (Piece-F.Inner n)) ∙ fold-roll-Piece ℕ ℕ depth_piece_step depth_node_step (Piece-F.Inner (unplaced n))
    ∙ same ∙ sym (fold-roll-Piece ℕ ℕ depth_piece_step depth_node_step (Piece-F.Inner n))

piece_step_same : (x : Piece-F Piece Node) (y : Piece-F ((p : Piece) × SamePieceDepth p) ((n : Node) × SameDepth n))
    → map-Piece ((p : Piece) × SamePieceDepth p) ((n : Node) × SameDepth n) Piece Node (λ e. e.0) (λ e. e.0) y ≡ x → SamePieceDepth (roll-Piece x)
piece_step_same (Piece-F.Words w) y is = unplaced_words w
piece_step_same (Piece-F.Inner n) (Piece-F.Words w) is = absurd (cc is)
piece_step_same (Piece-F.Inner n) (Piece-F.Inner c) is =
    let same : c.0 ≡ n = cc in
    unplaced_inner n (subst SameDepth same c.1)

pieces_same : (qs : List ((p : Piece) × SamePieceDepth p)) → map depth_piece (map unplaced_piece (map (λ q. q.0) qs)) ≡ map depth_piece (map (λ q. q.0) qs)
pieces_same [] = refl
pieces_same (q ∷ qs) = ap (λ z. z ∷ map depth_piece (map unplaced_piece (map (λ (r : (p : Piece) × SamePieceDepth p). r.0) qs))) q.1 ∙ ap (λ z. depth_piece q.0 ∷ z) (pieces_same qs)

node_step_same : (x : Node-F Piece Node) (y : Node-F ((p : Piece) × SamePieceDepth p) ((n : Node) × SameDepth n))
    → map-Node ((p : Piece) × SamePieceDepth p) ((n : Node) × SameDepth n) Piece Node (λ e. e.0) (λ e. e.0) y ≡ x → SameDepth (roll-Node x)
node_step_same x y is =
    let pieces : map (λ (p : (p : Piece) × SamePieceDepth p). p.0) y.pieces ≡ x.pieces = ap (λ n. n.pieces) is in
    let same : map depth_piece (map unplaced_piece x.pieces) ≡ map depth_piece x.pieces = subst (λ ps. map depth_piece (map unplaced_piece ps) ≡ map depth_piece ps) pieces (pieces_same y.pieces) in
    ap depth (fold-roll-Node Piece Node roll-Piece unplaced_node_step x) ∙ depth_roll (record { name = x.name; attrs = x.attrs; pieces = map unplaced_piece x.pieces; place = 0 })
    ∙ ap (λ ds. greatest_of ds + 1) same ∙ sym (depth_roll x)

depth_unplaced : (n : Node) → SameDepth n
depth_unplaced = ind-Node SamePieceDepth SameDepth piece_step_same node_step_same

pub depth_same : (n m : Node) → unplaced n ≡ unplaced m → depth n ≡ depth m
depth_same n m e = sym (depth_unplaced n) ∙ ap depth e ∙ depth_unplaced m
