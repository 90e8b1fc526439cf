-- The units of an element, by those of its children.
use Rattle.std.proofs.Common.{◌≡◌, ℕ, ◌+◌, Bool, true, false, if◌then◌else◌, codes, Result, Ok, Err, Option, None, Some, arith, List, [], ◌∷◌, ◌++◌, ◌<◌, length, drop, get_or, map, refl, ap, sym, ◌∙◌, subst, append-nil, append_assoc}
use Rattle.std.specs.List.{flat_map}
use Rattle.std.proofs.lemmas.List.{drop_more}
use Rattle.xf_markup.specs.declared.tree.Node.{Node, Node-F, ind-Node, roll-Node, out-Node, roll-out-Node, fold-roll-Node, map-Node}
use Rattle.xf_markup.specs.declared.tree.Piece.{Piece, Piece-F, roll-Piece, out-Piece, roll-out-Piece, fold-roll-Piece, map-Piece}
use Rattle.xs_var.specs.Elements.{children_of, piece_nodes, text_in}
use Rattle.xs_var.specs.Elements as elements
use Rattle.xf_text.specs.declared.fault.Fault.{Fault}
use Rattle.xf_text.specs.declared.fault.Kind.{Kind}
use Rattle.xs_fields.specs.Conditions.{first_missed}
use Rattle.xs_fields.specs.declared.condition.Condition.{Condition}
use Rattle.xs_template.specs.Concrete.{made_from, made_of, template_of, asked_of, filled_text}
use Rattle.xs_template.specs.Template.{filled}
use Rattle.xs_words.specs.Args.{args_of}
use Rattle.xs_template.specs.declared.template.Template.{Template}
use Rattle.xs_model.specs.declared.concrete.Concrete.{Concrete}
use Rattle.xs_units.specs.declared.known.Known.{Known}
use Rattle.xf_num.specs.declared.memory.NoMemory.{NoMemory}
use Rattle.std.specs.Str.{bytes_eq}
use Rattle.xs_model.specs.Outline.{Outline}
use Rattle.xs_template.proofs.TemplateLemmas.{made_same}
use Rattle.xs_units.specs.Units.{IsRun, container_meets, group_units, slide_unit, constraint_unit, section_units, args_meet, args_unit, Unit, Holds, Makes, Ran, ran_or, run, counted, take_all, proceed, then_on, Seen, SeenPiece, IsByChildren, piece_step, node_step, seen, seen_piece, units, units_with}

-- what is seen of an element is the element
abbrev Same : (told : ℕ → ℕ) (os : List Outline) → Node → Type 0
Same told os n = (seen told os n).node ≡ n

abbrev SamePiece : (told : ℕ → ℕ) (os : List Outline) → Piece → Type 0
SamePiece told os p = (seen_piece told os p).piece ≡ p

words_same : (told : ℕ → ℕ) (os : List Outline) → (w : List ℕ) → SamePiece told os (roll-Piece (Piece-F.Words w))
words_same told os w = ap (λ s. s.piece) (fold-roll-Piece SeenPiece Seen piece_step (node_step told os) (Piece-F.Words w))

inner_same : (told : ℕ → ℕ) (os : List Outline) → (n : Node) → Same told os n → SamePiece told os (roll-Piece (Piece-F.Inner n))
inner_same told os n same = ap (λ s. s.piece) (fold-roll-Piece SeenPiece Seen piece_step (node_step told os) (Piece-F.Inner n)) ∙ ap (λ m. roll-Piece (Piece-F.Inner m)) same

piece_same : (told : ℕ → ℕ) (os : List Outline) → (x : Piece-F Piece Node) (y : Piece-F ((p : Piece) × SamePiece told os p) ((n : Node) × Same told os n))
    → map-Piece ((p : Piece) × SamePiece told os p) ((n : Node) × Same told os n) Piece Node (λ e. e.0) (λ e. e.0) y ≡ x → SamePiece told os (roll-Piece x)
piece_same told os (Piece-F.Words w) y is = words_same told os w
piece_same told os (Piece-F.Inner n) (Piece-F.Words w) is = absurd (cc is)
piece_same told os (Piece-F.Inner n) (Piece-F.Inner c) is =
    let same : c.0 ≡ n = cc in
    inner_same told os n (subst (Same told os) same c.1)

pieces_same : (told : ℕ → ℕ) (os : List Outline) → (qs : List ((p : Piece) × SamePiece told os p)) → map (λ s. s.piece) (map (seen_piece told os) (map (λ q. q.0) qs)) ≡ map (λ q. q.0) qs
pieces_same told os [] = refl
pieces_same told os (q ∷ qs) = ap (λ z. z ∷ map (λ s. s.piece) (map (seen_piece told os) (map (λ (r : (p : Piece) × SamePiece told os p). r.0) qs))) q.1 ∙ ap (λ z. q.0 ∷ z) (pieces_same told os qs)

abbrev layer : Node-F Piece Node → List Piece → Node
layer x ps = roll-Node (record { name = x.name; attrs = x.attrs; pieces = ps; place = x.place })

node_same : (told : ℕ → ℕ) (os : List Outline) → (x : Node-F Piece Node) (y : Node-F ((p : Piece) × SamePiece told os p) ((n : Node) × Same told os n))
    → map-Node ((p : Piece) × SamePiece told os p) ((n : Node) × Same told os n) Piece Node (λ e. e.0) (λ e. e.0) y ≡ x → Same told os (roll-Node x)
node_same told os x y is =
    let pieces : map (λ (p : (p : Piece) × SamePiece told os p). p.0) y.pieces ≡ x.pieces = ap (λ n. n.pieces) is in
    let same : map (λ s. s.piece) (map (seen_piece told os) x.pieces) ≡ x.pieces = subst (λ ps. map (λ s. s.piece) (map (seen_piece told os) ps) ≡ ps) pieces (pieces_same told os y.pieces) in
    ap (λ s. s.node) (fold-roll-Node SeenPiece Seen piece_step (node_step told os) x) ∙ ap (layer x) same

pub seen_node : (told : ℕ → ℕ) (os : List Outline) → (n : Node) → Same told os n
seen_node told os = ind-Node (SamePiece told os) (Same told os) (piece_same told os) (node_same told os)

same_at : (told : ℕ → ℕ) (os : List Outline) → (y : Piece-F Piece Node) → SamePiece told os (roll-Piece y)
same_at told os (Piece-F.Words w) = words_same told os w
same_at told os (Piece-F.Inner n) = inner_same told os n (seen_node told os n)

seen_same : (told : ℕ → ℕ) (os : List Outline) → (p : Piece) → SamePiece told os p
seen_same told os p = subst (SamePiece told os) (roll-out-Piece p) (same_at told os (out-Piece p))

all_same : (told : ℕ → ℕ) (os : List Outline) → (ps : List Piece) → map (λ s. s.piece) (map (seen_piece told os) ps) ≡ ps
all_same told os [] = refl
all_same told os (p ∷ ps) = ap (λ z. z ∷ map (λ s. s.piece) (map (seen_piece told os) ps)) (seen_same told os p) ∙ ap (λ z. p ∷ z) (all_same told os ps)

-- the units of a piece
units_at : (told : ℕ → ℕ) (os : List Outline) → (y : Piece-F Piece Node) → (seen_piece told os (roll-Piece y)).units ≡ flat_map (units told os) (elements.node_step y)
units_at told os (Piece-F.Words w) = ap (λ s. s.units) (fold-roll-Piece SeenPiece Seen piece_step (node_step told os) (Piece-F.Words w))
units_at told os (Piece-F.Inner n) = ap (λ s. s.units) (fold-roll-Piece SeenPiece Seen piece_step (node_step told os) (Piece-F.Inner n)) ∙ sym (append-nil (units told os n))

piece_units : (told : ℕ → ℕ) (os : List Outline) → (p : Piece) → (seen_piece told os p).units ≡ flat_map (units told os) (piece_nodes p)
piece_units told os p = ap (λ q. (seen_piece told os q).units) (sym (roll-out-Piece p)) ∙ units_at told os (out-Piece p)

flat_append : {A B : Type 0} (f : A → List B) (xs ys : List A) → flat_map f xs ++ flat_map f ys ≡ flat_map f (xs ++ ys)
flat_append f [] ys = refl
flat_append f (x ∷ xs) ys = append_assoc (f x) (flat_map f xs) (flat_map f ys) ∙ ap (λ zs. f x ++ zs) (flat_append f xs ys)

pieces_units : (told : ℕ → ℕ) (os : List Outline) → (ps : List Piece) → flat_map (λ s. s.units) (map (seen_piece told os) ps) ≡ flat_map (units told os) (children_of ps)
pieces_units told os [] = refl
pieces_units told os (p ∷ ps) =
    ap (λ us. us ++ flat_map (λ s. s.units) (map (seen_piece told os) ps)) (piece_units told os p)
    ∙ ap (λ us. flat_map (units told os) (piece_nodes p) ++ us) (pieces_units told os ps)
    ∙ flat_append (units told os) (piece_nodes p) (children_of ps)

by_layer : (told : ℕ → ℕ) (os : List Outline) → (x : Node-F Piece Node) → units told os (roll-Node x) ≡ units_with told os (roll-Node x) (flat_map (units told os) (children_of x.pieces))
by_layer told os x =
    ap (λ s. s.units) (fold-roll-Node SeenPiece Seen piece_step (node_step told os) x)
    ∙ ap (λ ps. units_with told os (layer x ps) (flat_map (λ s. s.units) (map (seen_piece told os) x.pieces))) (all_same told os x.pieces)
    ∙ ap (units_with told os (roll-Node x)) (pieces_units told os x.pieces)

pub by_children : (told : ℕ → ℕ) (os : List Outline) → IsByChildren told os
by_children told os n = subst (λ m. units told os m ≡ units_with told os m (flat_map (units told os) (children_of m.pieces))) (roll-out-Node n) (by_layer told os (out-Node n))

-- units in two lists
run_or : {K : Type 0} (missed : Option Condition) (known : Known K) (place : ℕ) (ran : Ran K) (next : Known K → Ran K) → ran_or missed known place (proceed ran next) ≡ proceed (ran_or missed known place ran) next
run_or None known place ran next = refl
run_or (Some k) known place ran next = refl

then_join : {K : Type 0} (fault : Option Fault) (known : Known K) (all first second : Known K → Ran K) → ((k : Known K) → all k ≡ proceed (first k) second) → then_on fault known all ≡ proceed (then_on fault known first) second
then_join None known all first second h = h known
then_join (Some fault) known all first second h = refl

pub run_join : {K : Type 0} (taken : K → Concrete → Result K Kind) (us vs : List Unit) (known : Known K) → run taken (us ++ vs) known ≡ proceed (run taken us known) (run taken vs)
run_join taken [] vs known = refl
run_join taken (Holds place meets ∷ us) vs known = ap (ran_or (first_missed meets) known place) (run_join taken us vs known) ∙ run_or (first_missed meets) known place (run taken us known) (run taken vs)
run_join taken (Makes place meets words made ∷ us) vs known =
    let ran = take_all taken made (counted known words) in
    ap (ran_or (first_missed (meets known.words)) known place) (then_join ran.fault ran.known (run taken (us ++ vs)) (run taken us) (run taken vs) (λ k. run_join taken us vs k))
    ∙ run_or (first_missed (meets known.words)) known place (proceed ran (run taken us)) (run taken vs)

-- one part of some units is run, and the others are next
pub run_part : {K : Type 0} (taken : K → Concrete → Result K Kind) (known new : Known K) (fault : Option Fault) (us vs all : List Unit) → run taken us known ≡ record { known = new; fault = fault } → all ≡ us ++ vs → run taken all known ≡ then_on fault new (run taken vs)
run_part taken known new fault us vs all part split = ap (λ xs. run taken xs known) split ∙ run_join taken us vs known ∙ ap (λ r. proceed r (run taken vs)) part

-- one unit alone
then_none : {K : Type 0} (fault : Option Fault) (known : Known K) → then_on fault known (λ k. record { known = k; fault = None }) ≡ record { known = known; fault = fault }
then_none None known = refl
then_none (Some fault) known = refl

-- a unit that misses nothing makes its constraints
pub run_made : {K : Type 0} (taken : K → Concrete → Result K Kind) (known new : Known K) (fault : Option Fault) (place : ℕ) (meets : ℕ → Condition → Bool) (words : ℕ) (made : List Concrete)
    → first_missed (meets known.words) ≡ None → take_all taken made (counted known words) ≡ record { known = new; fault = fault } → run taken (Makes place meets words made ∷ []) known ≡ record { known = new; fault = fault }
run_made taken known new fault place meets words made none is =
    ap (λ m. ran_or m known place (proceed (take_all taken made (counted known words)) (run taken []))) none ∙ ap (λ r. proceed r (run taken [])) is ∙ then_none fault new

-- a constraint that stands for itself
pub run_constraint : {K : Type 0} (taken : K → Concrete → Result K Kind) (known new : Known K) (fault : Option Fault) (place : ℕ) (meets : ℕ → Condition → Bool) (c : Concrete)
    → first_missed (meets known.words) ≡ None → take_all taken (c ∷ []) known ≡ record { known = new; fault = fault } → run taken (Makes place meets 0 (c ∷ []) ∷ []) known ≡ record { known = new; fault = fault }
run_constraint taken known new fault place meets c none is =
    let same : known.words + 0 ≡ known.words = omega arith in
    run_made taken known new fault place meets 0 (c ∷ []) none (ap (λ w. take_all taken (c ∷ []) (record { words = w; state = known.state })) same ∙ is)

pub run_args : (told : ℕ → ℕ) (os : List Outline) → {K : Type 0} (taken : K → Concrete → Result K Kind) (known new : Known K) (fault : Option Fault) (t a : Node) (text : List ℕ) (asked : ℕ) (template : Template)
    → take_all taken (made_from (λ spots. filled (args_of os text) asked spots) a.place template ∷ []) (counted known (length (args_of os text))) ≡ record { known = new; fault = fault }
    → text ≡ text_in a.pieces → asked ≡ asked_of told t → template ≡ template_of told t → first_missed (args_meet told os t a known.words) ≡ None → run taken (args_unit told os t a ∷ []) known ≡ record { known = new; fault = fault }
run_args told os taken known new fault t a text asked template made is_text is_asked is_template none =
    let words = args_of os (text_in a.pieces) in
    let is : take_all taken (made_from (λ spots. filled (args_of os text) asked spots) a.place template ∷ []) (counted known (length (args_of os text))) ≡ take_all taken (made_of (filled_text told words (asked_of told t)) a.place t ∷ []) (counted known (length words)) =
    ap (λ x. take_all taken (made_from (λ spots. filled (args_of os x) asked spots) a.place template ∷ []) (counted known (length (args_of os x)))) is_text
    ∙ ap (λ q. take_all taken (made_from (λ spots. filled words q spots) a.place template ∷ []) (counted known (length words))) is_asked
    ∙ ap (λ m. take_all taken (made_from (λ spots. filled words (asked_of told t) spots) a.place m ∷ []) (counted known (length words))) is_template
    ∙ ap (λ m. take_all taken (m ∷ []) (counted known (length words))) (made_same told (λ spots. filled words (asked_of told t) spots) a.place t) in
    run_made taken known new fault a.place (args_meet told os t a) (length words) (made_of (filled_text told words (asked_of told t)) a.place t ∷ []) none (sym is ∙ made)

-- the units of an element by its name
with_name : (told : ℕ → ℕ) (os : List Outline) → Node → Bool → Bool → Bool → List Unit
with_name told os n block group slide =
    if block then Holds n.place (container_meets n) ∷ flat_map (units told os) (children_of n.pieces)
    else if group then group_units told os n
    else if slide then slide_unit told os n ∷ []
    else constraint_unit n ∷ []

named : (told : ℕ → ℕ) (os : List Outline) → (n : Node) (a b c : Bool) → bytes_eq n.name (codes "block") ≡ a → bytes_eq n.name (codes "group") ≡ b → bytes_eq n.name (codes "slide") ≡ c → units told os n ≡ with_name told os n a b c
unfolding with_name
named told os n a b c is_block is_group is_slide =
    by_children told os n ∙ ap (λ x. with_name told os n x (bytes_eq n.name (codes "group")) (bytes_eq n.name (codes "slide"))) is_block
    ∙ ap (λ x. with_name told os n a x (bytes_eq n.name (codes "slide"))) is_group ∙ ap (with_name told os n a b) is_slide

pub units_block : (told : ℕ → ℕ) (os : List Outline) → (n : Node) → bytes_eq n.name (codes "block") ≡ true → units told os n ≡ section_units told os n
unfolding with_name
units_block told os n e = named told os n true (bytes_eq n.name (codes "group")) (bytes_eq n.name (codes "slide")) e refl refl

pub units_group : (told : ℕ → ℕ) (os : List Outline) → (n : Node) → bytes_eq n.name (codes "block") ≡ false → bytes_eq n.name (codes "group") ≡ true → units told os n ≡ group_units told os n
unfolding with_name
units_group told os n e f = named told os n false true (bytes_eq n.name (codes "slide")) e f refl

pub units_slide : (told : ℕ → ℕ) (os : List Outline) → (n : Node) → bytes_eq n.name (codes "block") ≡ false → bytes_eq n.name (codes "group") ≡ false → bytes_eq n.name (codes "slide") ≡ true → units told os n ≡ slide_unit told os n ∷ []
unfolding with_name
units_slide told os n e f g = named told os n false false true e f g

pub units_constraint : (told : ℕ → ℕ) (os : List Outline) → (n : Node) → bytes_eq n.name (codes "block") ≡ false → bytes_eq n.name (codes "group") ≡ false → bytes_eq n.name (codes "slide") ≡ false → units told os n ≡ constraint_unit n ∷ []
unfolding with_name
units_constraint told os n e f g = named told os n false false false e f g

-- what is run of an element's units, by another list that is the same
pub run_same : {K : Type 0} (taken : K → Concrete → Result K Kind) (known new : Known K) (result : Result (Option Fault) NoMemory) (us vs : List Unit) → us ≡ vs → IsRun new result (run taken vs known) → IsRun new result (run taken us known)
run_same taken known new result us vs same h = subst (λ xs. IsRun new result (run taken xs known)) (sym same) h

-- the units of one more piece
pub pieces_next : (told : ℕ → ℕ) (os : List Outline) → {K : Type 0} (taken : K → Concrete → Result K Kind) (known new : Known K) (fault : Option Fault) (p : Piece) (ps : List Piece) → run taken (flat_map (units told os) (piece_nodes p)) known ≡ record { known = new; fault = fault } → run taken (flat_map (units told os) (children_of (p ∷ ps))) known ≡ then_on fault new (run taken (flat_map (units told os) (children_of ps)))
pieces_next told os taken known new fault p ps part =
    run_part taken known new fault (flat_map (units told os) (piece_nodes p)) (flat_map (units told os) (children_of ps)) (flat_map (units told os) (children_of (p ∷ ps))) part (sym (flat_append (units told os) (piece_nodes p) (children_of ps)))

pub pieces_on : (told : ℕ → ℕ) (os : List Outline) → {K : Type 0} (taken : K → Concrete → Result K Kind) (known new : Known K) (fault : Option Fault) (ps : List Piece) (i : ℕ) (p : Piece) (all_ran : Ran K) → i < length ps → p ≡ get_or ps i p → run taken (flat_map (units told os) (piece_nodes p)) known ≡ record { known = new; fault = fault } → run taken (flat_map (units told os) (children_of (drop i ps))) known ≡ all_ran → then_on fault new (run taken (flat_map (units told os) (children_of (drop (i + 1) ps)))) ≡ all_ran
pieces_on told os taken known new fault ps i p all_ran within is part so_far =
    let split : drop i ps ≡ p ∷ drop (i + 1) ps = drop_more ps i p within ∙ ap (λ q. q ∷ drop (i + 1) ps) (sym is) in
    sym (pieces_next told os taken known new fault p (drop (i + 1) ps) part) ∙ ap (λ xs. run taken (flat_map (units told os) (children_of xs)) known) (sym split) ∙ so_far

-- the same of a result
pub args_run : (told : ℕ → ℕ) (os : List Outline) → {K : Type 0} (taken : K → Concrete → Result K Kind) (known new : Known K) (result : Result (Option Fault) NoMemory) (t a : Node) (text : List ℕ) (asked : ℕ) (template : Template)
    → IsRun new result (take_all taken (made_from (λ spots. filled (args_of os text) asked spots) a.place template ∷ []) (counted known (length (args_of os text))))
    → text ≡ text_in a.pieces → asked ≡ asked_of told t → template ≡ template_of told t → first_missed (args_meet told os t a known.words) ≡ None → IsRun new result (run taken (args_unit told os t a ∷ []) known)
args_run told os taken known new (Ok fault) t a text asked template h is_text is_asked is_template none = run_args told os taken known new fault t a text asked template h is_text is_asked is_template none
args_run told os taken known new (Err e) t a text asked template h is_text is_asked is_template none = tt
