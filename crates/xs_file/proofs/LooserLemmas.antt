-- Units that are looser than others: what misses nothing by these misses nothing by those, and makes the same. So are the units
-- of an element of which no limit is asked and whose places are told as written.
use Rattle.std.proofs.Common.{◌≡◌, ℕ, ◌+◌, ◌≤◌, Bool, true, false, not, ◌&&◌, ◌||◌, nat_le, nat_lt, if◌then◌else◌, codes, List, [], ◌∷◌, ◌++◌, length, drop, map, Option, None, Some, refl, ap, sym, ◌∙◌, subst, arith, length-take}
use Rattle.std.specs.Prelude.{⊤}
use Rattle.std.specs.List.{AllByRecursion, flat_map}
use Rattle.std.specs.Str.{bytes_eq}
use borrow.Author.Tests.{leb-true, leb-false, le-leb}
use Rattle.xf_markup.specs.declared.tree.Node.{Node, Node-F, ind-Node, roll-Node, map-Node}
use Rattle.xf_markup.specs.declared.tree.Piece.{Piece, Piece-F, roll-Piece, map-Piece, out-Piece, out-roll-Piece}
use Rattle.xf_text.specs.declared.fault.Fault.{Fault}
use Rattle.xs_fields.specs.Conditions.{first_missed}
use Rattle.xs_fields.specs.Integers.{is_small}
use Rattle.xs_fields.specs.declared.condition.Condition.{Condition}
use Rattle.xs_fields.specs.declared.condition.Condition.TheVariants.{Counting, Fitting}
use Rattle.xs_fields.proofs.FirstLemmas.{all_met, met_at}
use Rattle.xs_fields.proofs.IntegerLemmas.{and_left, and_right}
use Rattle.xs_file.specs.Asked.{asked, unlimited_unit}
use Rattle.xs_file.specs.Sections.{Progress, taken}
use Rattle.xs_file.proofs.UnlimitedLemmas.{all_unlimited, asked_none}
use Rattle.xs_model.specs.Outline.{Outline}
use Rattle.xs_model.specs.declared.concrete.Concrete.{Concrete}
use Rattle.xs_template.specs.Concrete.{asked_of, filled_text, is_open, made_of}
use Rattle.xs_template.specs.Template.{as_written, most_words, within_words}
use Rattle.xs_template.specs.Windows.{multiples_from, room, starts, window, windows}
use Rattle.xs_template.proofs.AlikeLemmas.{alike_places}
use Rattle.xs_expand.proofs.SlideLemmas.{map_map, none_left}
use Rattle.xs_units.proofs.UnitLemmas.{by_children}
use Rattle.xs_units.specs.Forms.{is_form_known}
use Rattle.xs_units.specs.Units.{Unit, Holds, Makes, Ran, args_meet, args_unit, constraint_unit, container_meets, counted, counts_meet, expanded_meet, fits, group_meets, group_rest, group_units, is_args_known, is_circular, is_long, list_in, members_meet, offset_of, offset_text, pair_meets, proceed, ran_or, run, section_units, slide_makes, slide_meets, slide_unit, slide_unit_of, take_all, template_in, texts_meet, then_on, units, units_with, words_meet}
use Rattle.xs_units.specs.declared.known.Known.{Known}
use Rattle.xs_var.specs.Elements.{children_of, node_step, piece_nodes, text_in, value_in}
use Rattle.xs_var.specs.Variable.{known_meets, naming_meets, spelling_meets}
use Rattle.xs_words.specs.Args.{are_few, args_of, is_count, magnitude_meets}
use Rattle.xs_words.specs.Compact.{are_named, are_spelt}
use Rattle.std.specs.Str.Parse.{signed_digits_value}

pub record MakesSame (meets : Condition → Bool) (w v : ℕ) (these alike : List Concrete) : Type 0 where
  pub none : first_missed meets ≡ None
  pub words : w ≡ v
  pub made : these ≡ alike

abbrev pub IsLooser : Unit → Unit → Type 0
IsLooser (Holds p m) (Holds q n) = first_missed m ≡ None → first_missed n ≡ None
IsLooser (Makes p m w made) (Makes q n v alike) = (before : ℕ) → first_missed (m before) ≡ None → MakesSame (n before) w v made alike
IsLooser (Holds p m) (Makes q n v alike) = ⊥
IsLooser (Makes p m w made) (Holds q n) = ⊥

abbrev pub AreLooser : List Unit → List Unit → Type 0
AreLooser [] [] = ⊤
AreLooser (u ∷ us) (v ∷ vs) = IsLooser u v × AreLooser us vs
AreLooser [] (v ∷ vs) = ⊥
AreLooser (u ∷ us) [] = ⊥

looser_more : (us vs xs ys : List Unit) → AreLooser us vs → AreLooser xs ys → AreLooser (us ++ xs) (vs ++ ys)
looser_more [] [] xs ys h g = g
looser_more (u ∷ us) (v ∷ vs) xs ys h g = (h.0, looser_more us vs xs ys h.1 g)
looser_more [] (v ∷ vs) xs ys h g = absurd h
looser_more (u ∷ us) [] xs ys h g = absurd h

-- units that run to their end do so where they are looser
ran_none : (m : Option Condition) (known end : Known Progress) (place : ℕ) (more : Ran Progress) → ran_or m known place more ≡ record { known = end; fault = None } → (m ≡ None) × (more ≡ record { known = end; fault = None })
ran_none None known end place more h = (refl, h)
ran_none (Some k) known end place more h = let never = ap (λ (r : Ran Progress). r.fault) h in absurd (cc never)

then_none : (fault : Option Fault) (known end : Known Progress) (next : Known Progress → Ran Progress) → then_on fault known next ≡ record { known = end; fault = None } → (fault ≡ None) × (next known ≡ record { known = end; fault = None })
then_none None known end next h = (refl, h)
then_none (Some f) known end next h = let never = ap (λ (r : Ran Progress). r.fault) h in absurd (cc never)

pub ended : (ran : Ran Progress) → ran.fault ≡ None → ran ≡ record { known = ran.known; fault = None }
ended ran h = ap (λ (f : Option Fault). record { known = ran.known; fault = f }) h

pub run_looser : (us vs : List Unit) → AreLooser us vs → (known end : Known Progress) → run (taken true) us known ≡ record { known = end; fault = None } → run (taken false) vs known ≡ record { known = end; fault = None }
run_looser [] [] l known end h = h
run_looser (Holds p m ∷ us) (Holds q n ∷ vs) l known end h =
    let a = ran_none (first_missed m) known end p (run (taken true) us known) h in
    ap (λ o. ran_or o known q (run (taken false) vs known)) (l.0 a.0) ∙ run_looser us vs l.1 known end a.1
run_looser (Makes p m w made ∷ us) (Makes q n v alike ∷ vs) l known end h =
    let ran = take_all (taken true) made (counted known w) in
    let a = ran_none (first_missed (m known.words)) known end p (proceed ran (run (taken true) us)) h in
    let b = then_none ran.fault ran.known end (run (taken true) us) a.1 in
    let same = l.0 known.words a.0 in
    let taken_all = all_unlimited made (counted known w) ran.known (ended ran b.0) in
    ap (λ o. ran_or o known q (proceed (take_all (taken false) alike (counted known v)) (run (taken false) vs))) same.none
    ∙ ap (λ (k : ℕ). proceed (take_all (taken false) alike (counted known k)) (run (taken false) vs)) (sym same.words)
    ∙ ap (λ (cs : List Concrete). proceed (take_all (taken false) cs (counted known w)) (run (taken false) vs)) (sym same.made)
    ∙ ap (λ r. proceed r (run (taken false) vs)) taken_all
    ∙ run_looser us vs l.1 ran.known end b.1
run_looser (Holds p m ∷ us) (Makes q n v alike ∷ vs) l known end h = absurd l.0
run_looser (Makes p m w made ∷ us) (Holds q n ∷ vs) l known end h = absurd l.0
run_looser [] (v ∷ vs) l known end h = absurd l
run_looser (u ∷ us) [] l known end h = absurd l

-- conditions that are met alike
loosened : (t u : Condition → Bool) → ((k : Condition) → t k ≡ u k) → first_missed t ≡ None → first_missed (asked false u) ≡ None
loosened t u same h = asked_none u (all_met u (λ k. sym (same k) ∙ met_at t h k))

-- words of an `args`
module _ (os : List Outline) (t : Node) where
  abbrev within : ℕ
  within = asked_of within_words t

  abbrev whole : ℕ
  whole = asked_of as_written t

  args_looser : (a : Node) → IsLooser (args_unit within_words os t a) (unlimited_unit (args_unit as_written os t a))
  args_looser a before h =
      let text = text_in a.pieces in
      let args = args_of os text in
      let met = met_at (args_meet within_words os t a before) h in
      let few : nat_le (before + length args) most_words ≡ true = and_left (nat_le (before + length args) most_words) true (met Counting) in
      let fit : fits within (is_open within_words t) (length args) ≡ true = met Fitting in
      let count : length args ≤ most_words = omega (arith, leb-true _ _ few) in
      let enough : nat_le within (length args) ≡ nat_le whole (length args) = alike_places.enough t (length args) count in
      let same : within ≡ whole = alike_places.asked t (length args) count (sym enough ∙ and_left (nat_le within (length args)) (is_open within_words t || nat_le (length args) within) fit) in
      record {
        none = loosened (args_meet within_words os t a before) (args_meet as_written os t a before)
            (λ k. ap (λ (n : ℕ). known_meets (is_args_known a) k && words_meet os n (is_open within_words t) text before k) same
            ∙ ap (λ (b : Bool). known_meets (is_args_known a) k && words_meet os whole b text before k) (alike_places.open_ended t)) h;
        words = refl;
        made = ap (λ (c : Concrete). c ∷ []) (alike_places.made t args within a.place count ∙ ap (λ (n : ℕ). made_of (filled_text as_written args n) a.place t) same);
      }

  all_args_looser : (cs : List Node) → AreLooser (map (args_unit within_words os t) cs) (map unlimited_unit (map (args_unit as_written os t) cs))
  all_args_looser [] = tt
  all_args_looser (a ∷ cs) = (args_looser a, all_args_looser cs)

  -- the windows of a slide
  module _ (place : ℕ) (circular : Bool) (offset : ℕ) (list : List (List ℕ)) (few : length list ≤ most_words) where
    each_window : (wide : ℕ) → wide ≤ length list → (ns : List ℕ)
        → map (λ w. made_of (filled_text within_words w wide) place t) (map (window wide list) ns) ≡ map (λ w. made_of (filled_text as_written w wide) place t) (map (window wide list) ns)
    each_window wide fit [] = refl
    each_window wide fit (n ∷ ns) =
        let w = window wide list n in
        ap (λ (c : Concrete). c ∷ map (λ w. made_of (filled_text within_words w wide) place t) (map (window wide list) ns)) (alike_places.made t w wide place (omega (arith, length-take wide (drop n list ++ list), fit, few)))
        ∙ ap (λ cs. made_of (filled_text as_written w wide) place t ∷ cs) (each_window wide fit ns)

    windows_made : nat_le within (length list) ≡ true
        → map (λ w. made_of (filled_text within_words w within) place t) (windows circular offset within list) ≡ map (λ w. made_of (filled_text as_written w whole) place t) (windows circular offset whole list)
    windows_made fit =
        let enough : nat_le within (length list) ≡ nat_le whole (length list) = alike_places.enough t (length list) few in
        let same : within ≡ whole = alike_places.asked t (length list) few (sym enough ∙ fit) in
        each_window within (leb-true _ _ fit) (starts circular offset within (length list))
        ∙ ap (λ (n : ℕ). map (λ w. made_of (filled_text as_written w n) place t) (windows circular offset n list)) same

    no_windows : (wide : ℕ) → nat_le wide (length list) ≡ false → windows false offset wide list ≡ []
    no_windows wide h = ap (map (window wide list)) (none_left offset (room false wide (length list)) 0 (omega (arith, leb-false _ _ h)))

module _ (os : List Outline) (n l t : Node) (circular : Bool) where
  abbrev texts : List (List ℕ)
  texts = args_of os (text_in l.pieces)

  abbrev offset_is : List ℕ
  offset_is = offset_text (value_in (codes "offset") l.attrs)

  -- what a slide meets, by what its template asks for
  abbrev by_template : ℕ → Bool → Bool → Bool → Condition → Bool
  by_template before some more long k =
      slide_meets n k
      && (spelling_meets ((some && (not more && is_count offset_is)) && are_spelt (text_in l.pieces)) k
      && (magnitude_meets (is_small (signed_digits_value 10 offset_is) && are_few (text_in l.pieces)) k
      && (naming_meets (are_named os (text_in l.pieces)) k && counts_meet (nat_le (before + length texts) most_words) (not circular || long) k)))

  met_same : (before : ℕ) → length texts ≤ most_words → (k : Condition) → (slide_meets n k && pair_meets within_words os circular l t before k) ≡ (slide_meets n k && pair_meets as_written os circular l t before k)
  met_same before few k =
      ap (λ (b : Bool). by_template before b (is_open within_words t) (nat_le (asked_of within_words t) (length texts)) k) (alike_places.some t)
      ∙ ap (λ (b : Bool). by_template before (nat_lt 0 (asked_of as_written t)) b (nat_le (asked_of within_words t) (length texts)) k) (alike_places.open_ended t)
      ∙ ap (λ (b : Bool). by_template before (nat_lt 0 (asked_of as_written t)) (is_open as_written t) b k) (alike_places.enough t (length texts) few)

  made_same : length texts ≤ most_words → (not circular || nat_le (asked_of within_words t) (length texts)) ≡ true
      → slide_makes within_words os n.place circular l t ≡ slide_makes as_written os n.place circular l t
  made_same few long = by (nat_le (asked_of within_words t) (length texts)) refl
    where
      none : (b : Bool) → (not b || false) ≡ true → nat_le (asked_of within_words t) (length texts) ≡ false
          → map (λ w. made_of (filled_text within_words w (asked_of within_words t)) n.place t) (windows b (offset_of l) (asked_of within_words t) texts)
          ≡ map (λ w. made_of (filled_text as_written w (asked_of as_written t)) n.place t) (windows b (offset_of l) (asked_of as_written t) texts)
      none true h e = absurd (cc h)
      none false h e =
          ap (map (λ w. made_of (filled_text within_words w (asked_of within_words t)) n.place t)) (no_windows os t n.place false (offset_of l) texts few (asked_of within_words t) e)
          ∙ sym (ap (map (λ w. made_of (filled_text as_written w (asked_of as_written t)) n.place t)) (no_windows os t n.place false (offset_of l) texts few (asked_of as_written t) (sym (alike_places.enough t (length texts) few) ∙ e)))

      by : (v : Bool) → nat_le (asked_of within_words t) (length texts) ≡ v → slide_makes within_words os n.place circular l t ≡ slide_makes as_written os n.place circular l t
      by true e = windows_made os t n.place circular (offset_of l) texts few e
      by false e = none circular (ap (λ (v : Bool). not circular || v) (sym e) ∙ long) e

slide_looser : (os : List Outline) (n : Node) (circular : Bool) (l t : Option Node) → IsLooser (slide_unit_of within_words os n circular l t) (unlimited_unit (slide_unit_of as_written os n circular l t))
slide_looser os n circular None t = λ before h. record { none = asked_none (λ k. slide_meets n k && spelling_meets false k) h; words = refl; made = refl }
slide_looser os n circular (Some l) None = λ before h. record { none = asked_none (λ k. slide_meets n k && spelling_meets false k) h; words = refl; made = refl }
slide_looser os n circular (Some l) (Some t) = λ before h.
    let args = args_of os (text_in l.pieces) in
    let test = λ (k : Condition). slide_meets n k && pair_meets within_words os circular l t before k in
    let met = met_at test h in
    let few : nat_le (before + length args) most_words ≡ true = and_left (nat_le (before + length args) most_words) true (met Counting) in
    let count : length args ≤ most_words = omega (arith, leb-true _ _ few) in
    record {
      none = loosened test (λ k. slide_meets n k && pair_meets as_written os circular l t before k) (met_same os n l t circular before count) h;
      words = refl;
      made = made_same os n l t circular count (met Fitting);
    }

-- the units of an element
group_looser : (os : List Outline) (n : Node) (cs : List Node) → AreLooser (group_rest within_words os cs) (map unlimited_unit (group_rest as_written os cs))
group_looser os n [] = tt
group_looser os n (t ∷ cs) = (asked_none (known_meets (is_form_known t)), all_args_looser os t cs)

with_looser : (os : List Outline) (n : Node) (us vs : List Unit) → AreLooser us (map unlimited_unit vs) → AreLooser (units_with within_words os n us) (map unlimited_unit (units_with as_written os n vs))
with_looser os n us vs h = by (bytes_eq n.name (codes "block")) (bytes_eq n.name (codes "group")) (bytes_eq n.name (codes "slide"))
  where
    by : (a b c : Bool)
        → AreLooser (if a then Holds n.place (container_meets n) ∷ us else if b then group_units within_words os n else if c then slide_unit within_words os n ∷ [] else constraint_unit n ∷ [])
        (map unlimited_unit (if a then Holds n.place (container_meets n) ∷ vs else if b then group_units as_written os n else if c then slide_unit as_written os n ∷ [] else constraint_unit n ∷ []))
    by true b c = (asked_none (container_meets n), h)
    by false true c = (asked_none (group_meets n), group_looser os n (children_of n.pieces))
    by false false true = (slide_looser os n (is_circular (value_in (codes "circular") n.attrs)) (list_in (children_of n.pieces)) (template_in (children_of n.pieces)), tt)
    by false false false = (λ before g. record { none = asked_none (known_meets (is_form_known n)) g; words = refl; made = refl }, tt)

map_more : (xs ys : List Unit) → map unlimited_unit (xs ++ ys) ≡ map unlimited_unit xs ++ map unlimited_unit ys
map_more [] ys = refl
map_more (x ∷ xs) ys = ap (λ us. unlimited_unit x ∷ us) (map_more xs ys)

all_append : {A : Type 0} (P : A → Type 0) (xs ys : List A) → AllByRecursion P xs → AllByRecursion P ys → AllByRecursion P (xs ++ ys)
all_append P [] ys h g = g
all_append P (x ∷ xs) ys h g = (h.0, all_append P xs ys h.1 g)

module _ (os : List Outline) where
  abbrev Loose : Node → Type 0
  Loose n = AreLooser (units within_words os n) (map unlimited_unit (units as_written os n))

  abbrev LoosePiece : Piece → Type 0
  LoosePiece p = AllByRecursion Loose (piece_nodes p)

  each_loose : (ns : List Node) → AllByRecursion Loose ns → AreLooser (flat_map (units within_words os) ns) (map unlimited_unit (flat_map (units as_written os) ns))
  each_loose [] h = tt
  each_loose (n ∷ ns) h =
      subst (λ us. AreLooser (units within_words os n ++ flat_map (units within_words os) ns) us) (sym (map_more (units as_written os n) (flat_map (units as_written os) ns)))
      (looser_more (units within_words os n) (map unlimited_unit (units as_written os n)) (flat_map (units within_words os) ns) (map unlimited_unit (flat_map (units as_written os) ns)) h.0 (each_loose ns h.1))

  piece_loose : (x : Piece-F Piece Node) (y : Piece-F ((p : Piece) × LoosePiece p) ((n : Node) × Loose n))
      → map-Piece ((p : Piece) × LoosePiece p) ((n : Node) × Loose n) Piece Node (λ e. e.0) (λ e. e.0) y ≡ x → LoosePiece (roll-Piece x)
  piece_loose (Piece-F.Words w) y is = subst (λ z. AllByRecursion Loose (node_step z)) (sym (out-roll-Piece (Piece-F.Words w))) tt
  piece_loose (Piece-F.Inner n) (Piece-F.Words w) is = absurd (cc is)
  piece_loose (Piece-F.Inner n) (Piece-F.Inner c) is =
      let same : c.0 ≡ n = cc in
      subst (λ z. AllByRecursion Loose (node_step z)) (sym (out-roll-Piece (Piece-F.Inner n))) (subst Loose same c.1, tt)

  pieces_loose : (qs : List ((p : Piece) × LoosePiece p)) → AllByRecursion Loose (children_of (map (λ q. q.0) qs))
  pieces_loose [] = tt
  pieces_loose (q ∷ qs) = all_append Loose (piece_nodes q.0) (children_of (map (λ (r : (p : Piece) × LoosePiece p). r.0) qs)) q.1 (pieces_loose qs)

  node_loose : (x : Node-F Piece Node) (y : Node-F ((p : Piece) × LoosePiece p) ((n : Node) × Loose n))
      → map-Node ((p : Piece) × LoosePiece p) ((n : Node) × Loose n) Piece Node (λ e. e.0) (λ e. e.0) y ≡ x → Loose (roll-Node x)
  node_loose x y is =
      let n = roll-Node x in
      let pieces : map (λ (p : (p : Piece) × LoosePiece p). p.0) y.pieces ≡ x.pieces = ap (λ m. m.pieces) is in
      let all : AllByRecursion Loose (children_of x.pieces) = subst (λ ps. AllByRecursion Loose (children_of ps)) pieces (pieces_loose y.pieces) in
      let us = flat_map (units within_words os) (children_of x.pieces) in
      let vs = flat_map (units as_written os) (children_of x.pieces) in
      subst (λ ws. AreLooser ws (map unlimited_unit (units as_written os n))) (sym (by_children within_words os n))
      (subst (λ ws. AreLooser (units_with within_words os n us) (map unlimited_unit ws)) (sym (by_children as_written os n)) (with_looser os n us vs (each_loose (children_of x.pieces) all)))

  loose : (n : Node) → Loose n
  loose = ind-Node LoosePiece Loose piece_loose node_loose

  all_loose : (ns : List Node) → AllByRecursion Loose ns
  all_loose [] = tt
  all_loose (n ∷ ns) = (loose n, all_loose ns)

  pub section_looser : (n : Node) → AreLooser (section_units within_words os n) (map unlimited_unit (section_units as_written os n))
  section_looser n = (asked_none (container_meets n), each_loose (children_of n.pieces) (all_loose (children_of n.pieces)))
