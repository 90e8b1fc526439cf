-- What the fields of an array miss first: the sizes bear on the content by one late condition alone.
use Rattle.std.proofs.Common.{◌≡◌, ℕ, Bool, true, false, not, ◌&&◌, ◌||◌, cond, List, [], ◌∷◌, ◌++◌, ℤ, Option, None, Some, drop, length, ◌<◌, ◌+◌, codes, is_some, refl, ap, sym, ◌∙◌, arith, drop-cons, get_or, suc, nat_eq, bytes_eq}
use Rattle.std.proofs.lemmas.Bool.{false≢true}
use Rattle.std.proofs.lemmas.Bool.Decides.{nat_tests}
use Rattle.std.specs.List.{AllByRecursion, find, list_all}
use Rattle.xf_markup.specs.declared.tree.Node.{Node}
use Rattle.xf_markup.specs.declared.tree.Piece.{Piece, Piece-F, out-Piece}
use Rattle.xs_fields.specs.Conditions.{earlier_of, first_missed, in_order, meets}
use Rattle.xs_fields.specs.Lists.{piece_meets, pieces_meet}
use Rattle.xs_fields.specs.Sizes.{brackets_of, front_meets, size_meets as part_meets, sizes_of}
use Rattle.xs_fields.specs.Variables.{bracket_meets, word_meets, word_of}
use Rattle.xs_fields.specs.Cells.{are_inside}
use Rattle.xs_fields.specs.Words.{is_byte, parts, words_of}
use Rattle.xs_fields.specs.declared.condition.Condition.{Condition}
use Rattle.xs_fields.proofs.FirstLemmas.{all_met, met_at, none_found}
use Rattle.xs_fields.specs.declared.condition.Condition.TheVariants.{Known, Nesting, Spelling, Magnitude, Naming, Counting, Fitting}
use Rattle.xs_fields.proofs.IntegerLemmas.{and_left, and_right}
use Rattle.xs_fields.proofs.OrderLemmas.{earlier_assoc, first_missed-both}
use Rattle.xs_var.specs.Elements.{children_of, piece_nodes, node_step, text_in, text_or_none, value_in}
use Rattle.xs_var.specs.Variable.{as_meets, has_no_child, id_meets, is_blank, known_meets, naming_meets, spelling_meets, words_step}
use Rattle.xs_array.specs.ArrayUnit.{array_fields_meet, content_meets, domains_meet, is_array_known, size_meets}
use Rattle.xs_array.specs.Cells.{stated_sizes}
use Rattle.xs_array.specs.DomainChild.{cell_word_meets, cell_words_meet, domain_child_meets, for_meets, is_cell_word, is_others}
use Rattle.xs_array.specs.Owners.{AreCells, HasCells, IsCellWord}
use Rattle.xs_array.specs.Reading.{HasContent, content_within, spelt_sizes, where_none}

both_true : {a b : Bool} → a ≡ true → b ≡ true → (a && b) ≡ true
both_true {a} {b} h g = ap (λ v. v && b) h ∙ g

or_true : (a b : Bool) → b ≡ true → (a || b) ≡ true
or_true true b h = refl
or_true false b h = h

pub all_true : {A : Type 0} (test : A → Bool) → ((x : A) → test x ≡ true) → (xs : List A) → list_all test xs ≡ true
all_true test h [] = refl
all_true test h (x ∷ xs) = both_true (h x) (all_true test h xs)

pub all_same : {A : Type 0} (f g : A → Bool) → ((x : A) → f x ≡ g x) → (xs : List A) → list_all f xs ≡ list_all g xs
all_same f g h [] = refl
all_same f g h (x ∷ xs) = ap (λ v. v && list_all f xs) (h x) ∙ ap (λ v. g x && v) (all_same f g h xs)

-- the conditions from `Naming` on
abbrev is_late : Condition → Bool
is_late Known = false
is_late Nesting = false
is_late Spelling = false
is_late Magnitude = false
is_late Naming = true
is_late Counting = true
is_late Fitting = true

meets_late : {A : Type 0} (small : A → Bool) (o : Option A) (k : Condition) → is_late k ≡ true → meets small o k ≡ true
meets_late small None Known h = refl
meets_late small None Nesting h = refl
meets_late small None Spelling h = absurd (false≢true h)
meets_late small None Magnitude h = refl
meets_late small None Naming h = refl
meets_late small None Counting h = refl
meets_late small None Fitting h = refl
meets_late small (Some x) Known h = refl
meets_late small (Some x) Nesting h = refl
meets_late small (Some x) Spelling h = refl
meets_late small (Some x) Magnitude h = absurd (false≢true h)
meets_late small (Some x) Naming h = refl
meets_late small (Some x) Counting h = refl
meets_late small (Some x) Fitting h = refl

front_late : (ps : List (List ℕ)) (k : Condition) → is_late k ≡ true → front_meets ps k ≡ true
front_late [] Known h = refl
front_late [] Nesting h = refl
front_late [] Spelling h = absurd (false≢true h)
front_late [] Magnitude h = refl
front_late [] Naming h = refl
front_late [] Counting h = refl
front_late [] Fitting h = refl
front_late ([] ∷ []) Known h = refl
front_late ([] ∷ []) Nesting h = refl
front_late ([] ∷ []) Spelling h = absurd (false≢true h)
front_late ([] ∷ []) Magnitude h = refl
front_late ([] ∷ []) Naming h = refl
front_late ([] ∷ []) Counting h = refl
front_late ([] ∷ []) Fitting h = refl
front_late ((x ∷ xs) ∷ ps) Known h = refl
front_late ((x ∷ xs) ∷ ps) Nesting h = refl
front_late ((x ∷ xs) ∷ ps) Spelling h = absurd (false≢true h)
front_late ((x ∷ xs) ∷ ps) Magnitude h = refl
front_late ((x ∷ xs) ∷ ps) Naming h = refl
front_late ((x ∷ xs) ∷ ps) Counting h = refl
front_late ((x ∷ xs) ∷ ps) Fitting h = refl
front_late ([] ∷ p ∷ ps) k h = refl

size_late : (v : Option (List ℕ)) (k : Condition) → is_late k ≡ true → size_meets v k ≡ true
size_late None Known h = refl
size_late None Nesting h = refl
size_late None Spelling h = absurd (false≢true h)
size_late None Magnitude h = refl
size_late None Naming h = refl
size_late None Counting h = refl
size_late None Fitting h = refl
size_late (Some text) k h = both_true (front_late (parts (is_byte 91) text) k h) (all_true (λ w. part_meets w k) (λ w. meets_late _ _ k h) (brackets_of text))

pieces_fit : (text : List ℕ) → pieces_meet text Fitting ≡ true
pieces_fit text = all_true (λ w. piece_meets w Fitting) (λ w. meets_late _ _ Fitting refl) (words_of text)

word_fits : (w : List ℕ) → word_meets w Fitting ≡ true
word_fits w = all_true (λ b. bracket_meets b Fitting) (λ b. meets_late _ _ Fitting refl) (brackets_of w)

for_fits : (name : List ℕ) (sizes : List ℤ) (v : Option (List ℕ)) → for_meets name sizes v Fitting ≡ true
for_fits name sizes None = refl
for_fits name sizes (Some text) = or_true (is_others text) _ (all_true (λ w. cell_word_meets name sizes w Fitting) (λ w. both_true (word_fits w) refl) (words_of text))

child_fits : (name : List ℕ) (sizes : List ℤ) (n : Node) → domain_child_meets name sizes n Fitting ≡ true
child_fits name sizes n = both_true (for_fits name sizes (value_in (codes "for") n.attrs)) (pieces_fit (text_in n.pieces))

domains_fit : (name : List ℕ) (sizes : List ℤ) (cs : List Node) (text : List ℕ) → domains_meet name sizes cs text Fitting ≡ true
domains_fit name sizes [] text = pieces_fit text
domains_fit name sizes (c ∷ cs) text = all_true (λ d. domain_child_meets name sizes d Fitting) (child_fits name sizes) (c ∷ cs)

content_fits : (like : Option (List ℕ)) (n : Node) → content_meets like n Fitting ≡ true
content_fits None n = domains_fit (text_or_none (value_in (codes "id") n.attrs)) (stated_sizes n) (children_of n.pieces) (text_in n.pieces)
content_fits (Some like) n = refl

id_fits : (v : Option (List ℕ)) → id_meets v Fitting ≡ true
id_fits None = refl
id_fits (Some text) = refl

as_fits : (v : Option (List ℕ)) → as_meets v Fitting ≡ true
as_fits None = refl
as_fits (Some text) = refl

-- the element of an array by itself never misses the last condition
pub fields_fit : (n : Node) → array_fields_meet n Fitting ≡ true
fields_fit n =
    both_true (id_fits (value_in (codes "id") n.attrs))
    (both_true (as_fits (value_in (codes "as") n.attrs))
    (both_true (size_late (value_in (codes "size") n.attrs) Fitting refl)
    (content_fits (value_in (codes "as") n.attrs) n)))

for_agrees : (name : List ℕ) (s z : List ℤ) (v : Option (List ℕ)) (k : Condition) → is_late k ≡ false → for_meets name s v k ≡ for_meets name z v k
for_agrees name s z None k h = refl
for_agrees name s z (Some text) Known h = refl
for_agrees name s z (Some text) Nesting h = refl
for_agrees name s z (Some text) Spelling h = refl
for_agrees name s z (Some text) Magnitude h = refl
for_agrees name s z (Some text) Naming h = absurd (false≢true (sym h))
for_agrees name s z (Some text) Counting h = absurd (false≢true (sym h))
for_agrees name s z (Some text) Fitting h = absurd (false≢true (sym h))

domains_agree : (name : List ℕ) (s z : List ℤ) (cs : List Node) (text : List ℕ) (k : Condition) → is_late k ≡ false → domains_meet name s cs text k ≡ domains_meet name z cs text k
domains_agree name s z [] text k h = refl
domains_agree name s z (c ∷ cs) text k h =
    ap (λ v. spelling_meets (is_blank text) k && v)
    (all_same (λ d. domain_child_meets name s d k) (λ d. domain_child_meets name z d k) (λ d. ap (λ v. v && pieces_meet (text_in d.pieces) k) (for_agrees name s z (value_in (codes "for") d.attrs) k h)) (c ∷ cs))

content_agrees : (like : Option (List ℕ)) (name : List ℕ) (s z : List ℤ) (n : Node) (k : Condition) → is_late k ≡ false → content_within like name s n k ≡ content_within like name z n k
content_agrees None name s z n k h = domains_agree name s z (children_of n.pieces) (text_in n.pieces) k h
content_agrees (Some like) name s z n k h = refl

find_agrees : (t u v : Condition → Bool) (ks rest : List Condition) → AllByRecursion (λ k. u k ≡ v k) ks → is_some (find (λ k. not (t k)) ks) ≡ true → find (λ k. not (t k && u k)) (ks ++ rest) ≡ find (λ k. not (t k && v k)) (ks ++ rest)
find_agrees t u v [] rest a h = cc
find_agrees t u v (k ∷ ks) rest a h = by (t k) (find_agrees t u v ks rest a.1) h
  where
    by : (b : Bool) → (is_some (find (λ j. not (t j)) ks) ≡ true → find (λ j. not (t j && u j)) (ks ++ rest) ≡ find (λ j. not (t j && v j)) (ks ++ rest)) → is_some (cond (not b) (Some k) (find (λ j. not (t j)) ks)) ≡ true → cond (not (b && u k)) (Some k) (find (λ j. not (t j && u j)) (ks ++ rest)) ≡ cond (not (b && v k)) (Some k) (find (λ j. not (t j && v j)) (ks ++ rest))
    by false more g = refl
    by true more g = ap (λ x. cond (not x) (Some k) (find (λ j. not (t j && u j)) (ks ++ rest))) a.0 ∙ ap (λ o. cond (not (v k)) (Some k) o) (more g)

some_early : (t : Condition → Bool) (ks rest : List Condition) (j : Condition) → list_all t rest ≡ true → find (λ k. not (t k)) (ks ++ rest) ≡ Some j → is_some (find (λ k. not (t k)) ks) ≡ true
some_early t [] rest j h g = let none = none_found t rest h in cc
some_early t (k ∷ ks) rest j h g = by (t k) (some_early t ks rest j h) g
  where
    by : (b : Bool) → (find (λ i. not (t i)) (ks ++ rest) ≡ Some j → is_some (find (λ i. not (t i)) ks) ≡ true) → cond (not b) (Some k) (find (λ i. not (t i)) (ks ++ rest)) ≡ Some j → is_some (cond (not b) (Some k) (find (λ i. not (t i)) ks)) ≡ true
    by false more g = refl
    by true more g = more g

-- beside misspelt sizes, what content misses by other sizes is the same
pub sizes_matter : (v like : Option (List ℕ)) (name : List ℕ) (n : Node) (sizes : List ℤ) → sizes ≡ spelt_sizes v → first_missed (λ k. size_meets v k && content_within like name sizes n k) ≡ first_missed (λ k. size_meets v k && content_within like name (sizes_of (text_or_none v)) n k)
sizes_matter v like name n sizes is = by (first_missed (size_meets v)) refl is
  where
    by : (o : Option Condition) → first_missed (size_meets v) ≡ o → sizes ≡ where_none o (sizes_of (text_or_none v)) → first_missed (λ k. size_meets v k && content_within like name sizes n k) ≡ first_missed (λ k. size_meets v k && content_within like name (sizes_of (text_or_none v)) n k)
    by None e g = ap (λ s. first_missed (λ k. size_meets v k && content_within like name s n k)) g
    by (Some j) e g =
        let lates : list_all (size_meets v) (Naming ∷ Counting ∷ Fitting ∷ []) ≡ true = both_true (size_late v Naming refl) (both_true (size_late v Counting refl) (both_true (size_late v Fitting refl) refl)) in
        let agree = content_agrees like name sizes (sizes_of (text_or_none v)) n in
        find_agrees (size_meets v) (content_within like name sizes n) (content_within like name (sizes_of (text_or_none v)) n) (Known ∷ Nesting ∷ Spelling ∷ Magnitude ∷ []) (Naming ∷ Counting ∷ Fitting ∷ [])
        (agree Known refl, (agree Nesting refl, (agree Spelling refl, (agree Magnitude refl, tt))))
        (some_early (size_meets v) (Known ∷ Nesting ∷ Spelling ∷ Magnitude ∷ []) (Naming ∷ Counting ∷ Fitting ∷ []) j lates e)

-- the content of an array, of its own name and sizes
pub content_is : (like : Option (List ℕ)) (t : Condition → Bool) (n : Node) → first_missed (λ k. t k && content_within like (text_or_none (value_in (codes "id") n.attrs)) (stated_sizes n) n k) ≡ first_missed (λ k. t k && content_meets like n k)
content_is None t n = refl
content_is (Some like) t n = refl

-- one child more
pub missed_child : (test : Node → Condition → Bool) (missed judged all : Option Condition) (n : Node) (before ns : List Node) → before ≡ n ∷ ns → judged ≡ first_missed (test n) → earlier_of missed (first_missed (λ k. list_all (λ d. test d k) before)) ≡ all → earlier_of (earlier_of missed judged) (first_missed (λ k. list_all (λ d. test d k) ns)) ≡ all
missed_child test missed judged all n before ns cut is so_far =
    earlier_assoc missed judged (first_missed (λ k. list_all (λ d. test d k) ns))
    ∙ ap (λ j. earlier_of missed (earlier_of j (first_missed (λ k. list_all (λ d. test d k) ns)))) is
    ∙ ap (earlier_of missed) (first_missed-both (test n) (λ k. list_all (λ d. test d k) ns))
    ∙ ap (λ ds. earlier_of missed (first_missed (λ k. list_all (λ d. test d k) ds))) (sym cut)
    ∙ so_far

-- one piece more
pub children_next : (ps : List Piece) (i : ℕ) (p : Piece) → i < length ps → p ≡ get_or ps i p → children_of (drop i ps) ≡ piece_nodes p ++ children_of (drop (i + 1) ps)
children_next ps i p h e =
    let s : suc i ≡ i + 1 = omega arith in
    ap children_of (drop-cons ps i p h)
    ∙ ap (λ q. piece_nodes q ++ children_of (drop (suc i) ps)) (sym e)
    ∙ ap (λ j. piece_nodes p ++ children_of (drop j ps)) s

pub no_children : (ps : List Piece) → has_no_child ps ≡ true → children_of ps ≡ []
no_children [] h = refl
no_children (p ∷ ps) h = by (out-Piece p) (no_children ps) h
  where
    by : (q : Piece-F Piece Node) → (has_no_child ps ≡ true → children_of ps ≡ []) → (words_step q && has_no_child ps) ≡ true → node_step q ++ children_of ps ≡ []
    by (Piece-F.Words text) more g = more g
    by (Piece-F.Inner node) more g = cc

pub some_children : (ps : List Piece) → has_no_child ps ≡ false → children_of ps ≡ [] → ⊥
some_children [] h g = cc
some_children (p ∷ ps) h g = by (out-Piece p) (some_children ps) h g
  where
    by : (q : Piece-F Piece Node) → (has_no_child ps ≡ false → children_of ps ≡ [] → ⊥) → (words_step q && has_no_child ps) ≡ false → node_step q ++ children_of ps ≡ [] → ⊥
    by (Piece-F.Words text) more e g = more e g
    by (Piece-F.Inner node) more e g = cc

pub domains_more : (name : List ℕ) (sizes : List ℤ) (cs : List Node) (text : List ℕ) → (cs ≡ [] → ⊥) → first_missed (λ k. spelling_meets (is_blank text) k && list_all (λ d. domain_child_meets name sizes d k) cs) ≡ first_missed (domains_meet name sizes cs text)
domains_more name sizes [] text h = absurd (h refl)
domains_more name sizes (c ∷ cs) text h = refl

pub blank_is : (b : Bool) (ws : List (List ℕ)) → (b ≡ true → ws ≡ []) → (ws ≡ [] → b ≡ true) → b ≡ nat_eq (length ws) 0
blank_is true [] f g = refl
blank_is true (w ∷ ws) f g = let bad : w ∷ ws ≡ [] = f refl in cc
blank_is false [] f g = absurd (false≢true (g refl))
blank_is false (w ∷ ws) f g = grind (arith, nat_tests)

each_of : {A : Type 0} (t : A → Condition → Bool) (xs : List A) → ((k : Condition) → list_all (λ x. t x k) xs ≡ true) → AllByRecursion (λ x. (k : Condition) → t x k ≡ true) xs
each_of t [] h = tt
each_of t (x ∷ xs) h = (λ k. and_left (t x k) (list_all (λ x. t x k) xs) (h k), each_of t xs (λ k. and_right (t x k) (list_all (λ x. t x k) xs) (h k)))

or_rest : (a b : Bool) → a ≡ false → (a || b) ≡ true → b ≡ true
or_rest true b e h = cc
or_rest false b e h = h

all_turned : {A : Type 0} (P Q : A → Type 0) → ((x : A) → P x → Q x) → (xs : List A) → AllByRecursion P xs → AllByRecursion Q xs
all_turned P Q h [] g = tt
all_turned P Q h (x ∷ xs) g = (h x g.0, all_turned P Q h xs g.1)

cell_word : (name : List ℕ) (sizes : List ℤ) (w : List ℕ) → ((k : Condition) → cell_word_meets name sizes w k ≡ true) → IsCellWord sizes w
cell_word name sizes w h = (
  all_met (word_meets w) (λ k. and_left (word_meets w k) (naming_meets (is_cell_word name sizes (word_of w)) k) (h k)),
  and_right (bytes_eq (word_of w).name name) (are_inside sizes (word_of w).brackets) (and_right (word_meets w Naming) (is_cell_word name sizes (word_of w)) (h Naming)),
)

for_cells : (name : List ℕ) (sizes : List ℤ) (v : Option (List ℕ)) → ((k : Condition) → for_meets name sizes v k ≡ true) → AreCells sizes (text_or_none v)
for_cells name sizes None h = absurd (false≢true (h Spelling))
for_cells name sizes (Some text) h = λ other. all_turned (λ w. (k : Condition) → cell_word_meets name sizes w k ≡ true) (IsCellWord sizes) (cell_word name sizes) (words_of text) (each_of (cell_word_meets name sizes) (words_of text) (λ k. or_rest (is_others text) (cell_words_meet name sizes text k) other (h k)))

children_cells : (name : List ℕ) (sizes : List ℤ) (cs : List Node) (text : List ℕ) → ((k : Condition) → domains_meet name sizes cs text k ≡ true) → AllByRecursion (HasCells sizes) cs
children_cells name sizes [] text h = tt
children_cells name sizes (c ∷ cs) text h =
    all_turned (λ d. (k : Condition) → domain_child_meets name sizes d k ≡ true) (HasCells sizes)
    (λ d g. for_cells name sizes (value_in (codes "for") d.attrs) (λ k. and_left (for_meets name sizes (value_in (codes "for") d.attrs) k) (pieces_meet (text_in d.pieces) k) (g k)))
    (c ∷ cs)
    (each_of (domain_child_meets name sizes) (c ∷ cs) (λ k. and_right (spelling_meets (is_blank text) k) (list_all (λ d. domain_child_meets name sizes d k) (c ∷ cs)) (h k)))

-- what is met of the parts of the element, where nothing is missed
pub record PartsMet (n : Node) : Type 0 where
  pub id : (k : Condition) → id_meets (value_in (codes "id") n.attrs) k ≡ true
  pub size : (k : Condition) → size_meets (value_in (codes "size") n.attrs) k ≡ true
  pub content : (k : Condition) → content_meets (value_in (codes "as") n.attrs) n k ≡ true

pub parts_met : (n : Node) → first_missed (array_fields_meet n) ≡ None → PartsMet n
parts_met n h = record {
  id = λ k. and_left (id k) (like k && (size k && content k)) (behind k);
  size = λ k. and_left (size k) (content k) (later k);
  content = λ k. and_right (size k) (content k) (later k);
}
  where
    id : Condition → Bool
    id k = id_meets (value_in (codes "id") n.attrs) k

    like : Condition → Bool
    like k = as_meets (value_in (codes "as") n.attrs) k

    size : Condition → Bool
    size k = size_meets (value_in (codes "size") n.attrs) k

    content : Condition → Bool
    content k = content_meets (value_in (codes "as") n.attrs) n k

    behind : (k : Condition) → (id k && (like k && (size k && content k))) ≡ true
    behind k = and_right (known_meets (is_array_known n) k) (id k && (like k && (size k && content k))) (met_at (array_fields_meet n) h k)

    later : (k : Condition) → (size k && content k) ≡ true
    later k = and_right (like k) (size k && content k) (and_right (id k) (like k && (size k && content k)) (behind k))

pub has_content : (n : Node) → first_missed (array_fields_meet n) ≡ None → HasContent n
has_content n h none = by (value_in (codes "as") n.attrs) none (parts_met n h).content
  where
    by : (like : Option (List ℕ)) → like ≡ None → ((k : Condition) → content_meets like n k ≡ true) → AllByRecursion (HasCells (stated_sizes n)) (children_of n.pieces)
    by (Some like) e g = cc
    by None e g = children_cells (text_or_none (value_in (codes "id") n.attrs)) (stated_sizes n) (children_of n.pieces) (text_in n.pieces) g

pub spelt_stated : (n : Node) → first_missed (array_fields_meet n) ≡ None → spelt_sizes (value_in (codes "size") n.attrs) ≡ stated_sizes n
spelt_stated n h = ap (λ o. where_none o (stated_sizes n)) (all_met (size_meets (value_in (codes "size") n.attrs)) (parts_met n h).size)
