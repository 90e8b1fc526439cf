-- What an `extension` denotes that misses nothing: it is of the shape of its form, over declared variables, and has no more
-- items than are left.
use Rattle.std.proofs.Common.{◌≡◌, ℕ, ◌+◌, ◌*◌, ◌<◌, ◌≤◌, ℤ, ◌≤ℤ◌, nat_abs, Bool, true, false, ◌&&◌, ◌||◌, nat_eq, nat_le, if◌then◌else◌, cond, List, [], ◌∷◌, ◌++◌, length, map, Option, None, Some, Ok, Err, refl, ap, sym, ◌∙◌, subst, arith}
use Rattle.std.specs.Prelude.{is_some, int_le}
use Rattle.std.specs.List.{AllByRecursion, filter, flat_map, list_all}
use Rattle.std.specs.Option.{option_map}
use Rattle.std.proofs.lemmas.Bool.{eqb-true}
use Rattle.std.proofs.lemmas.Int.{ints}
use Rattle.std.proofs.lemmas.List.{length-map, length-append}
use borrow.Author.Tests.{leb-true, ltb-true, lt-ltb}
use Rattle.xf_num.specs.Span.{Bounds}
use Rattle.xs_fields.specs.Cells.{vars_meet, vars_of}
use Rattle.xs_fields.specs.Conditions.{first_missed, judged}
use Rattle.xs_fields.specs.Integers.{integer_of, is_small}
use Rattle.xs_fields.specs.Lists.{has_small_ends, piece_in, piece_list, piece_of, pieces_in, pieces_meet, pieces_of, point, range_of}
use Rattle.xs_fields.specs.Words.{is_byte, is_nonempty, is_space, onto_first, parts, words_of}
use Rattle.xs_fields.specs.declared.condition.Condition.TheVariants.{Counting, Fitting, Magnitude, Spelling}
use Rattle.xs_fields.proofs.FirstLemmas.{met_at}
use Rattle.xs_fields.proofs.IntegerLemmas.{and_left, and_right}
use Rattle.xs_fields.proofs.PartLemmas.{parts_front, words_space}
use Rattle.xs_model.proofs.FormLemmas.{items_of_below}
use Rattle.xs_model.specs.Accepted.{IsFormed}
use Rattle.xs_model.specs.Fields.{Variable, end_items, entries, entry_item, members}
use Rattle.xs_model.specs.Fitting.{HaveLength, IsFitting, IsNotEmpty, IsRange}
use Rattle.xs_model.specs.Formed.{IsFormedField, IsFormedItem, count_of, items_of, total}
use Rattle.xs_model.specs.Outline.{Outline, variables_in}
use Rattle.xs_model.specs.Sound.{HasSmallEnds, magnitudes}
use Rattle.xs_model.specs.declared.concrete.Concrete.{Concrete}
use Rattle.xs_model.specs.declared.instance.Constraint.{Constraint}
use Rattle.xs_model.specs.declared.instance.Constraint.TheVariants.{Extension, Unary}
use Rattle.xs_tables.specs.Extension.{extension_meets, extension_of, supported_meets, supported_of, two_texts}
use Rattle.xs_tables.specs.Groups.{behind_of, front_of, groups_of, inner_of, is_blank, last_of}
use Rattle.xs_tables.specs.Tables.{are_tuples, range_table_meets, ranged, ranges_fit, table_meets, table_of, tuple_table_meets, tuples_fit}
use Rattle.xs_tables.specs.Tuples.{entries_in, entry_list, entry_of, inside_of, is_small_entry, tuple_of, tuples_meet, tuples_of}
use Rattle.xs_tables.proofs.BelowLemmas.{vars_below}
use Rattle.xs_tables.proofs.GroupLemmas.{never, one_part}
use Rattle.std.specs.Prelude.{codes}

-- entries
entry_small : (n : ℕ) (o : Option (Option ℤ)) → AllByRecursion (IsFormedItem n) (map entry_item (entry_list (judged is_small_entry o)))
entry_small n None = tt
entry_small n (Some None) = (tt, tt)
entry_small n (Some (Some z)) = by (is_small z) refl
  where
    by : (v : Bool) → is_small z ≡ v → AllByRecursion (IsFormedItem n) (map entry_item (entry_list (if v then Ok (Some z) else Err Magnitude)))
    by true e = (leb-true (nat_abs z) magnitudes e, tt)
    by false e = tt

pub all_append : {A : Type 0} (P : A → Type 0) (xs ys : List A) → AllByRecursion P xs → AllByRecursion P ys → AllByRecursion P (xs ++ ys)
all_append P [] ys h g = g
all_append P (x ∷ xs) ys h g = (h.0, all_append P xs ys h.1 g)

entries_more : (n : ℕ) (xs ys : List (Option ℤ)) → AllByRecursion (IsFormedItem n) (map entry_item xs) → AllByRecursion (IsFormedItem n) (map entry_item ys) → AllByRecursion (IsFormedItem n) (map entry_item (xs ++ ys))
entries_more n [] ys h g = g
entries_more n (x ∷ xs) ys h g = (h.0, entries_more n xs ys h.1 g)

entries_small : (n : ℕ) (ws : List (List ℕ)) → AllByRecursion (IsFormedItem n) (map entry_item (flat_map entries_in ws))
entries_small n [] = tt
entries_small n (w ∷ ws) = entries_more n (entries_in w) (flat_map entries_in ws) (entry_small n (entry_of w)) (entries_small n ws)

tuple_formed : (n : ℕ) (o : Option (List ℕ)) → AllByRecursion (IsFormedItem n) (map entry_item (inside_of o))
tuple_formed n None = tt
tuple_formed n (Some inner) = entries_small n (parts (is_byte 44) inner)

tuples_formed : (n : ℕ) (gs : List (List ℕ)) → AllByRecursion (IsFormedField n) (map entries (map tuple_of gs))
tuples_formed n [] = tt
tuples_formed n (g ∷ gs) = (tuple_formed n (inner_of g), tuples_formed n gs)

long_from : (n : ℕ) (ts : List (List (Option ℤ))) → list_all (λ t. nat_eq (length t) n) ts ≡ true → HaveLength n ts
long_from n [] h = tt
long_from n (t ∷ ts) h = (eqb-true _ _ (and_left _ _ h), long_from n ts (and_right _ _ h))

-- ranges
range_ordered : (a b : Option ℤ) (r : Bounds) → range_of a b ≡ Some r → r.lo ≤ℤ r.hi
range_ordered None b r h = cc
range_ordered (Some x) None r h = cc
range_ordered (Some x) (Some y) r h = by (int_le x y) refl h
  where
    by : (v : Bool) → int_le x y ≡ v → (if v then Some (record { lo = x; hi = y }) else None) ≡ Some r → r.lo ≤ℤ r.hi
    by true e g =
        let low : x ≤ℤ y = omega (arith, ints, e) in
        let same : (record { lo = x; hi = y }) ≡ r = cc in
        subst (λ (q : Bounds). q.lo ≤ℤ q.hi) same low
    by false e g = cc

point_ordered : (o : Option ℤ) (r : Bounds) → option_map point o ≡ Some r → r.lo ≤ℤ r.hi
point_ordered None r h = cc
point_ordered (Some x) r h =
    let same : point x ≡ r = cc in
    let low : x ≤ℤ x = omega (arith, ints) in
    subst (λ (q : Bounds). q.lo ≤ℤ q.hi) same low

piece_ordered : (ps : List (List ℕ)) (r : Bounds) → piece_in ps ≡ Some r → r.lo ≤ℤ r.hi
piece_ordered [] r h = cc
piece_ordered (v ∷ []) r h = point_ordered (integer_of v) r h
piece_ordered (a ∷ [] ∷ []) r h = cc
piece_ordered (a ∷ (x ∷ xs) ∷ []) r h = cc
piece_ordered (a ∷ [] ∷ b ∷ []) r h = range_ordered (integer_of a) (integer_of b) r h
piece_ordered (a ∷ (x ∷ xs) ∷ b ∷ []) r h = cc
piece_ordered (a ∷ [] ∷ b ∷ p ∷ ps) r h = cc
piece_ordered (a ∷ (x ∷ xs) ∷ b ∷ p ∷ ps) r h = cc

small_ends : (b : Bounds) → has_small_ends b ≡ true → HasSmallEnds b
small_ends b h = (leb-true (nat_abs b.lo) magnitudes (and_left (is_small b.lo) (is_small b.hi) h), leb-true (nat_abs b.hi) magnitudes (and_right (is_small b.lo) (is_small b.hi) h))

abbrev IsPiece : Bounds → Type 0
IsPiece b = HasSmallEnds b × IsRange b

word_pieces : (w : List ℕ) → AllByRecursion IsPiece (pieces_in w)
word_pieces w = by (piece_of w) refl
  where
    small : (r : Bounds) → piece_of w ≡ Some r → (v : Bool) → has_small_ends r ≡ v → AllByRecursion IsPiece (piece_list (if v then Ok r else Err Magnitude))
    small r e true g = ((small_ends r g, piece_ordered (parts (is_byte 46) w) r e), tt)
    small r e false g = tt

    by : (o : Option Bounds) → piece_of w ≡ o → AllByRecursion IsPiece (piece_list (judged has_small_ends o))
    by None e = tt
    by (Some r) e = small r e (has_small_ends r) refl

all_pieces : (ws : List (List ℕ)) → AllByRecursion IsPiece (flat_map pieces_in ws)
all_pieces [] = tt
all_pieces (w ∷ ws) = all_append IsPiece (pieces_in w) (flat_map pieces_in ws) (word_pieces w) (all_pieces ws)

ends_formed : (n : ℕ) (bs : List Bounds) → AllByRecursion IsPiece bs → AllByRecursion (IsFormedItem n) (flat_map end_items bs)
ends_formed n [] h = tt
ends_formed n (b ∷ bs) h = (h.0.0.0, (h.0.0.1, ends_formed n bs h.1))

are_ranges : (bs : List Bounds) → AllByRecursion IsPiece bs → AllByRecursion IsRange bs
are_ranges [] h = tt
are_ranges (b ∷ bs) h = (h.0.1, are_ranges bs h.1)

-- a text that begins with `(` and is spelt right has a tuple
nonempty_words : (b : ℕ) (bs : List ℕ) → is_space b ≡ false → words_of (b ∷ bs) ≡ [] → ⊥
nonempty_words b bs e h = some (parts is_space bs) refl
  where
    kept : (p : List ℕ) (ps : List (List ℕ)) → filter is_nonempty ((b ∷ p) ∷ ps) ≡ (b ∷ p) ∷ filter is_nonempty ps
    kept p ps = ap (λ (v : Bool). cond v ((b ∷ p) ∷ filter is_nonempty ps) (filter is_nonempty ps)) (lt-ltb 0 (length (b ∷ p)) (omega arith))

    cut : (ps : List (List ℕ)) → parts is_space bs ≡ ps → words_of (b ∷ bs) ≡ filter is_nonempty (onto_first b ps)
    cut ps is = ap (λ (v : Bool). filter is_nonempty (if v then [] ∷ parts is_space bs else onto_first b (parts is_space bs))) e ∙ ap (λ qs. filter is_nonempty (onto_first b qs)) is

    some : (ps : List (List ℕ)) → parts is_space bs ≡ ps → ⊥
    some [] is = never is_space bs is
    some (p ∷ ps) is = let more : (b ∷ p) ∷ filter is_nonempty ps ≡ [] = sym (kept p ps) ∙ sym (cut (p ∷ ps) is) ∙ h in cc

pub blank_inner : (text : List ℕ) → words_of text ≡ [] → inner_of text ≡ None
blank_inner [] h = refl
blank_inner (b ∷ bs) h = by (blank_inner bs) (is_space b) refl
  where
    by : (words_of bs ≡ [] → inner_of bs ≡ None) → (v : Bool) → is_space b ≡ v → (if v then inner_of bs else (if nat_eq b 40 then Some bs else None)) ≡ None
    by rest true e = rest (sym (words_space b bs e) ∙ h)
    by rest false e = absurd (nonempty_words b bs e h)

no_words : (ws : List (List ℕ)) → nat_eq (length ws) 0 ≡ true → ws ≡ []
no_words [] h = refl
no_words (w ∷ ws) h = absurd (let none : length (w ∷ ws) ≡ 0 = eqb-true _ _ h in omega (arith, none))

pub some_group : (text inner : List ℕ) → inner_of text ≡ Some inner → is_blank (behind_of text) ≡ true → 0 < length (groups_of text)
some_group text inner h blank = by (parts (is_byte 41) text) refl
  where
    by : (ps : List (List ℕ)) → parts (is_byte 41) text ≡ ps → 0 < length (groups_of text)
    by [] e = absurd (never (is_byte 41) text e)
    by (p ∷ []) e =
        let last : behind_of text ≡ text = ap last_of e ∙ one_part (is_byte 41) p text e in
        let none : inner_of text ≡ None = blank_inner text (no_words (words_of text) (sym (ap is_blank last) ∙ blank)) in
        let both : Some inner ≡ None = sym h ∙ none in cc
    by (p ∷ q ∷ ps) e = let more = ap (λ qs. length (front_of qs)) e in omega (arith, more)

-- a table of tuples
module _ (os : List Outline) (left : ℕ) (list text : List ℕ) (positive : Bool) where
  tuples_form : are_tuples text ≡ true → first_missed (tuple_table_meets os left list text) ≡ None → IsFormed (variables_in os) (Extension (vars_of os list) (tuples_of text) positive)
  tuples_form are h =
      let met = met_at (tuple_table_meets os left list text) h in
      let fits : tuples_fit (length (vars_of os list)) text ≡ true = and_right _ _ (met Fitting) in
      let blank : is_blank (behind_of text) ≡ true = and_right _ _ (and_right _ _ (and_left _ _ (met Spelling))) in
      record {
        fields = (items_of_below (variables_in os) (vars_of os list) (vars_below os list), tuples_formed (variables_in os) (groups_of text));
        fitting = (ltb-true _ _ (and_left _ _ fits), long_from (length (vars_of os list)) (tuples_of text) (and_right _ _ fits), λ one. some (inner_of text) refl are blank);
      }
    where
      some : (o : Option (List ℕ)) → inner_of text ≡ o → is_some o ≡ true → is_blank (behind_of text) ≡ true → 0 < length (tuples_of text)
      some None e is blank = cc
      some (Some inner) e is blank = omega (arith, some_group text inner e blank, length-map (groups_of text) tuple_of)

  entry_counts : (ts : List (List (Option ℤ))) → total (map count_of (map entries ts)) ≡ total (map length ts)
  entry_counts [] = refl
  entry_counts (t ∷ ts) = omega (arith, length-map t entry_item, entry_counts ts)

  tuples_few : first_missed (tuple_table_meets os left list text) ≡ None → items_of (Extension (vars_of os list) (tuples_of text) positive) ≤ left
  tuples_few h =
      let few : length (vars_of os list) + total (map length (tuples_of text)) ≤ left = leb-true _ _ (and_left _ _ (and_right _ _ (met_at (tuple_table_meets os left list text) h Counting))) in
      omega (arith, few, length-map (vars_of os list) Variable, entry_counts (tuples_of text))

  ranged_form : (vs : List ℕ) → AllByRecursion (λ v. v < variables_in os) vs → (bs : List Bounds) → AllByRecursion IsPiece bs → ((length vs ≡ 0) → ⊥) → IsFormed (variables_in os) (ranged positive vs bs)
  ranged_form [] below bs pieces some = absurd (some refl)
  ranged_form (v ∷ []) below bs pieces some = record {
    fields = ((below.0, tt), (ends_formed (variables_in os) bs pieces, tt));
    fitting = are_ranges bs pieces;
  }
  ranged_form (v ∷ w ∷ vs) below bs pieces some = record {
    fields = (items_of_below (variables_in os) (v ∷ w ∷ vs) below, tt);
    fitting = (omega arith, tt, λ one. absurd (omega (arith, one)));
  }

  ranges_form : first_missed (range_table_meets os left list text) ≡ None → IsFormed (variables_in os) (ranged positive (vars_of os list) (pieces_of text))
  ranges_form h =
      let fits : ranges_fit (length (vars_of os list)) text ≡ true = and_right _ _ (met_at (range_table_meets os left list text) h Fitting) in
      ranged_form (vars_of os list) (vars_below os list) (pieces_of text) (all_pieces (words_of text)) (λ none. let some : 0 < length (vars_of os list) = ltb-true _ _ (and_left _ _ fits) in omega (arith, none, some))

  end_counts : (bs : List Bounds) → length (flat_map end_items bs) ≡ 2 * length bs
  end_counts [] = refl
  end_counts (b ∷ bs) = omega (arith, end_counts bs)

  ranged_few : (vs : List ℕ) (bs : List Bounds) → length vs + 2 * length bs ≤ left → items_of (ranged positive vs bs) ≤ left
  ranged_few [] bs h = omega (arith, h)
  ranged_few (v ∷ []) bs h = omega (arith, h, end_counts bs)
  ranged_few (v ∷ w ∷ vs) bs h = omega (arith, h, length-map (v ∷ w ∷ vs) Variable)

  ranges_few : first_missed (range_table_meets os left list text) ≡ None → items_of (ranged positive (vars_of os list) (pieces_of text)) ≤ left
  ranges_few h = ranged_few (vars_of os list) (pieces_of text) (leb-true _ _ (and_left _ _ (and_right _ _ (met_at (range_table_meets os left list text) h Counting))))

  -- both at once
  abbrev Good : Constraint → Type 0
  Good x = IsFormed (variables_in os) x × (items_of x ≤ left)

  pub table_good : first_missed (table_meets os left list text) ≡ None → Good (table_of os list text positive)
  table_good h = by (are_tuples text) refl h
    where
      by : (v : Bool) → are_tuples text ≡ v → first_missed (λ k. if v then tuple_table_meets os left list text k else range_table_meets os left list text k) ≡ None
          → Good (if v then Extension (vars_of os list) (tuples_of text) positive else ranged positive (vars_of os list) (pieces_of text))
      by true e h = (tuples_form e h, tuples_few h)
      by false e h = (ranges_form h, ranges_few h)

abbrev pub IsGood : List Outline → ℕ → Constraint → Type 0
IsGood os left x = IsFormed (variables_in os) x × (items_of x ≤ left)

supported_good : (os : List Outline) (left : ℕ) (s t : Option (List ℕ × List ℕ)) → first_missed (supported_meets os left s t) ≡ None → IsGood os left (supported_of os s t)
supported_good os left (Some s) t h = table_good os left s.0 s.1 true h
supported_good os left None (Some t) h = table_good os left t.0 t.1 false h
supported_good os left None None h = cc

pub extension_good : (os : List Outline) (left : ℕ) (c : Concrete) → first_missed (extension_meets os left c) ≡ None → IsGood os left (extension_of os c)
extension_good os left c h = supported_good os left (two_texts (codes "list") (codes "supports") c.parts) (two_texts (codes "list") (codes "conflicts") c.parts) h
