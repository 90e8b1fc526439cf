-- What is written of a table denotes it again, and misses nothing.
use Rattle.std.proofs.Common.{◌≡◌, ℕ, ◌+◌, ◌*◌, ◌<◌, ◌≤◌, ℤ, ◌≤ℤ◌, nat_abs, Bool, true, false, not, ◌&&◌, ◌||◌, nat_eq, nat_lt, if◌then◌else◌, List, [], ◌∷◌, ◌++◌, length, map, get_or, codes, Option, None, Some, Ok, Err, refl, ap, sym, ◌∙◌, append_assoc, arith, rules, length-append}
use Rattle.std.specs.Prelude.{int_le, is_some}
use Rattle.std.specs.Fmt.{signed_decimal}
use Rattle.std.specs.List.{AllByRecursion, flat_map, list_all}
use Rattle.std.specs.Option.{option_map}
use Rattle.std.specs.Ordering.{int_eq}
use Rattle.std.proofs.lemmas.Bool.{eq-eqb, ne_eqb}
use Rattle.std.proofs.lemmas.Bool.Decides.{Decides-int_eq}
use Rattle.std.proofs.lemmas.Int.{ints}
use Rattle.std.proofs.lemmas.List.{length-map}
use Rattle.std.proofs.lemmas.Slice.Eq.{bytes_eq-Decides}
use Rattle.std.specs.Str.{bytes_eq}
use borrow.Author.Tests.{le-leb, lt-ltb}
use Rattle.xf_num.specs.Span.{Bounds}
use Rattle.xs_expr.specs.Text.{joined_from}
use Rattle.xs_expr.specs.Tokens.{is_in_word}
use Rattle.xs_fields.specs.Cells.{variable_meets, variables_of, vars_meet, vars_of}
use Rattle.xs_fields.specs.Conditions.{all_meet, judged, meets}
use Rattle.xs_fields.specs.Integers.{integer_of, is_small, magnitudes}
use Rattle.xs_fields.specs.Lists.{count_meets, has_small_ends, piece_in, piece_list, piece_meets, piece_of, pieces_in, pieces_of, point, range_of}
use Rattle.xs_fields.specs.Words.{is_byte, is_space, parts}
use Rattle.xs_fields.specs.declared.condition.Condition.{Condition}
use Rattle.xs_fields.specs.declared.condition.Condition.TheVariants.{Known, Nesting, Spelling, Magnitude, Naming, Counting, Fitting}
use Rattle.xs_fields.proofs.Decimals.{decimal-spells, integer-bytes, integer-is, integer-some}
use Rattle.xs_fields.proofs.DistinctNames.{one_denotation}
use Rattle.xs_fields.proofs.FirstLemmas.{all_met, met_at}
use Rattle.xs_fields.proofs.IntegerLemmas.{and_left, and_right}
use Rattle.xs_language.proofs.Texts.{AreReadAgain}
use Rattle.xs_language.specs.Written.{entry_text, list_text, range_text, ranges_text, tuple_text, tuples_text}
use Rattle.xs_language.proofs.CutLemmas.{AreEntries, IsWord, Lacks, between_commas, both, joined_close, lacks_space, next_behind, next_groups, some_inner, spaced_words, split, whole}
use Rattle.xs_model.specs.Accepted.{IsFormed}
use Rattle.xs_model.specs.Fields.{Variable, end_items, entries, entry_item}
use Rattle.xs_model.specs.Fitting.{HaveLength, IsRange}
use Rattle.xs_model.specs.Formed.{IsFormedField, IsFormedItem, count_of, total}
use Rattle.xs_model.specs.Names.{words}
use Rattle.xs_model.specs.Outline.{outlines_of}
use Rattle.xs_model.specs.Sound.{IsSmall}
use Rattle.xs_model.specs.declared.decl.Decl.{Decl}
use Rattle.xs_model.specs.declared.instance.Constraint.{Constraint}
use Rattle.xs_model.specs.declared.instance.Constraint.TheVariants.{Extension, Unary}
use Rattle.xs_notation.specs.Law.{AreDeclared}
use Rattle.xs_notation.proofs.Declared.{denotes, distinct-all, few-all, sound-all}
use Rattle.xs_notation.proofs.Marked.{IsOneWord, high-byte}
use Rattle.xs_notation.proofs.Reached.{direct-is}
use Rattle.xs_language.proofs.ShapeLemmas.{table_below}
use Rattle.xs_tables.specs.Groups.{behind_of, groups_of, inner_of, is_blank, spelt_meets}
use Rattle.xs_tables.specs.Tables.{are_tuples, fitting_meets, range_table_meets, ranged, sizes_meet, table_meets, table_of, tuple_table_meets}
use Rattle.xs_tables.specs.Tuples.{entries_in, entry_list, entry_meets, entry_of, is_small_entry, tuple_meets, tuple_of, tuples_meet, tuples_of}

-- integers
pub small_is : (z : ℤ) → IsSmall z → is_small z ≡ true
small_is z h = le-leb (nat_abs z) magnitudes h

pub read_integer : (z : ℤ) → IsSmall z → integer_of (signed_decimal z) ≡ Some z
read_integer z h = integer-is (signed_decimal z) z (decimal-spells z h)

pub integer_word : (z : ℤ) → IsSmall z → list_all is_in_word (signed_decimal z) ≡ true
integer_word z h = integer-bytes is_in_word refl refl (λ c l g. high-byte c (omega (arith, l))) (signed_decimal z) (decimal-spells z h).0

word_of_bytes : (t : List ℕ) → 0 < length t → list_all is_in_word t ≡ true → IsWord t
word_of_bytes t some h = record { some = some; plain = lacks_space t h }

-- entries
abbrev IsSmallEntry : Option ℤ → Type 0
IsSmallEntry None = Unit {0}
IsSmallEntry (Some z) = IsSmall z

entry_word : (e : Option ℤ) → IsSmallEntry e → list_all is_in_word (entry_text e) ≡ true
entry_word None h = refl
entry_word (Some z) h = integer_word z h

not_star : (w : List ℕ) (z : ℤ) → integer_of w ≡ Some z → (v : Bool) → bytes_eq w (codes "*") ≡ v → v ≡ false
not_star w z h true e =
    let star : w ≡ codes "*" = (bytes_eq-Decides w (codes "*")).0 e in
    let none : integer_of w ≡ None = ap integer_of star ∙ refl in
    let never : Some z ≡ None = sym h ∙ none in cc
not_star w z h false e = refl

entry_read : (e : Option ℤ) → IsSmallEntry e → entry_of (entry_text e) ≡ Some e
entry_read None h = refl
entry_read (Some z) h =
    let w = signed_decimal z in
    ap (λ (v : Bool). if v then Some None else option_map Some (integer_of w)) (not_star w z (read_integer z h) (bytes_eq w (codes "*")) refl) ∙ ap (λ o. option_map Some o) (read_integer z h)

entry_is_small : (e : Option ℤ) → IsSmallEntry e → is_small_entry e ≡ true
entry_is_small None h = refl
entry_is_small (Some z) h = small_is z h

pub right : {A : Type 0} (small : A → Bool) (x : A) → small x ≡ true → (k : Condition) → meets small (Some x) k ≡ true
right small x h Known = refl
right small x h Nesting = refl
right small x h Spelling = refl
right small x h Magnitude = h
right small x h Naming = refl
right small x h Counting = refl
right small x h Fitting = refl

entry_met : (e : Option ℤ) → IsSmallEntry e → (k : Condition) → entry_meets (entry_text e) k ≡ true
entry_met e h k = ap (λ o. meets is_small_entry o k) (entry_read e h) ∙ right is_small_entry e (entry_is_small e h) k

entry_back : (e : Option ℤ) → IsSmallEntry e → entries_in (entry_text e) ≡ e ∷ []
entry_back e h =
    ap (λ o. entry_list (judged is_small_entry o)) (entry_read e h) ∙ ap (λ (v : Bool). entry_list (if v then Ok e else Err Magnitude)) (entry_is_small e h)

abbrev AreSmall : List (Option ℤ) → Type 0
AreSmall t = AllByRecursion IsSmallEntry t

are_entries : (t : List (Option ℤ)) → AreSmall t → AreEntries (map entry_text t)
are_entries [] h = tt
are_entries (e ∷ t) h = (entry_word e h.0, are_entries t h.1)

entries_back : (t : List (Option ℤ)) → AreSmall t → flat_map entries_in (map entry_text t) ≡ t
entries_back [] h = refl
entries_back (e ∷ t) h = ap (λ es. es ++ flat_map entries_in (map entry_text t)) (entry_back e h.0) ∙ ap (λ es. e ∷ es) (entries_back t h.1)

entries_met : (t : List (Option ℤ)) → AreSmall t → (k : Condition) → all_meet entry_meets (map entry_text t) k ≡ true
entries_met [] h k = refl
entries_met (e ∷ t) h k = both _ _ (entry_met e h.0 k) (entries_met t h.1 k)

-- tuples
abbrev inside : List (Option ℤ) → List ℕ
inside t = joined_from [] (map entry_text t)

abbrev IsTuple : List (Option ℤ) → Type 0
IsTuple t = (0 < length t) × AreSmall t

cut_inside : (t : List (Option ℤ)) → IsTuple t → parts (is_byte 44) (inside t) ≡ map entry_text t
cut_inside t h = between_commas (map entry_text t) (omega (arith, h.0, length-map t entry_text)) (are_entries t h.1)

tuple_back : (t : List (Option ℤ)) → IsTuple t → tuple_of (32 ∷ 40 ∷ inside t) ≡ t
tuple_back t h = ap (flat_map entries_in) (cut_inside t h) ∙ entries_back t h.1

tuple_met : (t : List (Option ℤ)) → IsTuple t → (k : Condition) → tuple_meets (32 ∷ 40 ∷ inside t) k ≡ true
tuple_met t h k = ap (λ ps. all_meet entry_meets ps k) (cut_inside t h) ∙ entries_met t h.1 k

tuples_back : (ts : List (List (Option ℤ))) → AllByRecursion IsTuple ts → tuples_of (tuples_text ts) ≡ ts
tuples_back [] h = refl
tuples_back (t ∷ ts) h =
    ap (map tuple_of) (next_groups (inside t) (map tuple_text ts) (joined_close (map entry_text t) (are_entries t h.0.1)))
    ∙ ap (λ u. u ∷ tuples_of (tuples_text ts)) (tuple_back t h.0) ∙ ap (λ us. t ∷ us) (tuples_back ts h.1)

groups_met : (ts : List (List (Option ℤ))) → AllByRecursion IsTuple ts → (k : Condition) → all_meet tuple_meets (groups_of (tuples_text ts)) k ≡ true
groups_met [] h k = refl
groups_met (t ∷ ts) h k =
    ap (λ gs. all_meet tuple_meets gs k) (next_groups (inside t) (map tuple_text ts) (joined_close (map entry_text t) (are_entries t h.0.1)))
    ∙ both _ _ (tuple_met t h.0 k) (groups_met ts h.1 k)

last_blank : (ts : List (List (Option ℤ))) → AllByRecursion IsTuple ts → behind_of (tuples_text ts) ≡ 32 ∷ []
last_blank [] h = refl
last_blank (t ∷ ts) h = next_behind (inside t) (map tuple_text ts) (joined_close (map entry_text t) (are_entries t h.0.1)) ∙ last_blank ts h.1

pub spelt_true : (k : Condition) → spelt_meets true k ≡ true
spelt_true Known = refl
spelt_true Nesting = refl
spelt_true Spelling = refl
spelt_true Magnitude = refl
spelt_true Naming = refl
spelt_true Counting = refl
spelt_true Fitting = refl

-- how many entries there are in all
flat_many : {A B : Type 0} (f : A → List B) (xs : List A) → length (flat_map f xs) ≡ total (map length (map f xs))
flat_many f [] = refl
flat_many f (x ∷ xs) = omega (arith, length-append (f x) (flat_map f xs), flat_many f xs)

pub count_true : (count left : ℕ) → count ≤ left → (k : Condition) → count_meets count left k ≡ true
count_true count left h Known = refl
count_true count left h Nesting = refl
count_true count left h Spelling = refl
count_true count left h Magnitude = refl
count_true count left h Naming = refl
count_true count left h Counting = le-leb count left h
count_true count left h Fitting = refl

tuples_met : (ts : List (List (Option ℤ))) → AllByRecursion IsTuple ts → (left : ℕ) → total (map length ts) ≤ left → (k : Condition) → tuples_meet (tuples_text ts) left k ≡ true
tuples_met ts h left few k =
    let many : length (flat_map tuple_of (groups_of (tuples_text ts))) ≡ total (map length ts) = flat_many tuple_of (groups_of (tuples_text ts)) ∙ ap (λ us. total (map length us)) (tuples_back ts h) in
    both _ _ (both _ _ (groups_met ts h k) (count_true (length (flat_map tuple_of (groups_of (tuples_text ts)))) left (omega (arith, many, few)) k))
    (ap (λ b. spelt_meets (is_blank b) k) (last_blank ts h) ∙ spelt_true k)

-- variables
module _ (ds : List Decl) (d : AreDeclared ds) where
  abbrev word_at : ℕ → List ℕ
  word_at v = get_or (words ds) v []

  abbrev Declared : List ℕ → Type 0
  Declared vs = AllByRecursion (λ v. v < length (words ds)) vs

  one_word : (w : List ℕ) → IsOneWord w → IsWord w
  one_word [] h = absurd h
  one_word (b ∷ bs) h = record { some = omega arith; plain = lacks_space (b ∷ bs) (both _ _ h.0 h.1) }

  is_word : (v : ℕ) → v < length (words ds) → IsWord (word_at v)
  is_word v l = one_word (word_at v) (direct-is (outlines_of ds) (sound-all ds d.decls) (few-all ds d.few) (distinct-all ds d.distinct) (word_at v) v (denotes ds v d.decls d.few l)).whole

  pub are_words : (vs : List ℕ) → Declared vs → AllByRecursion IsWord (map word_at vs)
  are_words [] h = tt
  are_words (v ∷ vs) h = (is_word v h.0, are_words vs h.1)

  word_back : (v : ℕ) → v < length (words ds) → variables_of (outlines_of ds) (word_at v) ≡ v ∷ []
  word_back v l = one_denotation.same (outlines_of ds) (record { sound = sound-all ds d.decls; few = few-all ds d.few; distinct = distinct-all ds d.distinct }) (word_at v) v (denotes ds v d.decls d.few l)

  word_met : (v : ℕ) → v < length (words ds) → (k : Condition) → variable_meets (outlines_of ds) (word_at v) k ≡ true
  word_met v l k = met_at (variable_meets (outlines_of ds) (word_at v)) (one_denotation.met (outlines_of ds) (record { sound = sound-all ds d.decls; few = few-all ds d.few; distinct = distinct-all ds d.distinct }) (word_at v) v (denotes ds v d.decls d.few l)) k

  words_back : (vs : List ℕ) → Declared vs → flat_map (variables_of (outlines_of ds)) (map word_at vs) ≡ vs
  words_back [] h = refl
  words_back (v ∷ vs) h = ap (λ us. us ++ flat_map (variables_of (outlines_of ds)) (map word_at vs)) (word_back v h.0) ∙ ap (λ us. v ∷ us) (words_back vs h.1)

  words_met : (vs : List ℕ) → Declared vs → (k : Condition) → all_meet (variable_meets (outlines_of ds)) (map word_at vs) k ≡ true
  words_met [] h k = refl
  words_met (v ∷ vs) h k = both _ _ (word_met v h.0 k) (words_met vs h.1 k)

  pub list_back : (vs : List ℕ) → Declared vs → vars_of (outlines_of ds) (list_text (words ds) vs) ≡ vs
  list_back vs h = ap (flat_map (variables_of (outlines_of ds))) (spaced_words (map word_at vs) (are_words vs h)) ∙ words_back vs h

  pub counted : (count left : ℕ) → count ≤ left → (k : Condition) → count_meets count left k ≡ true
  counted count left h Known = refl
  counted count left h Nesting = refl
  counted count left h Spelling = refl
  counted count left h Magnitude = refl
  counted count left h Naming = refl
  counted count left h Counting = le-leb count left h
  counted count left h Fitting = refl

  pub fitted : (fits : Bool) → fits ≡ true → (k : Condition) → fitting_meets fits k ≡ true
  fitted fits h Known = refl
  fitted fits h Nesting = refl
  fitted fits h Spelling = refl
  fitted fits h Magnitude = refl
  fitted fits h Naming = refl
  fitted fits h Counting = refl
  fitted fits h Fitting = h

  pub list_met : (vs : List ℕ) → Declared vs → (left : ℕ) → length vs ≤ left → (k : Condition) → vars_meet (outlines_of ds) (list_text (words ds) vs) left k ≡ true
  list_met vs h left few k =
      both _ _ (ap (λ ws. all_meet (variable_meets (outlines_of ds)) ws k) (spaced_words (map word_at vs) (are_words vs h)) ∙ words_met vs h k)
      (ap (λ (us : List ℕ). count_meets (length us) left k) (list_back vs h) ∙ counted (length vs) left few k)

  -- a table of tuples
  long_is : (n : ℕ) (ts : List (List (Option ℤ))) → HaveLength n ts → list_all (λ t. nat_eq (length t) n) ts ≡ true
  long_is n [] h = refl
  long_is n (t ∷ ts) h = both _ _ (eq-eqb (length t) n h.0) (long_is n ts h.1)

  tuples_fitting : (vs : List ℕ) (ts : List (List (Option ℤ))) → 0 < length vs → HaveLength (length vs) ts → (nat_lt 0 (length vs) && list_all (λ t. nat_eq (length t) (length vs)) ts) ≡ true
  tuples_fitting vs ts some long = both _ _ (lt-ltb 0 (length vs) some) (long_is (length vs) ts long)

  tuple_table : (vs : List ℕ) (ts : List (List (Option ℤ))) → Declared vs → AllByRecursion IsTuple ts → 0 < length vs → HaveLength (length vs) ts → (left : ℕ) → length vs + total (map length ts) ≤ left
      → (k : Condition) → tuple_table_meets (outlines_of ds) left (list_text (words ds) vs) (tuples_text ts) k ≡ true
  tuple_table vs ts below are some long left few k =
      both _ _ (both _ _ (list_met vs below left (omega (arith, few)) k) (tuples_met ts are left (omega (arith, few)) k))
      (ap (λ (us : List ℕ). sizes_meet (length us + total (map length (tuples_of (tuples_text ts)))) left (nat_lt 0 (length us) && list_all (λ t. nat_eq (length t) (length us)) (tuples_of (tuples_text ts))) k) (list_back vs below)
      ∙ ap (λ (us : List (List (Option ℤ))). sizes_meet (length vs + total (map length us)) left (nat_lt 0 (length vs) && list_all (λ t. nat_eq (length t) (length vs)) us) k) (tuples_back ts are)
      ∙ both _ _ (counted (length vs + total (map length ts)) left few k) (fitted _ (tuples_fitting vs ts some long) k))

  -- ranges
  abbrev IsPiece : Bounds → Type 0
  IsPiece b = (b.lo ≤ℤ b.hi) × (IsSmall b.lo × IsSmall b.hi)

  no_dot : (z : ℤ) → IsSmall z → Lacks (is_byte 46) (signed_decimal z)
  no_dot z h = integer-bytes (λ b. not (is_byte 46 b)) refl refl (λ c l g. ap not (ne_eqb c 46 (λ e. omega (arith, l, e)))) (signed_decimal z) (decimal-spells z h).0

  piece_back : (b : Bounds) → IsPiece b → piece_of (range_text b) ≡ Some b
  piece_back b h = by (int_eq b.lo b.hi) refl
    where
      by : (v : Bool) → int_eq b.lo b.hi ≡ v → piece_of (if v then signed_decimal b.lo else signed_decimal b.lo ++ (codes ".." ++ signed_decimal b.hi)) ≡ Some b
      by true e =
          let same : b.lo ≡ b.hi = (Decides-int_eq b.lo b.hi).0 e in
          ap piece_in (whole (is_byte 46) (signed_decimal b.lo) (no_dot b.lo h.1.0)) ∙ ap (option_map point) (read_integer b.lo h.1.0) ∙ ap (λ z. Some (record { lo = b.lo; hi = z })) same
      by false e =
          let one : int_le b.lo b.hi ≡ true = search (rules, ints, h.0) in
          ap piece_in (split (is_byte 46) 46 (signed_decimal b.lo) (46 ∷ signed_decimal b.hi) refl (no_dot b.lo h.1.0) ∙ ap (λ ps. signed_decimal b.lo ∷ [] ∷ ps) (whole (is_byte 46) (signed_decimal b.hi) (no_dot b.hi h.1.1)))
          ∙ ap (λ o. range_of o (integer_of (signed_decimal b.hi))) (read_integer b.lo h.1.0) ∙ ap (λ o. range_of (Some b.lo) o) (read_integer b.hi h.1.1)
          ∙ ap (λ (v : Bool). if v then Some (record { lo = b.lo; hi = b.hi }) else None) one

  ends_small : (b : Bounds) → IsPiece b → has_small_ends b ≡ true
  ends_small b h = both _ _ (small_is b.lo h.1.0) (small_is b.hi h.1.1)

  in_word_more : (p q : List ℕ) → list_all is_in_word p ≡ true → list_all is_in_word q ≡ true → list_all is_in_word (p ++ q) ≡ true
  in_word_more [] q h g = g
  in_word_more (b ∷ bs) q h g = both _ _ (and_left _ _ h) (in_word_more bs q (and_right _ _ h) g)

  longer : (p q : List ℕ) → 0 < length p → 0 < length (p ++ q)
  longer [] q h = absurd (omega (arith, h))
  longer (b ∷ bs) q h = omega arith

  range_bytes : (b : Bounds) → IsPiece b → list_all is_in_word (range_text b) ≡ true
  range_bytes b h = by (int_eq b.lo b.hi)
    where
      by : (v : Bool) → list_all is_in_word (if v then signed_decimal b.lo else signed_decimal b.lo ++ (codes ".." ++ signed_decimal b.hi)) ≡ true
      by true = integer_word b.lo h.1.0
      by false = in_word_more (signed_decimal b.lo) (codes ".." ++ signed_decimal b.hi) (integer_word b.lo h.1.0) (integer_word b.hi h.1.1)

  range_some : (b : Bounds) → IsPiece b → 0 < length (range_text b)
  range_some b h = by (int_eq b.lo b.hi)
    where
      some : 0 < length (signed_decimal b.lo)
      some = integer-some (signed_decimal b.lo) (decimal-spells b.lo h.1.0).0

      by : (v : Bool) → 0 < length (if v then signed_decimal b.lo else signed_decimal b.lo ++ (codes ".." ++ signed_decimal b.hi))
      by true = some
      by false = longer (signed_decimal b.lo) (codes ".." ++ signed_decimal b.hi) some

  range_words : (bs : List Bounds) → AllByRecursion IsPiece bs → AllByRecursion IsWord (map range_text bs)
  range_words [] h = tt
  range_words (b ∷ bs) h = (word_of_bytes (range_text b) (range_some b h.0) (range_bytes b h.0), range_words bs h.1)

  pieces_back : (bs : List Bounds) → AllByRecursion IsPiece bs → flat_map pieces_in (map range_text bs) ≡ bs
  pieces_back [] h = refl
  pieces_back (b ∷ bs) h =
      ap (λ ps. ps ++ flat_map pieces_in (map range_text bs))
      (ap (λ o. piece_list (judged has_small_ends o)) (piece_back b h.0) ∙ ap (λ (v : Bool). piece_list (if v then Ok b else Err Magnitude)) (ends_small b h.0))
      ∙ ap (λ ps. b ∷ ps) (pieces_back bs h.1)

  pieces_met : (bs : List Bounds) → AllByRecursion IsPiece bs → (k : Condition) → all_meet piece_meets (map range_text bs) k ≡ true
  pieces_met [] h k = refl
  pieces_met (b ∷ bs) h k = both _ _ (ap (λ o. meets has_small_ends o k) (piece_back b h.0) ∙ right has_small_ends b (ends_small b h.0) k) (pieces_met bs h.1 k)

  ranges_back : (bs : List Bounds) → AllByRecursion IsPiece bs → pieces_of (ranges_text bs) ≡ bs
  ranges_back bs h = ap (flat_map pieces_in) (spaced_words (map range_text bs) (range_words bs h)) ∙ pieces_back bs h

  range_table : (vs : List ℕ) (bs : List Bounds) → Declared vs → AllByRecursion IsPiece bs → (left : ℕ) → length vs + 2 * length bs ≤ left → (nat_lt 0 (length vs) && (nat_eq (length vs) 1 || nat_eq (length bs) 0)) ≡ true
      → (k : Condition) → range_table_meets (outlines_of ds) left (list_text (words ds) vs) (ranges_text bs) k ≡ true
  range_table vs bs below are left few fits k =
      both _ _ (both _ _ (list_met vs below left (omega (arith, few)) k) (ap (λ ws. all_meet piece_meets ws k) (spaced_words (map range_text bs) (range_words bs are)) ∙ pieces_met bs are k))
      (ap (λ (us : List ℕ). sizes_meet (length us + 2 * length (pieces_of (ranges_text bs))) left (nat_lt 0 (length us) && (nat_eq (length us) 1 || nat_eq (length (pieces_of (ranges_text bs))) 0)) k) (list_back vs below)
      ∙ ap (λ (us : List Bounds). sizes_meet (length vs + 2 * length us) left (nat_lt 0 (length vs) && (nat_eq (length vs) 1 || nat_eq (length us) 0)) k) (ranges_back bs are)
      ∙ both _ _ (counted (length vs + 2 * length bs) left few k) (fitted _ fits k))

  no_bracket : (t more : List ℕ) → 0 < length t → list_all is_in_word t ≡ true → inner_of (t ++ more) ≡ None
  no_bracket [] more some h = absurd (omega (arith, some))
  no_bracket (b ∷ bs) more some h = by (is_space b) (nat_eq b 40) (nat_eq b 41) (nat_eq b 44) (and_left _ _ h)
    where
      by : (s a x c : Bool) → (not s && not (a || x || c)) ≡ true → (if s then inner_of (bs ++ more) else (if a then Some (bs ++ more) else None)) ≡ None
      by true a x c h = cc
      by false true x c h = cc
      by false false x c h = refl

  not_tuples : (bs : List Bounds) → AllByRecursion IsPiece bs → inner_of (ranges_text bs) ≡ None
  not_tuples [] h = refl
  not_tuples (b ∷ bs) h =
      ap inner_of (append_assoc (range_text b) (codes " ") (flat_map (λ w. w ++ codes " ") (map range_text bs)))
      ∙ no_bracket (range_text b) (32 ∷ flat_map (λ w. w ++ codes " ") (map range_text bs)) (range_some b h.0) (range_bytes b h.0)

  -- by which of the two a text is read
  as_tuples : (list text : List ℕ) (left : ℕ) (positive : Bool) (c : Constraint) → are_tuples text ≡ true → ((k : Condition) → tuple_table_meets (outlines_of ds) left list text k ≡ true) → (k : Condition) → table_meets (outlines_of ds) left list text k ≡ true
  as_tuples list text left positive c are h k = ap (λ (v : Bool). if v then tuple_table_meets (outlines_of ds) left list text k else range_table_meets (outlines_of ds) left list text k) are ∙ h k

  as_ranges : (list text : List ℕ) (left : ℕ) → are_tuples text ≡ false → ((k : Condition) → range_table_meets (outlines_of ds) left list text k ≡ true) → (k : Condition) → table_meets (outlines_of ds) left list text k ≡ true
  as_ranges list text left are h k = ap (λ (v : Bool). if v then tuple_table_meets (outlines_of ds) left list text k else range_table_meets (outlines_of ds) left list text k) are ∙ h k

  made_tuples : (list text : List ℕ) (positive : Bool) → are_tuples text ≡ true → table_of (outlines_of ds) list text positive ≡ Extension (vars_of (outlines_of ds) list) (tuples_of text) positive
  made_tuples list text positive are = ap (λ (v : Bool). if v then Extension (vars_of (outlines_of ds) list) (tuples_of text) positive else ranged positive (vars_of (outlines_of ds) list) (pieces_of text)) are

  made_ranges : (list text : List ℕ) (positive : Bool) → are_tuples text ≡ false → table_of (outlines_of ds) list text positive ≡ ranged positive (vars_of (outlines_of ds) list) (pieces_of text)
  made_ranges list text positive are = ap (λ (v : Bool). if v then Extension (vars_of (outlines_of ds) list) (tuples_of text) positive else ranged positive (vars_of (outlines_of ds) list) (pieces_of text)) are

  -- tuples of the shape of the form
  small_entries : (n : ℕ) (t : List (Option ℤ)) → AllByRecursion (IsFormedItem n) (map entry_item t) → AreSmall t
  small_entries n [] h = tt
  small_entries n (None ∷ t) h = (tt, small_entries n t h.1)
  small_entries n (Some z ∷ t) h = (h.0, small_entries n t h.1)

  are_tuples_of : (n m : ℕ) (ts : List (List (Option ℤ))) → 0 < m → HaveLength m ts → AllByRecursion (IsFormedField n) (map entries ts) → AllByRecursion IsTuple ts
  are_tuples_of n m [] some long h = tt
  are_tuples_of n m (t ∷ ts) some long h = ((omega (arith, some, long.0), small_entries n t h.0), are_tuples_of n m ts some long.1 h.1)

  are_pieces : (n : ℕ) (bs : List Bounds) → AllByRecursion IsRange bs → AllByRecursion (IsFormedItem n) (flat_map end_items bs) → AllByRecursion IsPiece bs
  are_pieces n [] r h = tt
  are_pieces n (b ∷ bs) r h = ((r.0, (h.0, h.1.0)), are_pieces n bs r.1 h.1.1)

  entry_counts : (ts : List (List (Option ℤ))) → total (map count_of (map entries ts)) ≡ total (map length ts)
  entry_counts [] = refl
  entry_counts (t ∷ ts) = omega (arith, length-map t entry_item, entry_counts ts)

  end_counts : (bs : List Bounds) → length (flat_map end_items bs) ≡ 2 * length bs
  end_counts [] = refl
  end_counts (b ∷ bs) = omega (arith, end_counts bs)

  of_many : (vs : List ℕ) (positive : Bool) → 0 < length vs → (length vs ≡ 1 → ⊥) → ranged positive vs [] ≡ Extension vs [] positive
  of_many [] positive some one = absurd (omega (arith, some))
  of_many (v ∷ []) positive some one = absurd (one refl)
  of_many (v ∷ w ∷ vs) positive some one = refl

  pub extension_again : (vs : List ℕ) (ts : List (List (Option ℤ))) (positive : Bool) → IsFormed (length (words ds)) (Extension vs ts positive) → AreReadAgain ds (Extension vs ts positive)
  extension_again vs [] positive h =
      let below = table_below (length (words ds)) vs [] positive h in
      record {
        meets = λ left few. all_met (table_meets (outlines_of ds) left (list_text (words ds) vs) (tuples_text []))
            (as_ranges (list_text (words ds) vs) (tuples_text []) left refl (range_table vs [] below tt left (omega (arith, few, length-map vs Variable)) (both _ _ (lt-ltb 0 (length vs) h.fitting.0) (or_true (nat_eq (length vs) 1)))));
        same =
            made_ranges (list_text (words ds) vs) (tuples_text []) positive refl
            ∙ ap (λ us. ranged positive us []) (list_back vs below) ∙ of_many vs positive h.fitting.0 (λ one. omega (arith, h.fitting.2 one));
      }
    where
      or_true : (v : Bool) → (v || true) ≡ true
      or_true true = refl
      or_true false = refl
  extension_again vs (t ∷ ts) positive h =
      let below = table_below (length (words ds)) vs (t ∷ ts) positive h in
      let are : AllByRecursion IsTuple (t ∷ ts) = are_tuples_of (length (words ds)) (length vs) (t ∷ ts) h.fitting.0 h.fitting.1 h.fields.1 in
      let tuples : are_tuples (tuples_text (t ∷ ts)) ≡ true = ap is_some (some_inner (inside t) (map tuple_text ts)) in
      record {
        meets = λ left few. all_met (table_meets (outlines_of ds) left (list_text (words ds) vs) (tuples_text (t ∷ ts)))
            (as_tuples (list_text (words ds) vs) (tuples_text (t ∷ ts)) left positive (Extension vs (t ∷ ts) positive) tuples
            (tuple_table vs (t ∷ ts) below are h.fitting.0 h.fitting.1 left (omega (arith, few, length-map vs Variable, entry_counts (t ∷ ts)))));
        same =
            made_tuples (list_text (words ds) vs) (tuples_text (t ∷ ts)) positive tuples
            ∙ ap (λ us. Extension us (tuples_of (tuples_text (t ∷ ts))) positive) (list_back vs below) ∙ ap (λ us. Extension vs us positive) (tuples_back (t ∷ ts) are);
      }

  pub unary_again : (v : ℕ) (bs : List Bounds) (positive : Bool) → IsFormed (length (words ds)) (Unary v bs positive) → AreReadAgain ds (Unary v bs positive)
  unary_again v bs positive h =
      let below : Declared (v ∷ []) = h.fields.0 in
      let are : AllByRecursion IsPiece bs = are_pieces (length (words ds)) bs h.fitting h.fields.1.0 in
      let ranges : are_tuples (ranges_text bs) ≡ false = ap is_some (not_tuples bs are) in
      record {
        meets = λ left few. all_met (table_meets (outlines_of ds) left (list_text (words ds) (v ∷ [])) (ranges_text bs))
            (as_ranges (list_text (words ds) (v ∷ [])) (ranges_text bs) left ranges (range_table (v ∷ []) bs below are left (omega (arith, few, end_counts bs)) refl));
        same =
            made_ranges (list_text (words ds) (v ∷ [])) (ranges_text bs) positive ranges
            ∙ ap (λ us. ranged positive us (pieces_of (ranges_text bs))) (list_back (v ∷ []) below) ∙ ap (λ us. Unary v us positive) (ranges_back bs are);
      }
