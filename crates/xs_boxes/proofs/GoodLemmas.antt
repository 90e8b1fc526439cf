-- Boxes that miss nothing are well formed over declared variables, of one number of dimensions, and have no more items than are
-- left.
use Rattle.std.proofs.Common.{◌≡◌, ℕ, zero, suc, ◌+◌, ◌<◌, ◌≤◌, ℤ, nat_abs, Bool, true, false, ◌&&◌, nat_eq, nat_le, if◌then◌else◌, List, [], ◌∷◌, ◌++◌, length, map, replicate, Option, None, Some, Ok, Err, refl, ap, ap₂, sym, ◌∙◌, subst, arith}
use Rattle.std.specs.List.{AllByRecursion, flat_map, list_all}
use Rattle.std.proofs.lemmas.Bool.{eqb-true}
use Rattle.std.proofs.lemmas.List.{length-map}
use borrow.Author.Tests.{leb-true}
use Rattle.xs_boxes.specs.Boxes.{are_even, boxes_meet, is_tupled, lists_meet, one_each, rows_meet, tuples_meet, widths_of}
use Rattle.xs_boxes.specs.NoOverlap.{given_denote, given_meet, is_zero_ignored, no_overlap_meets, no_overlap_of, texts_in}
use Rattle.xs_boxes.specs.Tuples.{entries_of, inside_meets, length_of, origin_of, tuple_meets, width_of, words_inside}
use Rattle.xs_conditions.specs.Single.{direct_meets, direct_of, single_meets, single_of}
use Rattle.xs_conditions.proofs.DirectLemmas.{direct_below}
use Rattle.xs_conditions.proofs.FormedLemmas.{single_formed}
use Rattle.xs_fields.specs.Cells.{variables_of, vars_of}
use Rattle.xs_fields.specs.Conditions.{all_meet, first_missed, judged}
use Rattle.xs_fields.specs.Integers.{is_small}
use Rattle.xs_fields.specs.Lists.{is_small_run, members_in, members_of, run_of}
use Rattle.xs_fields.specs.Terms.{is_run, terms_of, word_terms}
use Rattle.xs_fields.specs.Words.{is_byte, parts, words_of}
use Rattle.xs_fields.specs.declared.condition.Condition.{Condition}
use Rattle.xs_fields.specs.declared.condition.Condition.TheVariants.{Counting, Fitting, Magnitude, Spelling}
use Rattle.xs_fields.specs.declared.runs.Run.{Run}
use Rattle.xs_fields.proofs.FirstLemmas.{all_met, met_at}
use Rattle.xs_fields.proofs.IntegerLemmas.{and_left, and_right}
use Rattle.xs_model.specs.Accepted.{IsFormed}
use Rattle.xs_model.specs.Fields.{Field, Variable, item_of, members, terms}
use Rattle.xs_model.specs.Fitting.{AreBoxes, HaveLength, IsNotEmpty}
use Rattle.xs_model.specs.Formed.{IsFormedField, count_of, items_of, total}
use Rattle.xs_model.specs.Outline.{Outline, variables_in}
use Rattle.xs_model.specs.Sound.{magnitudes}
use Rattle.xs_model.specs.declared.concrete.Concrete.{Concrete}
use Rattle.xs_model.specs.declared.instance.Constraint.{Constraint}
use Rattle.xs_model.specs.declared.instance.Constraint.TheVariants.{NoOverlap}
use Rattle.xs_model.specs.declared.term.Term.{Term}
use Rattle.xs_model.specs.declared.term.Term.TheVariants.{Int, Var}
use Rattle.xs_tables.specs.Groups.{groups_meet, groups_of, inner_of}
use Rattle.xs_tables.proofs.BelowLemmas.{vars_below}
use Rattle.xs_tables.proofs.FormedLemmas.{all_append}
use Rattle.xs_tables.proofs.GroupLemmas.{never}

-- what words meet, each by itself
first_met : (test : List ℕ → Condition → Bool) (w : List ℕ) (ws : List (List ℕ)) → ((k : Condition) → all_meet test (w ∷ ws) k ≡ true) → first_missed (test w) ≡ None
first_met test w ws met = all_met (test w) (λ k. and_left (test w k) (all_meet test ws k) (met k))

others_met : (test : List ℕ → Condition → Bool) (w : List ℕ) (ws : List (List ℕ)) → ((k : Condition) → all_meet test (w ∷ ws) k ≡ true) → (k : Condition) → all_meet test ws k ≡ true
others_met test w ws met k = and_right (test w k) (all_meet test ws k) (met k)

-- tuples
module _ (os : List Outline) where
  abbrev Formed : Field → Type 0
  Formed f = IsFormedField (variables_in os) f

  directs_formed : (ws : List (List ℕ)) → ((k : Condition) → all_meet (direct_meets os) ws k ≡ true) → Formed (members (map (direct_of os) ws))
  directs_formed [] met = tt
  directs_formed (w ∷ ws) met = (direct_below os w (first_met (direct_meets os) w ws met), directs_formed ws (others_met (direct_meets os) w ws met))

  singles_formed : (ws : List (List ℕ)) → ((k : Condition) → all_meet (single_meets os) ws k ≡ true) → Formed (terms (map (single_of os) ws))
  singles_formed [] met = tt
  singles_formed (w ∷ ws) met = (single_formed os w (first_met (single_meets os) w ws met), singles_formed ws (others_met (single_meets os) w ws met))

  origin_formed : (o : Option (List ℕ)) → ((k : Condition) → inside_meets (direct_meets os) o k ≡ true) → Formed (members (map (direct_of os) (words_inside o)))
  origin_formed None met = tt
  origin_formed (Some inner) met = directs_formed (parts (is_byte 44) inner) met

  length_formed : (o : Option (List ℕ)) → ((k : Condition) → inside_meets (single_meets os) o k ≡ true) → Formed (terms (map (single_of os) (words_inside o)))
  length_formed None met = tt
  length_formed (Some inner) met = singles_formed (parts (is_byte 44) inner) met

  origins_formed : (gs : List (List ℕ)) → ((k : Condition) → all_meet (tuple_meets (direct_meets os)) gs k ≡ true) → AllByRecursion Formed (map members (map (origin_of os) gs))
  origins_formed [] met = tt
  origins_formed (g ∷ gs) met =
      (origin_formed (inner_of g) (λ k. and_left (tuple_meets (direct_meets os) g k) (all_meet (tuple_meets (direct_meets os)) gs k) (met k)), origins_formed gs (others_met (tuple_meets (direct_meets os)) g gs met))

  lengths_formed : (gs : List (List ℕ)) → ((k : Condition) → all_meet (tuple_meets (single_meets os)) gs k ≡ true) → AllByRecursion Formed (map terms (map (length_of os) gs))
  lengths_formed [] met = tt
  lengths_formed (g ∷ gs) met =
      (length_formed (inner_of g) (λ k. and_left (tuple_meets (single_meets os) g k) (all_meet (tuple_meets (single_meets os)) gs k) (met k)), lengths_formed gs (others_met (tuple_meets (single_meets os)) g gs met))

-- a tuple that is spelt right has an entry
row_filled : {A : Type 0} (test : List ℕ → Condition → Bool) (f : List ℕ → A) (o : Option (List ℕ)) → inside_meets test o Spelling ≡ true → IsNotEmpty (map f (words_inside o))
row_filled test f None h = cc
row_filled test f (Some inner) h = by (parts (is_byte 44) inner) refl
  where
    by : (ps : List (List ℕ)) → parts (is_byte 44) inner ≡ ps → IsNotEmpty (map f ps)
    by [] e = absurd (never (is_byte 44) inner e)
    by (p ∷ ps) e = omega arith

rows_filled : {A : Type 0} (test : List ℕ → Condition → Bool) (f : List ℕ → A) (gs : List (List ℕ)) → all_meet (tuple_meets test) gs Spelling ≡ true → AllByRecursion IsNotEmpty (map (λ g. map f (entries_of g)) gs)
rows_filled test f [] h = tt
rows_filled test f (g ∷ gs) h = (row_filled test f (inner_of g) (and_left _ _ h), rows_filled test f gs (and_right (tuple_meets test g Spelling) _ h))

row_widths : {A : Type 0} (f : List ℕ → A) (gs : List (List ℕ)) → map length (map (λ g. map f (entries_of g)) gs) ≡ map width_of gs
row_widths f [] = refl
row_widths f (g ∷ gs) = ap₂ (λ (n : ℕ) (ns : List ℕ). n ∷ ns) (length-map (entries_of g) f) (row_widths f gs)

-- lists
copies_formed : (n : ℕ) (z : ℤ) → is_small z ≡ true → (k : ℕ) → AllByRecursion (IsFormedField n) (map terms (one_each (map Int (replicate k z))))
copies_formed n z small zero = tt
copies_formed n z small (suc k) = ((leb-true (nat_abs z) magnitudes small, tt), copies_formed n z small k)

run_formed : (n : ℕ) (o : Option Run) → AllByRecursion (IsFormedField n) (map terms (one_each (map Int (members_in (judged is_small_run o)))))
run_formed n None = tt
run_formed n (Some r) = by (is_small r.value) (is_small r.times) refl
  where
    by : (v w : Bool) → is_small r.value ≡ v → AllByRecursion (IsFormedField n) (map terms (one_each (map Int (members_in (if v && w then Ok r else Err Magnitude)))))
    by true true e = copies_formed n r.value e (nat_abs r.times)
    by true false e = tt
    by false w e = tt

each_variable : (n : ℕ) (vs : List ℕ) → AllByRecursion (λ v. v < n) vs → AllByRecursion (IsFormedField n) (map members (one_each vs))
each_variable n [] h = tt
each_variable n (v ∷ vs) h = ((h.0, tt), each_variable n vs h.1)

each_term : (n : ℕ) (vs : List ℕ) → AllByRecursion (λ v. v < n) vs → AllByRecursion (IsFormedField n) (map terms (one_each (map Var vs)))
each_term n [] h = tt
each_term n (v ∷ vs) h = ((h.0, tt), each_term n vs h.1)

pub front : {A : Type 0} (P : A → Type 0) (xs ys : List A) → AllByRecursion P (xs ++ ys) → AllByRecursion P xs
front P [] ys h = tt
front P (x ∷ xs) ys h = (h.0, front P xs ys h.1)

pub behind : {A : Type 0} (P : A → Type 0) (xs ys : List A) → AllByRecursion P (xs ++ ys) → AllByRecursion P ys
behind P [] ys h = h
behind P (x ∷ xs) ys h = behind P xs ys h.1

word_formed : (os : List Outline) (w : List ℕ) → AllByRecursion (λ v. v < variables_in os) (variables_of os w) → AllByRecursion (IsFormedField (variables_in os)) (map terms (one_each (word_terms os w)))
word_formed os w h = by (is_run w)
  where
    by : (v : Bool) → AllByRecursion (IsFormedField (variables_in os)) (map terms (one_each (if v then map Int (members_of w) else map Var (variables_of os w))))
    by true = run_formed (variables_in os) (run_of w)
    by false = each_term (variables_in os) (variables_of os w) h

more_formed : (n : ℕ) (xs ys : List Term) → AllByRecursion (IsFormedField n) (map terms (one_each xs)) → AllByRecursion (IsFormedField n) (map terms (one_each ys)) → AllByRecursion (IsFormedField n) (map terms (one_each (xs ++ ys)))
more_formed n [] ys h g = g
more_formed n (x ∷ xs) ys h g = (h.0, more_formed n xs ys h.1 g)

words_formed : (os : List Outline) (ws : List (List ℕ)) → AllByRecursion (λ v. v < variables_in os) (flat_map (variables_of os) ws) → AllByRecursion (IsFormedField (variables_in os)) (map terms (one_each (flat_map (word_terms os) ws)))
words_formed os [] h = tt
words_formed os (w ∷ ws) h =
    more_formed (variables_in os) (word_terms os w) (flat_map (word_terms os) ws)
    (word_formed os w (front (λ v. v < variables_in os) (variables_of os w) (flat_map (variables_of os) ws) h))
    (words_formed os ws (behind (λ v. v < variables_in os) (variables_of os w) (flat_map (variables_of os) ws) h))

each_filled : {A : Type 0} (xs : List A) → AllByRecursion IsNotEmpty (one_each xs)
each_filled [] = tt
each_filled (x ∷ xs) = (omega arith, each_filled xs)

-- all are this number
abbrev pub AllAre : ℕ → List ℕ → Type 0
AllAre n ns = list_all (nat_eq n) ns ≡ true

each_one : {A : Type 0} (xs : List A) → AllAre 1 (map length (one_each xs))
each_one [] = refl
each_one (x ∷ xs) = each_one xs

pub more_are : (n : ℕ) (ns ms : List ℕ) → AllAre n ns → AllAre n ms → AllAre n (ns ++ ms)
more_are n [] ms h g = g
more_are n (m ∷ ns) ms h g = ap (λ v. v && list_all (nat_eq n) (ns ++ ms)) (and_left _ _ h) ∙ more_are n ns ms (and_right (nat_eq n m) _ h) g

pub same_even : (n : ℕ) (ns : List ℕ) → AllAre n ns → are_even ns ≡ true
same_even n [] h = refl
same_even n (m ∷ ns) h =
    let same : n ≡ m = eqb-true n m (and_left _ _ h) in
    subst (λ x. list_all (nat_eq x) ns ≡ true) same (and_right (nat_eq n m) _ h)

-- rows of one length
long_rows : {A : Type 0} (n : ℕ) (rows : List (List A)) → list_all (nat_eq n) (map length rows) ≡ true → HaveLength n rows
long_rows n [] h = tt
long_rows n (r ∷ rs) h = (sym (eqb-true n (length r) (and_left _ _ h)), long_rows n rs (and_right (nat_eq n (length r)) _ h))

first_long : (n : ℕ) (ns ms : List ℕ) → list_all (nat_eq n) (ns ++ ms) ≡ true → list_all (nat_eq n) ns ≡ true
first_long n [] ms h = refl
first_long n (m ∷ ns) ms h = ap (λ v. v && list_all (nat_eq n) ns) (and_left _ _ h) ∙ first_long n ns ms (and_right (nat_eq n m) _ h)

second_long : (n : ℕ) (ns ms : List ℕ) → list_all (nat_eq n) (ns ++ ms) ≡ true → list_all (nat_eq n) ms ≡ true
second_long n [] ms h = h
second_long n (m ∷ ns) ms h = second_long n ns ms (and_right (nat_eq n m) _ h)

even_boxes : {A B : Type 0} (xs : List (List A)) (ys : List (List B)) → are_even (map length xs ++ map length ys) ≡ true → length ys ≡ length xs
    → AllByRecursion IsNotEmpty xs → AllByRecursion IsNotEmpty ys → AreBoxes xs ys
even_boxes [] [] even many f g = record { of_origins = record { even = tt; filled = tt }; of_lengths = record { even = tt; filled = tt }; as_many = refl; as_wide = refl }
even_boxes [] (y ∷ ys) even many f g = absurd (omega (arith, many))
even_boxes (x ∷ xs) [] even many f g = absurd (omega (arith, many))
even_boxes (x ∷ xs) (y ∷ ys) even many f g =
    let n : ℕ = length x in
    let firsts : HaveLength n xs = long_rows n xs (first_long n (map length xs) (map length (y ∷ ys)) even) in
    let seconds : HaveLength n (y ∷ ys) = long_rows n (y ∷ ys) (second_long n (map length xs) (map length (y ∷ ys)) even) in
    record {
      of_origins = record { even = (refl, firsts); filled = f };
      of_lengths = record { even = subst (λ m. HaveLength m (y ∷ ys)) (sym seconds.0) seconds; filled = g };
      as_many = many;
      as_wide = seconds.0;
    }

-- counts
origin_counts : (rows : List (List ℕ)) (fs : List Field) → total (map count_of (map members rows ++ fs)) ≡ total (map length rows) + total (map count_of fs)
origin_counts [] fs = omega arith
origin_counts (r ∷ rs) fs = omega (arith, length-map r Variable, origin_counts rs fs)

length_counts : (rows : List (List Term)) → total (map count_of (map terms rows)) ≡ total (map length rows)
length_counts [] = refl
length_counts (r ∷ rs) = omega (arith, length-map r item_of, length_counts rs)

abbrev IsGood : List Outline → ℕ → Constraint → Type 0
IsGood os left x = IsFormed (variables_in os) x × (items_of x ≤ left)

module _ (os : List Outline) (left : ℕ) (z : Bool) where
  rows_good : (xs : List (List ℕ)) (ys : List (List Term)) → AllByRecursion (IsFormedField (variables_in os)) (map members xs) → AllByRecursion (IsFormedField (variables_in os)) (map terms ys)
      → are_even (map length xs ++ map length ys) ≡ true → AllByRecursion IsNotEmpty xs → AllByRecursion IsNotEmpty ys → ((k : Condition) → rows_meet left xs ys k ≡ true) → IsGood os left (NoOverlap xs ys z)
  rows_good xs ys f g even first second met =
      let few : total (map length xs) + total (map length ys) ≤ left = leb-true _ _ (and_left (nat_le (total (map length xs) + total (map length ys)) left) true (met Counting)) in (
        record {
          fields = all_append (IsFormedField (variables_in os)) (map members xs) (map terms ys) f g;
          fitting = even_boxes xs ys even (eqb-true _ _ (met Fitting)) first second;
        },
        omega (arith, few, origin_counts xs (map terms ys), length_counts ys),
      )

  boxes_good : (a b : List ℕ) → first_missed (boxes_meet os left a b) ≡ None → IsGood os left (given_denote os z (Some (a, b)))
  boxes_good a b h = by (is_tupled a b) (met_at (boxes_meet os left a b) h)
    where
      by : (v : Bool)
          → ((k : Condition) → ((if v then tuples_meet os left a b k else lists_meet os left a b k) && rows_meet left (if v then map (origin_of os) (groups_of a) else one_each (vars_of os a)) (if v then map (length_of os) (groups_of b) else one_each (terms_of os b)) k) ≡ true)
          → IsGood os left (NoOverlap (if v then map (origin_of os) (groups_of a) else one_each (vars_of os a)) (if v then map (length_of os) (groups_of b) else one_each (terms_of os b)) z)
      by true met =
          let first = groups_meet (tuple_meets (direct_meets os)) (origin_of os) a left in
          let second = groups_meet (tuple_meets (single_meets os)) (length_of os) b left in
          let told = λ (k : Condition). and_left (tuples_meet os left a b k) (rows_meet left (map (origin_of os) (groups_of a)) (map (length_of os) (groups_of b)) k) (met k) in
          let firsts = λ (k : Condition). and_left (all_meet (tuple_meets (direct_meets os)) (groups_of a) k) _ (and_left _ _ (and_left (first k) (second k) (and_right _ (first k && second k) (told k)))) in
          let seconds = λ (k : Condition). and_left (all_meet (tuple_meets (single_meets os)) (groups_of b) k) _ (and_left _ _ (and_right (first k) (second k) (and_right _ (first k && second k) (told k)))) in
          let even : are_even (widths_of a ++ widths_of b) ≡ true = and_left _ (first Spelling && second Spelling) (told Spelling) in
          rows_good (map (origin_of os) (groups_of a)) (map (length_of os) (groups_of b)) (origins_formed os (groups_of a) firsts) (lengths_formed os (groups_of b) seconds)
          (ap₂ (λ (ns ms : List ℕ). are_even (ns ++ ms)) (row_widths (direct_of os) (groups_of a)) (row_widths (single_of os) (groups_of b)) ∙ even)
          (rows_filled (direct_meets os) (direct_of os) (groups_of a) (firsts Spelling)) (rows_filled (single_meets os) (single_of os) (groups_of b) (seconds Spelling))
          (λ k. and_right (tuples_meet os left a b k) (rows_meet left (map (origin_of os) (groups_of a)) (map (length_of os) (groups_of b)) k) (met k))
      by false met =
          rows_good (one_each (vars_of os a)) (one_each (terms_of os b)) (each_variable (variables_in os) (vars_of os a) (vars_below os a)) (words_formed os (words_of b) (vars_below os b))
          (same_even 1 (map length (one_each (vars_of os a)) ++ map length (one_each (terms_of os b))) (more_are 1 (map length (one_each (vars_of os a))) (map length (one_each (terms_of os b))) (each_one (vars_of os a)) (each_one (terms_of os b))))
          (each_filled (vars_of os a)) (each_filled (terms_of os b))
          (λ k. and_right (lists_meet os left a b k) (rows_meet left (one_each (vars_of os a)) (one_each (terms_of os b)) k) (met k))

given_good : (os : List Outline) (left : ℕ) (z : Bool) (o : Option (List ℕ × List ℕ)) → first_missed (given_meet os left o) ≡ None → IsGood os left (given_denote os z o)
given_good os left z None h = cc
given_good os left z (Some t) h = boxes_good os left z t.0 t.1 h

pub no_overlap_good : (os : List Outline) (left : ℕ) (c : Concrete) → first_missed (no_overlap_meets os left c) ≡ None → IsGood os left (no_overlap_of os c)
no_overlap_good os left c h = given_good os left (is_zero_ignored c) (texts_in c.parts) h
