-- What is written of boxes meets all conditions but the limits on what is read, and denotes them again.
use Rattle.std.proofs.Common.{◌≡◌, ℕ, ◌+◌, ◌<◌, ◌≤◌, Bool, true, false, ◌&&◌, ◌||◌, nat_eq, nat_le, if◌then◌else◌, List, [], ◌∷◌, ◌++◌, length, map, is_some, Option, refl, ap, ap₂, sym, ◌∙◌, subst, append-nil, arith}
use Rattle.std.specs.List.{AllByRecursion, flat_map}
use Rattle.std.proofs.lemmas.Bool.{eq-eqb}
use Rattle.std.proofs.lemmas.List.{length-map}
use borrow.Author.Tests.{leb-true}
use Rattle.xs_boxes.specs.Boxes.{are_even, boxes_meet, is_tupled, lengths_of, lists_meet, one_each, origins_of, rows_meet, texts_meet, tuples_meet, widths_of}
use Rattle.xs_boxes.specs.Law.{IsReadAgain, WrittenAgain, is_limit}
use Rattle.xs_boxes.specs.NoOverlap.{is_zero_ignored}
use Rattle.xs_boxes.specs.Tuples.{length_of, origin_of, tuple_meets}
use Rattle.xs_boxes.specs.Written.{box_word, element_of, is_flat, length_word, lengths_text, origin_word, origins_text, term_word, word_at}
use Rattle.xs_boxes.proofs.GoodLemmas.{AllAre, behind, front, more_are, same_even}
use Rattle.xs_boxes.proofs.TextsLemmas.{IsRow, are_heads, begins_tupled, heads, list_back, not_tupled, tuple_widths, tuples_back, tuples_end, tuples_met, tuples_text}
use Rattle.xs_boxes.proofs.WordLemmas.{IsText, direct_back, direct_met, is_text, single_back, single_met, term_back, term_is_text, term_met, word_back, word_met}
use Rattle.xs_conditions.specs.Single.{direct_meets, direct_of, single_meets, single_of}
use Rattle.xs_fields.specs.Cells.{variable_meets, variables_of, vars_meet, vars_of}
use Rattle.xs_fields.specs.Conditions.{all_meet}
use Rattle.xs_fields.specs.Lists.{count_meets}
use Rattle.xs_fields.specs.Terms.{term_meets, terms_meet, terms_of, word_terms}
use Rattle.xs_fields.specs.Words.{words_of}
use Rattle.xs_fields.specs.declared.condition.Condition.{Condition}
use Rattle.xs_fields.specs.declared.condition.Condition.TheVariants.{Known, Nesting, Spelling, Magnitude, Naming, Counting, Fitting}
use Rattle.xs_language.specs.Written.{spaced}
use Rattle.xs_language.proofs.CutLemmas.{both}
use Rattle.xs_language.proofs.WrittenLemmas.{spelt_true}
use Rattle.xs_model.proofs.FormLemmas.{below_of_items}
use Rattle.xs_model.specs.Accepted.{IsFormed}
use Rattle.xs_model.specs.Fields.{Field, item_of, members, terms}
use Rattle.xs_model.specs.Fitting.{AreBoxes, HaveLength, IsNotEmpty}
use Rattle.xs_model.specs.Formed.{IsFormedField, IsFormedItem, total}
use Rattle.xs_model.specs.Lists.{width}
use Rattle.xs_model.specs.Names.{words}
use Rattle.xs_model.specs.Outline.{Outline, outlines_of}
use Rattle.xs_model.specs.declared.decl.Decl.{Decl}
use Rattle.xs_model.specs.declared.instance.Constraint.TheVariants.{NoOverlap}
use Rattle.xs_model.specs.declared.term.Term.{Term}
use Rattle.xs_notation.specs.Law.{AreDeclared}
use Rattle.xs_tables.specs.Groups.{behind_of, groups_meet, groups_of, inner_of, is_blank, spelt_meets}
use Rattle.xs_tables.specs.Tables.{fitting_meets}

-- limits are not asked
counted : (count left : ℕ) (k : Condition) → is_limit k ≡ false → count_meets count left k ≡ true
counted count left Known h = refl
counted count left Nesting h = refl
counted count left Spelling h = refl
counted count left Magnitude h = refl
counted count left Naming h = refl
counted count left Counting h = cc
counted count left Fitting h = refl

fitted : (fits : Bool) → fits ≡ true → (k : Condition) → fitting_meets fits k ≡ true
fitted fits h Known = refl
fitted fits h Nesting = refl
fitted fits h Spelling = refl
fitted fits h Magnitude = refl
fitted fits h Naming = refl
fitted fits h Counting = refl
fitted fits h Fitting = h

rows_met : (left : ℕ) (xs : List (List ℕ)) (ys : List (List Term)) → length ys ≡ length xs → (k : Condition) → is_limit k ≡ false → rows_meet left xs ys k ≡ true
rows_met left xs ys many k asked =
    both (count_meets (total (map length xs) + total (map length ys)) left k) (fitting_meets (nat_eq (length ys) (length xs)) k) (counted (total (map length xs) + total (map length ys)) left k asked)
    (fitted (nat_eq (length ys) (length xs)) (eq-eqb (length ys) (length xs) many) k)

-- rows of one length
rows_are : {A : Type 0} (n : ℕ) (f : A → List ℕ) (rows : List (List A)) → HaveLength n rows → AllAre n (map length (map (map f) rows))
rows_are n f [] h = refl
rows_are n f (r ∷ rs) h = both (nat_eq n (length (map f r))) _ (eq-eqb n (length (map f r)) (sym (length-map r f ∙ h.0))) (rows_are n f rs h.1)

flat_rows : {A : Type 0} (rows : List (List A)) → HaveLength (width rows) rows → AllByRecursion IsNotEmpty rows → is_flat rows ≡ true → HaveLength 1 rows
flat_rows [] even filled flat = tt
flat_rows (r ∷ rs) even filled flat =
    let most : length r ≤ 1 = leb-true _ _ flat in
    let some : 0 < length r = filled.0 in
    let one : length r ≡ 1 = omega (arith, most, some) in
    subst (λ m. HaveLength m (r ∷ rs)) one even

-- boxes of one dimension are their words
flat_words : {A : Type 0} (f : A → List ℕ) (xs : List A) → map (λ r. box_word true (map f r)) (one_each xs) ≡ map f xs
flat_words f [] = refl
flat_words f (x ∷ xs) = ap₂ (λ (v : List ℕ) (vs : List (List ℕ)). v ∷ vs) (append-nil (f x ++ []) ∙ append-nil (f x)) (flat_words f xs)

tuple_words : {A : Type 0} (f : A → List ℕ) (rows : List (List A)) → map (λ r. box_word false (map f r)) rows ≡ map (box_word false) (map (map f) rows)
tuple_words f [] = refl
tuple_words f (r ∷ rs) = ap (λ (vs : List (List ℕ)). box_word false (map f r) ∷ vs) (tuple_words f rs)

module _ (ds : List Decl) (d : AreDeclared ds) where
  abbrev os : List Outline
  os = outlines_of ds

  abbrev at : ℕ → List ℕ
  at v = word_at (words ds) v

  abbrev tw : Term → List ℕ
  tw t = term_word (words ds) t

  abbrev Declared : List ℕ → Type 0
  Declared vs = AllByRecursion (λ v. v < length (words ds)) vs

  abbrev Formed : List Term → Type 0
  Formed ts = AllByRecursion (IsFormedItem (length (words ds))) (map item_of ts)

  -- the members of a list or of a tuple
  variable_texts : (vs : List ℕ) → Declared vs → AllByRecursion IsText (map at vs)
  variable_texts [] h = tt
  variable_texts (v ∷ vs) h = (is_text ds d v h.0, variable_texts vs h.1)

  term_texts : (ts : List Term) → Formed ts → AllByRecursion IsText (map tw ts)
  term_texts [] h = tt
  term_texts (t ∷ ts) h = (term_is_text ds d t h.0, term_texts ts h.1)

  variables_back : (vs : List ℕ) → Declared vs → flat_map (variables_of os) (map at vs) ≡ vs
  variables_back [] h = refl
  variables_back (v ∷ vs) h = ap (λ us. us ++ flat_map (variables_of os) (map at vs)) (word_back ds d v h.0) ∙ ap (λ us. v ∷ us) (variables_back vs h.1)

  terms_back : (ts : List Term) → Formed ts → flat_map (word_terms os) (map tw ts) ≡ ts
  terms_back [] h = refl
  terms_back (t ∷ ts) h = ap (λ us. us ++ flat_map (word_terms os) (map tw ts)) (term_back ds d t h.0) ∙ ap (λ us. t ∷ us) (terms_back ts h.1)

  variables_met : (vs : List ℕ) → Declared vs → (k : Condition) → all_meet (variable_meets os) (map at vs) k ≡ true
  variables_met [] h k = refl
  variables_met (v ∷ vs) h k = both (variable_meets os (at v) k) _ (word_met ds d v h.0 k) (variables_met vs h.1 k)

  terms_met : (ts : List Term) → Formed ts → (k : Condition) → all_meet (term_meets os) (map tw ts) k ≡ true
  terms_met [] h k = refl
  terms_met (t ∷ ts) h k = both (term_meets os (tw t) k) _ (term_met ds d t h.0 k) (terms_met ts h.1 k)

  directs_back : (vs : List ℕ) → Declared vs → map (direct_of os) (map at vs) ≡ vs
  directs_back [] h = refl
  directs_back (v ∷ vs) h = ap₂ (λ (u : ℕ) (us : List ℕ). u ∷ us) (direct_back ds d v h.0) (directs_back vs h.1)

  singles_back : (ts : List Term) → Formed ts → map (single_of os) (map tw ts) ≡ ts
  singles_back [] h = refl
  singles_back (t ∷ ts) h = ap₂ (λ (u : Term) (us : List Term). u ∷ us) (single_back ds d t h.0) (singles_back ts h.1)

  directs_met : (vs : List ℕ) → Declared vs → (k : Condition) → all_meet (direct_meets os) (map at vs) k ≡ true
  directs_met [] h k = refl
  directs_met (v ∷ vs) h k = both (direct_meets os (at v) k) _ (direct_met ds d v h.0 k) (directs_met vs h.1 k)

  singles_met : (ts : List Term) → Formed ts → (k : Condition) → all_meet (single_meets os) (map tw ts) k ≡ true
  singles_met [] h k = refl
  singles_met (t ∷ ts) h k = both (single_meets os (tw t) k) _ (single_met ds d t h.0 k) (singles_met ts h.1 k)

  -- rows
  origin_rows : (rows : List (List ℕ)) → AllByRecursion Declared rows → AllByRecursion IsNotEmpty rows → AllByRecursion IsRow (map (map at) rows)
  origin_rows [] h some = tt
  origin_rows (r ∷ rs) h some = ((let most : 0 < length r = some.0 in omega (arith, most, length-map r at), variable_texts r h.0), origin_rows rs h.1 some.1)

  length_rows : (rows : List (List Term)) → AllByRecursion Formed rows → AllByRecursion IsNotEmpty rows → AllByRecursion IsRow (map (map tw) rows)
  length_rows [] h some = tt
  length_rows (r ∷ rs) h some = ((let most : 0 < length r = some.0 in omega (arith, most, length-map r tw), term_texts r h.0), length_rows rs h.1 some.1)

  origin_rows_back : (rows : List (List ℕ)) → AllByRecursion Declared rows → map (map (direct_of os)) (map (map at) rows) ≡ rows
  origin_rows_back [] h = refl
  origin_rows_back (r ∷ rs) h = ap₂ (λ (u : List ℕ) (us : List (List ℕ)). u ∷ us) (directs_back r h.0) (origin_rows_back rs h.1)

  length_rows_back : (rows : List (List Term)) → AllByRecursion Formed rows → map (map (single_of os)) (map (map tw) rows) ≡ rows
  length_rows_back [] h = refl
  length_rows_back (r ∷ rs) h = ap₂ (λ (u : List Term) (us : List (List Term)). u ∷ us) (singles_back r h.0) (length_rows_back rs h.1)

  origin_rows_met : (rows : List (List ℕ)) → AllByRecursion Declared rows → (k : Condition) → AllByRecursion (λ r. all_meet (direct_meets os) r k ≡ true) (map (map at) rows)
  origin_rows_met [] h k = tt
  origin_rows_met (r ∷ rs) h k = (directs_met r h.0 k, origin_rows_met rs h.1 k)

  length_rows_met : (rows : List (List Term)) → AllByRecursion Formed rows → (k : Condition) → AllByRecursion (λ r. all_meet (single_meets os) r k ≡ true) (map (map tw) rows)
  length_rows_met [] h k = tt
  length_rows_met (r ∷ rs) h k = (singles_met r h.0 k, length_rows_met rs h.1 k)

  -- two texts
  record AreAgain (a b : List ℕ) (origins : List (List ℕ)) (lengths : List (List Term)) : Type 0 where
    pub meets : (left : ℕ) (k : Condition) → is_limit k ≡ false → boxes_meet os left a b k ≡ true
    pub first : origins_of os a b ≡ origins
    pub second : lengths_of os a b ≡ lengths

  again_by : (a b : List ℕ) (origins : List (List ℕ)) (lengths : List (List Term)) → ((left : ℕ) (k : Condition) → is_limit k ≡ false → texts_meet os left a b k ≡ true) → origins_of os a b ≡ origins → lengths_of os a b ≡ lengths
      → length lengths ≡ length origins → AreAgain a b origins lengths
  again_by a b origins lengths met first second many = record {
    meets = λ left k asked.
        both (texts_meet os left a b k) (rows_meet left (origins_of os a b) (lengths_of os a b) k) (met left k asked)
        (ap₂ (λ (xs : List (List ℕ)) (ys : List (List Term)). rows_meet left xs ys k) first second ∙ rows_met left origins lengths many k asked);
    first = first;
    second = second;
  }

  -- of lists
  flat_again : (vs : List ℕ) (ts : List Term) → Declared vs → Formed ts → length (one_each ts) ≡ length (one_each vs) → AreAgain (spaced (map at vs)) (spaced (map tw ts)) (one_each vs) (one_each ts)
  flat_again vs ts below formed many =
      let a : List ℕ = spaced (map at vs) in
      let b : List ℕ = spaced (map tw ts) in
      let va = variable_texts vs below in
      let tb = term_texts ts formed in
      let plain : is_tupled a b ≡ false = ap₂ (λ (x y : Option (List ℕ)). is_some x || is_some y) (not_tupled (map at vs) va) (not_tupled (map tw ts) tb) in
      let vars : vars_of os a ≡ vs = ap (flat_map (variables_of os)) (list_back (map at vs) va) ∙ variables_back vs below in
      let terms : terms_of os b ≡ ts = ap (flat_map (word_terms os)) (list_back (map tw ts) tb) ∙ terms_back ts formed in
      again_by a b (one_each vs) (one_each ts)
      (λ left k asked.
      ap (λ (v : Bool). if v then tuples_meet os left a b k else lists_meet os left a b k) plain
      ∙ both (vars_meet os a left k) (terms_meet os b left k)
      (both (all_meet (variable_meets os) (words_of a) k) (count_meets (length (vars_of os a)) left k) (ap (λ ws. all_meet (variable_meets os) ws k) (list_back (map at vs) va) ∙ variables_met vs below k) (counted (length (vars_of os a)) left k asked))
      (both (all_meet (term_meets os) (words_of b) k) (count_meets (length (terms_of os b)) left k) (ap (λ ws. all_meet (term_meets os) ws k) (list_back (map tw ts) tb) ∙ terms_met ts formed k) (counted (length (terms_of os b)) left k asked)))
      (ap (λ (v : Bool). if v then map (origin_of os) (groups_of a) else one_each (vars_of os a)) plain ∙ ap (λ (us : List ℕ). one_each us) vars)
      (ap (λ (v : Bool). if v then map (length_of os) (groups_of b) else one_each (terms_of os b)) plain ∙ ap (λ (us : List Term). one_each us) terms)
      many

  -- of tuples
  groups_met : {A : Type 0} (test : List ℕ → Condition → Bool) (f : List ℕ → List A) (rs : List (List (List ℕ))) → AllByRecursion IsRow rs → (left : ℕ) (k : Condition) → is_limit k ≡ false → AllByRecursion (λ r. all_meet test r k ≡ true) rs
      → groups_meet (tuple_meets test) f (tuples_text rs) left k ≡ true
  groups_met test f rs rows left k asked met =
      let text : List ℕ = tuples_text rs in
      both (all_meet (tuple_meets test) (groups_of text) k && count_meets (length (flat_map f (groups_of text))) left k) (spelt_meets (is_blank (behind_of text)) k)
      (both (all_meet (tuple_meets test) (groups_of text) k) (count_meets (length (flat_map f (groups_of text))) left k) (tuples_met test k rs rows met) (counted (length (flat_map f (groups_of text))) left k asked))
      (ap (λ bs. spelt_meets (is_blank bs) k) (tuples_end rs rows) ∙ spelt_true k)

  tupled_again : (o : List ℕ) (origins : List (List ℕ)) (lengths : List (List Term)) → AllByRecursion Declared (o ∷ origins) → AllByRecursion Formed lengths → AreBoxes (o ∷ origins) lengths
      → AreAgain (tuples_text (map (map at) (o ∷ origins))) (tuples_text (map (map tw) lengths)) (o ∷ origins) lengths
  tupled_again o origins lengths below formed boxes =
      let rs : List (List (List ℕ)) = map (map at) (o ∷ origins) in
      let ss : List (List (List ℕ)) = map (map tw) lengths in
      let a : List ℕ = tuples_text rs in
      let b : List ℕ = tuples_text ss in
      let ra = origin_rows (o ∷ origins) below boxes.of_origins.filled in
      let sb = length_rows lengths formed boxes.of_lengths.filled in
      let n : ℕ = length o in
      let long : HaveLength n lengths = subst (λ m. HaveLength m lengths) boxes.as_wide boxes.of_lengths.even in
      let tupled : is_tupled a b ≡ true = ap (λ (v : Bool). v || is_some (inner_of b)) (begins_tupled (map at o) (map (map at) origins)) in
      let even : are_even (widths_of a ++ widths_of b) ≡ true =
      ap₂ (λ (ns ms : List ℕ). are_even (ns ++ ms)) (tuple_widths rs ra) (tuple_widths ss sb)
      ∙ same_even n (map length rs ++ map length ss) (more_are n (map length rs) (map length ss) (rows_are n at (o ∷ origins) boxes.of_origins.even) (rows_are n tw lengths long)) in
      again_by a b (o ∷ origins) lengths
      (λ left k asked.
      ap (λ (v : Bool). if v then tuples_meet os left a b k else lists_meet os left a b k) tupled
      ∙ both (spelt_meets (are_even (widths_of a ++ widths_of b)) k) (groups_meet (tuple_meets (direct_meets os)) (origin_of os) a left k && groups_meet (tuple_meets (single_meets os)) (length_of os) b left k)
      (ap (λ (v : Bool). spelt_meets v k) even ∙ spelt_true k)
      (both (groups_meet (tuple_meets (direct_meets os)) (origin_of os) a left k) (groups_meet (tuple_meets (single_meets os)) (length_of os) b left k)
      (groups_met (direct_meets os) (origin_of os) rs ra left k asked (origin_rows_met (o ∷ origins) below k))
      (groups_met (single_meets os) (length_of os) ss sb left k asked (length_rows_met lengths formed k))))
      (ap (λ (v : Bool). if v then map (origin_of os) (groups_of a) else one_each (vars_of os a)) tupled ∙ tuples_back (direct_of os) rs ra ∙ origin_rows_back (o ∷ origins) below)
      (ap (λ (v : Bool). if v then map (length_of os) (groups_of b) else one_each (terms_of os b)) tupled ∙ tuples_back (single_of os) ss sb ∙ length_rows_back lengths formed)
      boxes.as_many

  -- the texts as they are written
  heads_below : (rows : List (List ℕ)) → AllByRecursion Declared rows → Declared (heads rows)
  heads_below [] h = tt
  heads_below ([] ∷ rs) h = heads_below rs h.1
  heads_below ((x ∷ xs) ∷ rs) h = (h.0.0, heads_below rs h.1)

  heads_formed : (rows : List (List Term)) → AllByRecursion Formed rows → Formed (heads rows)
  heads_formed [] h = tt
  heads_formed ([] ∷ rs) h = heads_formed rs h.1
  heads_formed ((x ∷ xs) ∷ rs) h = (h.0.0, heads_formed rs h.1)

  abbrev Again : List (List ℕ) → List (List Term) → Type 0
  Again origins lengths = AreAgain (origins_text (words ds) origins) (lengths_text (words ds) lengths) origins lengths

  flat_case : (origins : List (List ℕ)) (lengths : List (List Term)) → AllByRecursion Declared origins → AllByRecursion Formed lengths → AreBoxes origins lengths → is_flat origins ≡ true → Again origins lengths
  flat_case origins lengths below formed boxes flat =
      let vs : List ℕ = heads origins in
      let ts : List Term = heads lengths in
      let flat_lengths : is_flat lengths ≡ true = ap (λ n. nat_le n 1) boxes.as_wide ∙ flat in
      let os_are : origins ≡ one_each vs = are_heads origins (flat_rows origins boxes.of_origins.even boxes.of_origins.filled flat) in
      let ls_are : lengths ≡ one_each ts = are_heads lengths (flat_rows lengths boxes.of_lengths.even boxes.of_lengths.filled flat_lengths) in
      let a_is : origins_text (words ds) origins ≡ spaced (map at vs) =
      ap (λ (v : Bool). spaced (map (origin_word (words ds) v) origins)) flat ∙ ap (λ (rows : List (List ℕ)). spaced (map (origin_word (words ds) true) rows)) os_are ∙ ap spaced (flat_words at vs) in
      let b_is : lengths_text (words ds) lengths ≡ spaced (map tw ts) =
      ap (λ (v : Bool). spaced (map (length_word (words ds) v) lengths)) flat_lengths ∙ ap (λ (rows : List (List Term)). spaced (map (length_word (words ds) true) rows)) ls_are ∙ ap spaced (flat_words tw ts) in
      let many : length (one_each ts) ≡ length (one_each vs) = ap (λ (rows : List (List Term)). length rows) (sym ls_are) ∙ boxes.as_many ∙ ap (λ (rows : List (List ℕ)). length rows) os_are in
      let made : AreAgain (spaced (map at vs)) (spaced (map tw ts)) (one_each vs) (one_each ts) = flat_again vs ts (heads_below origins below) (heads_formed lengths formed) many in
      subst (λ x. AreAgain x (lengths_text (words ds) lengths) origins lengths) (sym a_is)
      (subst (λ x. AreAgain (spaced (map at vs)) x origins lengths) (sym b_is)
      (subst (λ x. AreAgain (spaced (map at vs)) (spaced (map tw ts)) x lengths) (sym os_are) (subst (λ x. AreAgain (spaced (map at vs)) (spaced (map tw ts)) (one_each vs) x) (sym ls_are) made)))

  tupled_case : (origins : List (List ℕ)) (lengths : List (List Term)) → AllByRecursion Declared origins → AllByRecursion Formed lengths → AreBoxes origins lengths → is_flat origins ≡ false → Again origins lengths
  tupled_case [] lengths below formed boxes flat = cc
  tupled_case (o ∷ origins) lengths below formed boxes flat =
      let flat_lengths : is_flat lengths ≡ false = ap (λ n. nat_le n 1) boxes.as_wide ∙ flat in
      let rs : List (List (List ℕ)) = map (map at) (o ∷ origins) in
      let ss : List (List (List ℕ)) = map (map tw) lengths in
      let a_is : origins_text (words ds) (o ∷ origins) ≡ tuples_text rs = ap (λ (v : Bool). spaced (map (origin_word (words ds) v) (o ∷ origins))) flat ∙ ap spaced (tuple_words at (o ∷ origins)) in
      let b_is : lengths_text (words ds) lengths ≡ tuples_text ss = ap (λ (v : Bool). spaced (map (length_word (words ds) v) lengths)) flat_lengths ∙ ap spaced (tuple_words tw lengths) in
      subst (λ x. AreAgain x (lengths_text (words ds) lengths) (o ∷ origins) lengths) (sym a_is)
      (subst (λ x. AreAgain (tuples_text rs) x (o ∷ origins) lengths) (sym b_is) (tupled_again o origins lengths below formed boxes))

  rows_below : (rows : List (List ℕ)) → AllByRecursion (IsFormedField (length (words ds))) (map members rows) → AllByRecursion Declared rows
  rows_below [] h = tt
  rows_below (r ∷ rs) h = (below_of_items (length (words ds)) r h.0, rows_below rs h.1)

  rows_formed : (rows : List (List Term)) → AllByRecursion (IsFormedField (length (words ds))) (map terms rows) → AllByRecursion Formed rows
  rows_formed [] h = tt
  rows_formed (r ∷ rs) h = (h.0, rows_formed rs h.1)

  abbrev P : Field → Type 0
  P f = IsFormedField (length (words ds)) f

  boxes_again : (origins : List (List ℕ)) (lengths : List (List Term)) (z : Bool) → IsFormed (length (words ds)) (NoOverlap origins lengths z) → Again origins lengths
  boxes_again origins lengths z h = by (is_flat origins) refl
    where
      by : (v : Bool) → is_flat origins ≡ v → Again origins lengths
      by true e = flat_case origins lengths (rows_below origins (front P (map members origins) (map terms lengths) h.fields)) (rows_formed lengths (behind P (map members origins) (map terms lengths) h.fields)) h.fitting e
      by false e = tupled_case origins lengths (rows_below origins (front P (map members origins) (map terms lengths) h.fields)) (rows_formed lengths (behind P (map members origins) (map terms lengths) h.fields)) h.fitting e

  flag_back : (origins : List (List ℕ)) (lengths : List (List Term)) (z : Bool) → is_zero_ignored (element_of (words ds) origins lengths z) ≡ z
  flag_back origins lengths true = refl
  flag_back origins lengths false = refl

again : (ds : List Decl) (origins : List (List ℕ)) (lengths : List (List Term)) (z : Bool) → AreDeclared ds → IsFormed (length (words ds)) (NoOverlap origins lengths z) → IsReadAgain ds origins lengths z
again ds origins lengths z d formed =
    let r = boxes_again ds d origins lengths z formed in
    let a : List ℕ = origins_text (words ds) origins in
    let b : List ℕ = lengths_text (words ds) lengths in
    record {
      meets = λ left k asked. r.meets left k asked;
      same =
          ap (λ (v : Bool). NoOverlap (origins_of (outlines_of ds) a b) (lengths_of (outlines_of ds) a b) v) (flag_back ds d origins lengths z)
          ∙ ap (λ (xs : List (List ℕ)). NoOverlap xs (lengths_of (outlines_of ds) a b) z) r.first ∙ ap (λ (ys : List (List Term)). NoOverlap origins ys z) r.second;
    }

pub written_again : WrittenAgain
written_again = record { read = again }
