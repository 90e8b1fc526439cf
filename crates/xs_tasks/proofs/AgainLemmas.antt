-- What is written of a `cumulative` meets all conditions but the limit on items, and denotes it again.
use Rattle.std.proofs.Common.{◌≡◌, ℕ, ◌+◌, ◌-◌, ◌<◌, ℤ, pos, nat_abs, Bool, true, false, not, ◌&&◌, ◌||◌, nat_eq, if◌then◌else◌, cond, List, [], ◌∷◌, ◌++◌, length, map, take, drop, codes, Option, None, Some, Ok, Err, refl, ap, sym, ◌∙◌, append_assoc, append-nil, length-append, arith, is_some}
use Rattle.std.specs.Fmt.{signed_decimal}
use Rattle.std.specs.Cmp.Lexicographic.{pointwise}
use Rattle.std.specs.List.{AllByRecursion, filter, flat_map, list_all}
use Rattle.std.specs.Option.{option_map}
use Rattle.std.proofs.Math.Seq.{drop-append_seam, take-append_seam}
use Rattle.std.proofs.lemmas.Bool.{eq-eqb, ne_eqb, true≢false}
use Rattle.std.proofs.lemmas.List.Folds.{list_all-append}
use borrow.Author.Tests.{le-leb, lt-ltb}
use Rattle.xs_conditions.specs.Conditions.{condition_meets, condition_of, split_in, split_meets, split_of, split_word, split_between}
use Rattle.xs_conditions.specs.Single.{direct_spelt, first_of, single_by, single_meets, single_meets_by, single_of}
use Rattle.xs_conditions.specs.Spelling.{between_of, only_of, word_in}
use Rattle.xs_expr.specs.Tokens.{is_in_word}
use Rattle.xs_fields.specs.Cells.{name_meets, variable_meets, variable_words_meet, variables_of, vars_meet, vars_of}
use Rattle.xs_fields.specs.Conditions.{all_meet, judged, meets}
use Rattle.xs_fields.specs.Integers.{integer_of, is_small, magnitudes}
use Rattle.xs_fields.specs.Lists.{copies, count_meets, is_small_run, members_in, members_of, once, run_in, run_meets, run_of}
use Rattle.xs_fields.specs.Sizes.{brackets_of, size_meets}
use Rattle.xs_fields.specs.Terms.{is_run, term_meets, term_words_meet, terms_meet, terms_of, word_terms}
use Rattle.xs_fields.specs.Variables.{word_meets}
use Rattle.xs_fields.specs.Words.{is_byte, is_nonempty, is_space, onto_first, parts, words_of}
use Rattle.xs_fields.specs.declared.condition.Condition.{Condition}
use Rattle.xs_fields.specs.declared.condition.Condition.TheVariants.{Known, Nesting, Spelling, Magnitude, Naming, Counting, Fitting}
use Rattle.xs_fields.specs.declared.runs.Run.{Run}
use Rattle.xs_fields.proofs.Decimals.{decimal-spells, integer-bytes, integer-is, integer-some}
use Rattle.xs_fields.proofs.DirectLemmas.{no-integer}
use Rattle.xs_fields.proofs.DistinctNames.{cells_few, declared_there, one_denotation}
use Rattle.xs_fields.proofs.FirstLemmas.{met_at}
use Rattle.xs_fields.proofs.IntegerLemmas.{and_left, and_right}
use Rattle.xs_fields.proofs.PartLemmas.{words_space}
use Rattle.xs_fields.proofs.ReachedLemmas.{sizes-met}
use Rattle.xs_model.proofs.FindLemmas.{sound_at}
use Rattle.xs_model.proofs.FormLemmas.{below_of_items}
use Rattle.xs_model.specs.Accepted.{IsFormed}
use Rattle.xs_model.specs.Denotes.{Denotes, bracketed}
use Rattle.xs_model.specs.Fields.{cond_items, item_of}
use Rattle.xs_model.specs.Fitting.{AreAsMany, IsLimit}
use Rattle.xs_model.specs.Formed.{IsFormedItem, items_of}
use Rattle.xs_model.specs.Identifier.{IsIdentifier}
use Rattle.xs_model.specs.Names.{words}
use Rattle.xs_model.specs.Outline.{Outline, outlines_of}
use Rattle.xs_model.specs.Sound.{IsSmall}
use Rattle.xs_model.specs.declared.concrete.Part.{Part}
use Rattle.xs_model.specs.declared.decl.Decl.{Decl}
use Rattle.xs_model.specs.declared.instance.Constraint.{Constraint}
use Rattle.xs_model.specs.declared.instance.Constraint.TheVariants.{Cumulative}
use Rattle.xs_model.specs.declared.term.Cond.{Cond}
use Rattle.xs_model.specs.declared.term.Cond.TheVariants.{Lt, Le}
use Rattle.xs_model.specs.declared.term.Term.{Term}
use Rattle.xs_model.specs.declared.term.Term.TheVariants.{Int, Var}
use Rattle.xs_notation.proofs.Declared.{denotes, distinct-all, few-all, sound-all}
use Rattle.xs_notation.proofs.Marked.{IsOneWord, high-byte}
use Rattle.xs_notation.proofs.Reached.{direct-is}
use Rattle.xs_notation.specs.Law.{AreDeclared}
use Rattle.xs_tables.specs.Extension.{text_in}
use Rattle.xs_tables.specs.Tables.{fitting_meets, sizes_meet}
use Rattle.xs_tasks.specs.Law.{IsReadAgain, WrittenAgain, is_count}
use Rattle.xs_tasks.specs.Tasks.{are_as_many, are_children, are_even, child_text, cumulative_meets, ends_meet, ends_of, is_limit_word, limit_meets, tasks_meet, tasks_of, texts_meet}
use Rattle.xs_tasks.specs.Tested.{is_cumulative}
use Rattle.xs_tasks.specs.Written.{element_of, limit_text, limit_word, parts_of, spaced, term_word, terms_text, vars_text, word_at}
use Rattle.xs_tasks.proofs.LimitLemmas.{le_cut, lt_cut}
use Rattle.xs_var.specs.Variable.{spelling_meets}

both : (a b : Bool) → a ≡ true → b ≡ true → (a && b) ≡ true
both a b g h = ap (λ v. v && b) g ∙ h

-- the limit on items is not asked
counted : (count left : ℕ) (k : Condition) → is_count k ≡ false → count_meets count left k ≡ true
counted count left Known h = refl
counted count left Nesting h = refl
counted count left Spelling h = refl
counted count left Magnitude h = refl
counted count left Naming h = refl
counted count left Counting h = cc
counted count left Fitting h = refl

fitted : (fits : Bool) → fits ≡ true → (k : Condition) → fitting_meets fits k ≡ true
fitted fits h Known = refl
fitted fits h Nesting = refl
fitted fits h Spelling = refl
fitted fits h Magnitude = refl
fitted fits h Naming = refl
fitted fits h Counting = refl
fitted fits h Fitting = h

right : {A : Type 0} (small : A → Bool) (x : A) → small x ≡ true → (k : Condition) → meets small (Some x) k ≡ true
right small x h Known = refl
right small x h Nesting = refl
right small x h Spelling = refl
right small x h Magnitude = h
right small x h Naming = refl
right small x h Counting = refl
right small x h Fitting = refl

spelt : (k : Condition) → spelling_meets true k ≡ true
spelt Known = refl
spelt Nesting = refl
spelt Spelling = refl
spelt Magnitude = refl
spelt Naming = refl
spelt Counting = refl
spelt Fitting = refl

-- words behind one another
not_true : (b : Bool) → not b ≡ true → b ≡ false
not_true true h = cc
not_true false h = refl

abbrev Lacks : (ℕ → Bool) → List ℕ → Type 0
Lacks test p = list_all (λ b. not (test b)) p ≡ true

split : (test : ℕ → Bool) (stop : ℕ) (p rest : List ℕ) → test stop ≡ true → Lacks test p → parts test (p ++ stop ∷ rest) ≡ p ∷ parts test rest
split test stop [] rest s h = ap (λ (v : Bool). if v then [] ∷ parts test rest else onto_first stop (parts test rest)) s
split test stop (b ∷ bs) rest s h =
    ap (λ (v : Bool). if v then [] ∷ parts test (bs ++ stop ∷ rest) else onto_first b (parts test (bs ++ stop ∷ rest))) (not_true (test b) (and_left _ _ h))
    ∙ ap (onto_first b) (split test stop bs rest s (and_right _ _ h))

one_part : (test : ℕ → Bool) (p : List ℕ) → Lacks test p → parts test p ≡ p ∷ []
one_part test [] h = refl
one_part test (b ∷ bs) h =
    ap (λ (v : Bool). if v then [] ∷ parts test bs else onto_first b (parts test bs)) (not_true (test b) (and_left _ _ h))
    ∙ ap (onto_first b) (one_part test bs (and_right _ _ h))

record IsWord (w : List ℕ) : Type 0 where
  pub some : 0 < length w
  pub plain : Lacks is_space w

kept : (p : List ℕ) (ps : List (List ℕ)) → 0 < length p → filter is_nonempty (p ∷ ps) ≡ p ∷ filter is_nonempty ps
kept p ps h = ap (λ (v : Bool). cond v (p ∷ filter is_nonempty ps) (filter is_nonempty ps)) (lt-ltb 0 (length p) h)

run_words : (ws : List (List ℕ)) → AllByRecursion IsWord ws → words_of (flat_map (λ w. w ++ codes " ") ws) ≡ ws
run_words [] h = refl
run_words (w ∷ ws) h =
    ap words_of (append_assoc w (codes " ") (flat_map (λ w. w ++ codes " ") ws))
    ∙ ap (filter is_nonempty) (split is_space 32 w (flat_map (λ w. w ++ codes " ") ws) refl h.0.plain)
    ∙ kept w (parts is_space (flat_map (λ w. w ++ codes " ") ws)) h.0.some
    ∙ ap (λ vs. w ∷ vs) (run_words ws h.1)

spaced_words : (ws : List (List ℕ)) → AllByRecursion IsWord ws → words_of (spaced ws) ≡ ws
spaced_words ws h = words_space 32 (flat_map (λ w. w ++ codes " ") ws) refl ∙ run_words ws h

mark_tests : (s m : Bool) → (not s && not m) ≡ true → not s ≡ true
mark_tests true m h = cc
mark_tests false m h = refl

lacks_space : (t : List ℕ) → list_all is_in_word t ≡ true → Lacks is_space t
lacks_space [] h = refl
lacks_space (b ∷ bs) h = both _ _ (mark_tests (is_space b) (nat_eq b 40 || nat_eq b 41 || nat_eq b 44) (and_left _ _ h)) (lacks_space bs (and_right _ _ h))

-- integers
read_run : (z : ℤ) → IsSmall z → run_of (signed_decimal z) ≡ Some (record { value = z; times = pos 1 })
read_run z h =
    ap run_in (one_part (is_byte 120) (signed_decimal z) (integer-bytes (λ b. not (is_byte 120 b)) refl refl (λ c l g. ap not (ne_eqb c 120 (λ e. omega (arith, g, e)))) (signed_decimal z) (decimal-spells z h).0))
    ∙ ap once (integer-is (signed_decimal z) z (decimal-spells z h))

small_run : (z : ℤ) → IsSmall z → is_small_run (record { value = z; times = pos 1 }) ≡ true
small_run z h = both _ _ (le-leb (nat_abs z) magnitudes h) refl

run_members : (z : ℤ) → IsSmall z → members_of (signed_decimal z) ≡ z ∷ []
run_members z h =
    let r : Run = record { value = z; times = pos 1 } in
    ap (λ o. members_in (judged is_small_run o)) (read_run z h) ∙ ap (λ (v : Bool). members_in (if v then Ok r else Err Magnitude)) (small_run z h)

integer_is_run : (z : ℤ) → IsSmall z → is_run (signed_decimal z) ≡ true
integer_is_run z h = ap is_some (read_run z h)

integer_is_word : (z : ℤ) → IsSmall z → IsWord (signed_decimal z)
integer_is_word z h = record {
  some = integer-some (signed_decimal z) (decimal-spells z h).0;
  plain = lacks_space (signed_decimal z) (integer-bytes is_in_word refl refl (λ c l g. high-byte c (omega (arith, l))) (signed_decimal z) (decimal-spells z h).0);
}

-- a word that begins with a letter is no run
no_run : (ps : List (List ℕ)) (p : List ℕ) → integer_of p ≡ None → run_in (p ∷ ps) ≡ None
no_run [] p h = ap once h
no_run (k ∷ []) p h = ap (λ o. copies o (integer_of k)) h
no_run (k ∷ q ∷ qs) p h = refl

letter_no_run : (n rest : List ℕ) → IsIdentifier n → run_of (n ++ rest) ≡ None
letter_no_run [] rest h = absurd h
letter_no_run (b ∷ bs) rest h = by (is_byte 120 b) (parts (is_byte 120) (bs ++ rest))
  where
    by : (v : Bool) (ps : List (List ℕ)) → run_in (if v then [] ∷ ps else onto_first b ps) ≡ None
    by true ps = no_run ps [] refl
    by false [] = no_run [] (b ∷ []) (no-integer (b ∷ []) [] (h.0, refl))
    by false (p ∷ ps) = no_run ps (b ∷ p) (no-integer (b ∷ []) p (h.0, refl))

-- what stands between parentheses
inside_closed : (xs : List ℕ) → between_of 40 41 (40 ∷ (xs ++ codes ")")) ≡ Some xs
inside_closed xs =
    let ys : List ℕ = xs ++ codes ")" in
    let before : length ys - 1 ≡ length xs = omega (arith, length-append xs (codes ")")) in
    ap (λ (n : ℕ). if pointwise nat_eq (codes ")") (drop n ys) then Some (take n ys) else None) before
    ∙ ap (λ (zs : List ℕ). if pointwise nat_eq (codes ")") zs then Some (take (length xs) ys) else None) (drop-append_seam xs (codes ")"))
    ∙ ap (λ zs. Some zs) (take-append_seam xs (codes ")"))

module _ (ds : List Decl) (d : AreDeclared ds) where
  abbrev os : List Outline
  os = outlines_of ds

  abbrev at : ℕ → List ℕ
  at v = word_at (words ds) v

  abbrev Declared : ℕ → Type 0
  Declared v = v < length (words ds)

  denoted : (v : ℕ) → Declared v → Denotes os (at v) v
  denoted v l = denotes ds v d.decls d.few l

  -- variables
  one_word : (w : List ℕ) → IsOneWord w → IsWord w
  one_word [] h = absurd h
  one_word (b ∷ bs) h = record { some = omega arith; plain = lacks_space (b ∷ bs) (both _ _ h.0 h.1) }

  is_word : (v : ℕ) → Declared v → IsWord (at v)
  is_word v l = one_word (at v) (direct-is os (sound-all ds d.decls) (few-all ds d.few) (distinct-all ds d.distinct) (at v) v (denoted v l)).whole

  word_back : (v : ℕ) → Declared v → variables_of os (at v) ≡ v ∷ []
  word_back v l = one_denotation.same os (record { sound = sound-all ds d.decls; few = few-all ds d.few; distinct = distinct-all ds d.distinct }) (at v) v (denoted v l)

  word_met : (v : ℕ) → Declared v → (k : Condition) → variable_meets os (at v) k ≡ true
  word_met v l k = met_at (variable_meets os (at v)) (one_denotation.met os (record { sound = sound-all ds d.decls; few = few-all ds d.few; distinct = distinct-all ds d.distinct }) (at v) v (denoted v l)) k

  word_no_run : (v : ℕ) → Declared v → is_run (at v) ≡ false
  word_no_run v l =
      let o = denoted v l in
      ap is_some (ap run_of o.spelt ∙ letter_no_run o.outline.name (flat_map bracketed o.texts) (sound_at os o.at o.outline (sound-all ds d.decls) o.declared).identifier)

  are_words : (vs : List ℕ) → AllByRecursion Declared vs → AllByRecursion IsWord (map at vs)
  are_words [] h = tt
  are_words (v ∷ vs) h = (is_word v h.0, are_words vs h.1)

  words_back : (vs : List ℕ) → AllByRecursion Declared vs → flat_map (variables_of os) (map at vs) ≡ vs
  words_back [] h = refl
  words_back (v ∷ vs) h = ap (λ us. us ++ flat_map (variables_of os) (map at vs)) (word_back v h.0) ∙ ap (λ us. v ∷ us) (words_back vs h.1)

  words_met : (vs : List ℕ) → AllByRecursion Declared vs → (k : Condition) → all_meet (variable_meets os) (map at vs) k ≡ true
  words_met [] h k = refl
  words_met (v ∷ vs) h k = both _ _ (word_met v h.0 k) (words_met vs h.1 k)

  list_back : (vs : List ℕ) → AllByRecursion Declared vs → vars_of os (vars_text (words ds) vs) ≡ vs
  list_back vs h = ap (flat_map (variables_of os)) (spaced_words (map at vs) (are_words vs h)) ∙ words_back vs h

  list_met : (vs : List ℕ) → AllByRecursion Declared vs → (left : ℕ) (k : Condition) → is_count k ≡ false → vars_meet os (vars_text (words ds) vs) left k ≡ true
  list_met vs h left k asked =
      both (variable_words_meet os (vars_text (words ds) vs) k) (count_meets (length (vars_of os (vars_text (words ds) vs))) left k)
      (ap (λ ws. all_meet (variable_meets os) ws k) (spaced_words (map at vs) (are_words vs h)) ∙ words_met vs h k)
      (counted (length (vars_of os (vars_text (words ds) vs))) left k asked)

  -- terms
  abbrev Formed : Term → Type 0
  Formed t = IsFormedItem (length (words ds)) (item_of t)

  term_is_word : (t : Term) → Formed t → IsWord (term_word (words ds) t)
  term_is_word (Int z) h = integer_is_word z h
  term_is_word (Var v) h = is_word v h

  term_back : (t : Term) → Formed t → word_terms os (term_word (words ds) t) ≡ t ∷ []
  term_back (Int z) h =
      ap (λ (v : Bool). if v then map Int (members_of (signed_decimal z)) else map Var (variables_of os (signed_decimal z))) (integer_is_run z h) ∙ ap (map Int) (run_members z h)
  term_back (Var v) h =
      ap (λ (b : Bool). if b then map Int (members_of (at v)) else map Var (variables_of os (at v))) (word_no_run v h) ∙ ap (map Var) (word_back v h)

  term_met : (t : Term) → Formed t → (k : Condition) → term_meets os (term_word (words ds) t) k ≡ true
  term_met (Int z) h k =
      ap (λ (v : Bool). if v then run_meets (signed_decimal z) k else variable_meets os (signed_decimal z) k) (integer_is_run z h)
      ∙ ap (λ o. meets is_small_run o k) (read_run z h) ∙ right is_small_run (record { value = z; times = pos 1 }) (small_run z h) k
  term_met (Var v) h k =
      ap (λ (b : Bool). if b then run_meets (at v) k else variable_meets os (at v) k) (word_no_run v h) ∙ word_met v h k

  terms_are_words : (ts : List Term) → AllByRecursion (IsFormedItem (length (words ds))) (map item_of ts) → AllByRecursion IsWord (map (term_word (words ds)) ts)
  terms_are_words [] h = tt
  terms_are_words (t ∷ ts) h = (term_is_word t h.0, terms_are_words ts h.1)

  each_back : (ts : List Term) → AllByRecursion (IsFormedItem (length (words ds))) (map item_of ts) → flat_map (word_terms os) (map (term_word (words ds)) ts) ≡ ts
  each_back [] h = refl
  each_back (t ∷ ts) h = ap (λ us. us ++ flat_map (word_terms os) (map (term_word (words ds)) ts)) (term_back t h.0) ∙ ap (λ us. t ∷ us) (each_back ts h.1)

  each_met : (ts : List Term) → AllByRecursion (IsFormedItem (length (words ds))) (map item_of ts) → (k : Condition) → all_meet (term_meets os) (map (term_word (words ds)) ts) k ≡ true
  each_met [] h k = refl
  each_met (t ∷ ts) h k = both _ _ (term_met t h.0 k) (each_met ts h.1 k)

  terms_back : (ts : List Term) → AllByRecursion (IsFormedItem (length (words ds))) (map item_of ts) → terms_of os (terms_text (words ds) ts) ≡ ts
  terms_back ts h = ap (flat_map (word_terms os)) (spaced_words (map (term_word (words ds)) ts) (terms_are_words ts h)) ∙ each_back ts h

  terms_met : (ts : List Term) → AllByRecursion (IsFormedItem (length (words ds))) (map item_of ts) → (left : ℕ) (k : Condition) → is_count k ≡ false → terms_meet os (terms_text (words ds) ts) left k ≡ true
  terms_met ts h left k asked =
      both (term_words_meet os (terms_text (words ds) ts) k) (count_meets (length (terms_of os (terms_text (words ds) ts))) left k)
      (ap (λ ws. all_meet (term_meets os) ws k) (spaced_words (map (term_word (words ds)) ts) (terms_are_words ts h)) ∙ each_met ts h k)
      (counted (length (terms_of os (terms_text (words ds) ts))) left k asked)
      -- single terms

  no_integer : (v : ℕ) → Declared v → integer_of (at v) ≡ None
  no_integer v l =
      let o = denoted v l in
      ap integer_of o.spelt ∙ no-integer o.outline.name (flat_map bracketed o.texts) (sound_at os o.at o.outline (sound-all ds d.decls) o.declared).identifier

  sizes_met : (v : ℕ) → Declared v → (k : Condition) → all_meet size_meets (brackets_of (at v)) k ≡ true
  sizes_met v l k =
      let o = denoted v l in
      let sound = sound-all ds d.decls in
      let few = few-all ds d.few in
      let distinct = distinct-all ds d.distinct in
      met_at (all_meet size_meets (brackets_of (at v))) (sizes-met os sound (at v) v o (cells_few os sound few distinct (at v) v o) (declared_there os sound few distinct (at v) v o)) k

  single_back : (t : Term) → Formed t → single_of os (term_word (words ds) t) ≡ t
  single_back (Int z) h = ap (single_by os (signed_decimal z)) (integer-is (signed_decimal z) z (decimal-spells z h))
  single_back (Var v) h = ap (single_by os (at v)) (no_integer v h) ∙ ap (λ vs. Var (first_of vs)) (word_back v h)

  single_met : (t : Term) → Formed t → (k : Condition) → single_meets os (term_word (words ds) t) k ≡ true
  single_met (Int z) h k = ap (λ o. single_meets_by os (signed_decimal z) o k) (integer-is (signed_decimal z) z (decimal-spells z h)) ∙ right is_small z (le-leb (nat_abs z) magnitudes h) k
  single_met (Var v) h k =
      ap (λ o. single_meets_by os (at v) o k) (no_integer v h)
      ∙ both (direct_spelt (at v) k) (name_meets os (at v) k)
      (both (word_meets (at v) k) (all_meet size_meets (brackets_of (at v)) k) (and_left (word_meets (at v) k) (name_meets os (at v) k) (word_met v h k)) (sizes_met v h k))
      (and_right (word_meets (at v) k) (name_meets os (at v) k) (word_met v h k))

  -- a limit
  abbrev said : Term → List ℕ
  said t = term_word (words ds) t

  closed_plain : (t : Term) → Formed t → Lacks is_space (said t ++ codes ")")
  closed_plain t h = list_all-append (λ b. not (is_space b)) (said t) (codes ")") ∙ both _ _ (term_is_word t h).plain refl

  lt_is_word : (t : Term) → Formed t → IsWord (limit_word (words ds) (Lt t))
  lt_is_word t h = record { some = omega arith; plain = closed_plain t h }

  le_is_word : (t : Term) → Formed t → IsWord (limit_word (words ds) (Le t))
  le_is_word t h = record { some = omega arith; plain = closed_plain t h }

  only_word : (w : List ℕ) → IsWord w → word_in (spaced (w ∷ [])) ≡ Some w
  only_word w h = ap only_of (spaced_words (w ∷ []) (h, tt))

  lt_split : (t : Term) → Formed t → split_in (limit_text (words ds) (Lt t)) ≡ Some (codes "lt", said t)
  lt_split t h = ap split_word (only_word (limit_word (words ds) (Lt t)) (lt_is_word t h)) ∙ ap split_between (inside_closed (codes "lt," ++ said t)) ∙ lt_cut (said t)

  le_split : (t : Term) → Formed t → split_in (limit_text (words ds) (Le t)) ≡ Some (codes "le", said t)
  le_split t h = ap split_word (only_word (limit_word (words ds) (Le t)) (le_is_word t h)) ∙ ap split_between (inside_closed (codes "le," ++ said t)) ∙ le_cut (said t)

  limit_back : (x : Cond) → IsLimit x → AllByRecursion (IsFormedItem (length (words ds))) (cond_items x) → condition_of os (limit_text (words ds) x) ≡ x
  limit_back (Lt t) limit h = ap (split_of os) (lt_split t h.0) ∙ ap (λ y. Lt y) (single_back t h.0)
  limit_back (Le t) limit h = ap (split_of os) (le_split t h.0) ∙ ap (λ y. Le y) (single_back t h.0)
  limit_back x limit h = absurd limit

  limit_by : (text w : List ℕ) (s : List ℕ × List ℕ) → word_in text ≡ Some w → is_limit_word (Some w) ≡ true → split_in text ≡ Some s → ((k : Condition) → split_meets os (Some s) k ≡ true) → (left : ℕ) (k : Condition) → is_count k ≡ false → limit_meets os left text k ≡ true
  limit_by text w s word limit is met left k asked =
      both (spelling_meets (is_limit_word (word_in text)) k) (condition_meets os text left k)
      (ap (λ (v : Bool). spelling_meets v k) (ap is_limit_word word ∙ limit) ∙ spelt k)
      (both (split_meets os (split_in text) k) (count_meets (length (cond_items (condition_of os text))) left k) (ap (λ o. split_meets os o k) is ∙ met k) (counted (length (cond_items (condition_of os text))) left k asked))

  limit_met : (x : Cond) → IsLimit x → AllByRecursion (IsFormedItem (length (words ds))) (cond_items x) → (left : ℕ) (k : Condition) → is_count k ≡ false → limit_meets os left (limit_text (words ds) x) k ≡ true
  limit_met (Lt t) limit h left k asked =
      limit_by (limit_text (words ds) (Lt t)) (limit_word (words ds) (Lt t)) (codes "lt", said t) (only_word (limit_word (words ds) (Lt t)) (lt_is_word t h.0)) refl (lt_split t h.0) (single_met t h.0) left k asked
  limit_met (Le t) limit h left k asked =
      limit_by (limit_text (words ds) (Le t)) (limit_word (words ds) (Le t)) (codes "le", said t) (only_word (limit_word (words ds) (Le t)) (le_is_word t h.0)) refl (le_split t h.0) (single_met t h.0) left k asked
  limit_met x limit h left k asked = absurd limit

  -- the ends
  abbrev AreDeclaredEnds : Option (List ℕ) → Type 0
  AreDeclaredEnds None = Unit {0}
  AreDeclaredEnds (Some ends) = AllByRecursion Declared ends

  ends_back : (es : Option (List ℕ)) → AreDeclaredEnds es → ends_of os (option_map (vars_text (words ds)) es) ≡ es
  ends_back None h = refl
  ends_back (Some ends) h = ap (λ vs. Some vs) (list_back ends h)

  ends_met : (es : Option (List ℕ)) → AreDeclaredEnds es → (left : ℕ) (k : Condition) → is_count k ≡ false → ends_meet os left (option_map (vars_text (words ds)) es) k ≡ true
  ends_met None h left k asked = refl
  ends_met (Some ends) h left k asked = list_met ends h left k asked

  many_again : (n : ℕ) (es : Option (List ℕ)) → AreAsMany n es → are_as_many n es ≡ true
  many_again n None h = refl
  many_again n (Some ends) h = eq-eqb (length ends) n h

  -- the whole
  module _ (vs : List ℕ) (ls hs : List Term) (es : Option (List ℕ)) (x : Cond) (formed : IsFormed (length (words ds)) (Cumulative vs ls hs es x)) where
    abbrev own : List Part
    own = parts_of (words ds) (Cumulative vs ls hs es x)

    ends_there : (o : Option (List ℕ)) → text_in (codes "ends") (parts_of (words ds) (Cumulative vs ls hs o x)) ≡ option_map (vars_text (words ds)) o
    ends_there None = refl
    ends_there (Some ends) = refl

    condition_there : (o : Option (List ℕ)) → child_text (codes "condition") (parts_of (words ds) (Cumulative vs ls hs o x)) ≡ limit_text (words ds) x
    condition_there None = refl
    condition_there (Some ends) = refl

    children : (o : Option (List ℕ)) → are_children (parts_of (words ds) (Cumulative vs ls hs o x)) ≡ true
    children None = refl
    children (Some ends) = refl

    starts_declared : AllByRecursion Declared vs
    starts_declared = below_of_items (length (words ds)) vs formed.fields.0

    declared_ends : (o : Option (List ℕ)) → IsFormed (length (words ds)) (Cumulative vs ls hs o x) → AreDeclaredEnds o
    declared_ends None f = tt
    declared_ends (Some ends) f = below_of_items (length (words ds)) ends f.fields.1.1.1.0

    condition_formed : (o : Option (List ℕ)) → IsFormed (length (words ds)) (Cumulative vs ls hs o x) → AllByRecursion (IsFormedItem (length (words ds))) (cond_items x)
    condition_formed None f = f.fields.1.1.1.0
    condition_formed (Some ends) f = f.fields.1.1.1.1.0

    same : tasks_of os own ≡ Cumulative vs ls hs es x
    same =
        let ends : ends_of os (text_in (codes "ends") own) ≡ es = ap (ends_of os) (ends_there es) ∙ ends_back es (declared_ends es formed) in
        let condition : condition_of os (child_text (codes "condition") own) ≡ x = ap (condition_of os) (condition_there es) ∙ limit_back x formed.fitting.3 (condition_formed es formed) in
        let e = ends_of os (text_in (codes "ends") own) in
        let y = condition_of os (child_text (codes "condition") own) in
        ap (λ us. Cumulative us (terms_of os (terms_text (words ds) ls)) (terms_of os (terms_text (words ds) hs)) e y) (list_back vs starts_declared)
        ∙ ap (λ us. Cumulative vs us (terms_of os (terms_text (words ds) hs)) e y) (terms_back ls formed.fields.1.0)
        ∙ ap (λ us. Cumulative vs ls us e y) (terms_back hs formed.fields.1.1.0)
        ∙ ap (λ us. Cumulative vs ls hs us y) ends
        ∙ ap (λ z. Cumulative vs ls hs es z) condition

    even : are_even (tasks_of os own) ≡ true
    even =
        ap are_even same
        ∙ both (nat_eq (length ls) (length vs) && nat_eq (length hs) (length vs)) (are_as_many (length vs) es)
        (both (nat_eq (length ls) (length vs)) (nat_eq (length hs) (length vs)) (eq-eqb (length ls) (length vs) formed.fitting.0) (eq-eqb (length hs) (length vs) formed.fitting.1)) (many_again (length vs) es formed.fitting.2)

    texts_met : (left : ℕ) (k : Condition) → is_count k ≡ false → texts_meet os left own k ≡ true
    texts_met left k asked =
        let o = vars_meet os (vars_text (words ds) vs) left k in
        let l = terms_meet os (terms_text (words ds) ls) left k in
        let t = terms_meet os (terms_text (words ds) hs) left k in
        let e = ends_meet os left (text_in (codes "ends") own) k in
        let y = limit_meets os left (child_text (codes "condition") own) k in
        both (o && l) ((t && e) && y) (both o l (list_met vs starts_declared left k asked) (terms_met ls formed.fields.1.0 left k asked))
        (both (t && e) y
        (both t e (terms_met hs formed.fields.1.1.0 left k asked) (ap (λ z. ends_meet os left z k) (ends_there es) ∙ ends_met es (declared_ends es formed) left k asked))
        (ap (λ z. limit_meets os left z k) (condition_there es) ∙ limit_met x formed.fitting.3 (condition_formed es formed) left k asked))

    whole : (left : ℕ) (k : Condition) → is_count k ≡ false → cumulative_meets os left (element_of (words ds) (Cumulative vs ls hs es x)) k ≡ true
    whole left k asked =
        let count = items_of (tasks_of os own) in
        let fits = are_even (tasks_of os own) in
        both (spelling_meets (are_children own) k) (tasks_meet os left own k) (ap (λ (v : Bool). spelling_meets v k) (children es) ∙ spelt k)
        (both (texts_meet os left own k) (sizes_meet count left fits k) (texts_met left k asked) (both (count_meets count left k) (fitting_meets fits k) (counted count left k asked) (fitted fits even k)))

again : (ds : List Decl) (c : Constraint) → is_cumulative c ≡ true → AreDeclared ds → IsFormed (length (words ds)) c → IsReadAgain ds c
again ds (Cumulative vs ls hs es x) form d formed = record { meets = whole ds d vs ls hs es x formed; same = same ds d vs ls hs es x formed }
again ds c form d formed = absurd (true≢false (sym form))

pub written_again : WrittenAgain
written_again = record { read = again }
