-- What is written of an objective meets all conditions but the limits on what is read, and denotes it again.
use Rattle.std.proofs.Common.{◌≡◌, ℕ, ◌+◌, ◌<◌, ℤ, pos, nat_abs, Bool, true, false, not, ◌&&◌, ◌||◌, nat_eq, nat_lt, if◌then◌else◌, cond, List, [], ◌∷◌, ◌++◌, length, map, codes, None, Some, Ok, Err, refl, ap, ◌∙◌, append-nil, append_assoc, arith, is_some}
use Rattle.std.specs.Fmt.{signed_decimal}
use Rattle.std.specs.List.{AllByRecursion, filter, flat_map, list_all}
use Rattle.std.proofs.lemmas.Bool.{eq-eqb, ne_eqb}
use borrow.Author.Tests.{le-leb, lt-ltb}
use Rattle.xs_expr.specs.Text.{written}
use Rattle.xs_expr.specs.Tokens.{is_in_word, tokens_of, with_byte}
use Rattle.xs_fields.specs.Cells.{variable_meets, variable_words_meet, variables_of, vars_meet, vars_of}
use Rattle.xs_fields.specs.Conditions.{all_meet, judged, meets}
use Rattle.xs_fields.specs.Integers.{integer_of, magnitudes}
use Rattle.xs_fields.specs.Lists.{copies, count_meets, is_small_run, members_in, members_of, once, run_in, run_meets, run_of}
use Rattle.xs_fields.specs.Terms.{is_run, term_meets, term_words_meet, terms_meet, terms_of, word_terms}
use Rattle.xs_fields.specs.Words.{is_byte, is_nonempty, is_space, onto_first, parts, words_of}
use Rattle.xs_fields.specs.declared.condition.Condition.{Condition}
use Rattle.xs_fields.specs.declared.condition.Condition.TheVariants.{Known, Nesting, Spelling, Magnitude, Naming, Counting, Fitting}
use Rattle.xs_fields.specs.declared.runs.Run.{Run}
use Rattle.xs_fields.proofs.Decimals.{decimal-spells, integer-bytes, integer-is, integer-some}
use Rattle.xs_fields.proofs.DirectLemmas.{no-integer}
use Rattle.xs_fields.proofs.DistinctNames.{one_denotation}
use Rattle.xs_fields.proofs.FirstLemmas.{met_at}
use Rattle.xs_fields.proofs.IntegerLemmas.{and_left, and_right}
use Rattle.xs_fields.proofs.PartLemmas.{words_space}
use Rattle.xs_model.proofs.FindLemmas.{sound_at}
use Rattle.xs_model.proofs.FormLemmas.{below_of_items}
use Rattle.xs_model.specs.Denotes.{Denotes, bracketed}
use Rattle.xs_model.specs.Fields.{body_fields, item_of}
use Rattle.xs_model.specs.Fitting.{IsFittingBody}
use Rattle.xs_model.specs.Formed.{AreFormed, IsFormedExpr, IsFormedItem, nodes}
use Rattle.xs_model.specs.Identifier.{IsIdentifier}
use Rattle.xs_model.specs.Names.{words}
use Rattle.xs_model.specs.Outline.{Outline, outlines_of}
use Rattle.xs_model.specs.Sound.{IsSmall}
use Rattle.xs_model.specs.declared.decl.Decl.{Decl}
use Rattle.xs_model.specs.declared.expr.Expr.{Expr}
use Rattle.xs_model.specs.declared.instance.Body.{Body}
use Rattle.xs_model.specs.declared.instance.Body.TheVariants as body
use Rattle.xs_model.specs.declared.instance.Direction.{Direction}
use Rattle.xs_model.specs.declared.instance.Direction.TheVariants.{Minimize, Maximize}
use Rattle.xs_model.specs.declared.instance.Objective.{Objective}
use Rattle.xs_model.specs.declared.term.Term.{Term}
use Rattle.xs_model.specs.declared.term.Term.TheVariants.{Int, Var}
use Rattle.xs_notation.proofs.Declared.{denotes, distinct-all, few-all, sound-all}
use Rattle.xs_notation.proofs.Marked.{IsOneWord, high-byte}
use Rattle.xs_notation.proofs.Reached.{direct-is}
use Rattle.xs_notation.proofs.WrittenAgain.{read-back}
use Rattle.xs_notation.specs.Law.{AreDeclared}
use Rattle.xs_notation.specs.Nesting.{nesting_meets}
use Rattle.xs_notation.specs.Parse.{parse}
use Rattle.xs_notation.specs.Reading.{counted_expr_meets, expr_at, expr_in, expr_meets, raw_meets, tree_meets}
use Rattle.xs_notation.specs.declared.raw.Raw.{Raw}
use Rattle.xs_objectives.specs.Law.{IsReadAgain, WrittenAgain, is_limit}
use Rattle.xs_objectives.specs.Lists.{list_meets}
use Rattle.xs_objectives.specs.Objective.{objective_meets, objective_of}
use Rattle.xs_objectives.specs.Written.{element_of, spaced, term_word, terms_text, vars_text, word_at}
use Rattle.xs_var.specs.VarDomain.{fitting_meets}
use Rattle.xs_var.specs.Variable.{spelling_meets}

both : (a b : Bool) → a ≡ true → b ≡ true → (a && b) ≡ true
both a b g h = ap (λ v. v && b) g ∙ h

-- limits are not asked
counted : (count left : ℕ) (k : Condition) → is_limit k ≡ false → count_meets count left k ≡ true
counted count left Known h = refl
counted count left Nesting h = refl
counted count left Spelling h = refl
counted count left Magnitude h = refl
counted count left Naming h = refl
counted count left Counting h = cc
counted count left Fitting h = refl

fitted : (fits : Bool) → fits ≡ true → (k : Condition) → fitting_meets fits k ≡ true
fitted fits h Known = refl
fitted fits h Nesting = refl
fitted fits h Spelling = refl
fitted fits h Magnitude = refl
fitted fits h Naming = refl
fitted fits h Counting = refl
fitted fits h Fitting = h

nested : (text : List ℕ) (k : Condition) → is_limit k ≡ false → nesting_meets text k ≡ true
nested text Known h = refl
nested text Nesting h = cc
nested text Spelling h = refl
nested text Magnitude h = refl
nested text Naming h = refl
nested text Counting h = refl
nested text Fitting h = refl

right : {A : Type 0} (small : A → Bool) (x : A) → small x ≡ true → (k : Condition) → meets small (Some x) k ≡ true
right small x h Known = refl
right small x h Nesting = refl
right small x h Spelling = refl
right small x h Magnitude = h
right small x h Naming = refl
right small x h Counting = refl
right small x h Fitting = refl

spelt : (k : Condition) → spelling_meets true k ≡ true
spelt Known = refl
spelt Nesting = refl
spelt Spelling = refl
spelt Magnitude = refl
spelt Naming = refl
spelt Counting = refl
spelt Fitting = refl

-- words behind one another
not_true : (b : Bool) → not b ≡ true → b ≡ false
not_true true h = cc
not_true false h = refl

abbrev Lacks : (ℕ → Bool) → List ℕ → Type 0
Lacks test p = list_all (λ b. not (test b)) p ≡ true

split : (test : ℕ → Bool) (stop : ℕ) (p rest : List ℕ) → test stop ≡ true → Lacks test p → parts test (p ++ stop ∷ rest) ≡ p ∷ parts test rest
split test stop [] rest s h = ap (λ (v : Bool). if v then [] ∷ parts test rest else onto_first stop (parts test rest)) s
split test stop (b ∷ bs) rest s h =
    ap (λ (v : Bool). if v then [] ∷ parts test (bs ++ stop ∷ rest) else onto_first b (parts test (bs ++ stop ∷ rest))) (not_true (test b) (and_left _ _ h))
    ∙ ap (onto_first b) (split test stop bs rest s (and_right _ _ h))

one_part : (test : ℕ → Bool) (p : List ℕ) → Lacks test p → parts test p ≡ p ∷ []
one_part test [] h = refl
one_part test (b ∷ bs) h =
    ap (λ (v : Bool). if v then [] ∷ parts test bs else onto_first b (parts test bs)) (not_true (test b) (and_left _ _ h))
    ∙ ap (onto_first b) (one_part test bs (and_right _ _ h))

record IsWord (w : List ℕ) : Type 0 where
  pub some : 0 < length w
  pub plain : Lacks is_space w

kept : (p : List ℕ) (ps : List (List ℕ)) → 0 < length p → filter is_nonempty (p ∷ ps) ≡ p ∷ filter is_nonempty ps
kept p ps h = ap (λ (v : Bool). cond v (p ∷ filter is_nonempty ps) (filter is_nonempty ps)) (lt-ltb 0 (length p) h)

run_words : (ws : List (List ℕ)) → AllByRecursion IsWord ws → words_of (flat_map (λ w. w ++ codes " ") ws) ≡ ws
run_words [] h = refl
run_words (w ∷ ws) h =
    ap words_of (append_assoc w (codes " ") (flat_map (λ w. w ++ codes " ") ws))
    ∙ ap (filter is_nonempty) (split is_space 32 w (flat_map (λ w. w ++ codes " ") ws) refl h.0.plain)
    ∙ kept w (parts is_space (flat_map (λ w. w ++ codes " ") ws)) h.0.some
    ∙ ap (λ vs. w ∷ vs) (run_words ws h.1)

spaced_words : (ws : List (List ℕ)) → AllByRecursion IsWord ws → words_of (spaced ws) ≡ ws
spaced_words ws h = words_space 32 (flat_map (λ w. w ++ codes " ") ws) refl ∙ run_words ws h

mark_tests : (s m : Bool) → (not s && not m) ≡ true → not s ≡ true
mark_tests true m h = cc
mark_tests false m h = refl

lacks_space : (t : List ℕ) → list_all is_in_word t ≡ true → Lacks is_space t
lacks_space [] h = refl
lacks_space (b ∷ bs) h = both _ _ (mark_tests (is_space b) (nat_eq b 40 || nat_eq b 41 || nat_eq b 44) (and_left _ _ h)) (lacks_space bs (and_right _ _ h))

-- the tokens of a text with a space behind it
trailing : (t : List ℕ) → tokens_of (t ++ codes " ") ≡ tokens_of t
trailing [] = refl
trailing (b ∷ []) = refl
trailing (b ∷ c ∷ cs) = ap (λ ts. with_byte b (c ∷ cs) ts) (trailing (c ∷ cs))

spaced_tokens : (t : List ℕ) → tokens_of (spaced (t ∷ [])) ≡ tokens_of t
spaced_tokens t = ap tokens_of (append-nil (t ++ codes " ")) ∙ trailing t

-- integers
read_run : (z : ℤ) → IsSmall z → run_of (signed_decimal z) ≡ Some (record { value = z; times = pos 1 })
read_run z h =
    ap run_in (one_part (is_byte 120) (signed_decimal z) (integer-bytes (λ b. not (is_byte 120 b)) refl refl (λ c l g. ap not (ne_eqb c 120 (λ e. omega (arith, g, e)))) (signed_decimal z) (decimal-spells z h).0))
    ∙ ap once (integer-is (signed_decimal z) z (decimal-spells z h))

small_run : (z : ℤ) → IsSmall z → is_small_run (record { value = z; times = pos 1 }) ≡ true
small_run z h = both _ _ (le-leb (nat_abs z) magnitudes h) refl

run_members : (z : ℤ) → IsSmall z → members_of (signed_decimal z) ≡ z ∷ []
run_members z h =
    let r : Run = record { value = z; times = pos 1 } in
    ap (λ o. members_in (judged is_small_run o)) (read_run z h) ∙ ap (λ (v : Bool). members_in (if v then Ok r else Err Magnitude)) (small_run z h)

integer_is_run : (z : ℤ) → IsSmall z → is_run (signed_decimal z) ≡ true
integer_is_run z h = ap is_some (read_run z h)

integer_is_word : (z : ℤ) → IsSmall z → IsWord (signed_decimal z)
integer_is_word z h = record {
  some = integer-some (signed_decimal z) (decimal-spells z h).0;
  plain = lacks_space (signed_decimal z) (integer-bytes is_in_word refl refl (λ c l g. high-byte c (omega (arith, l))) (signed_decimal z) (decimal-spells z h).0);
}

-- a word that begins with a letter is no run
no_run : (ps : List (List ℕ)) (p : List ℕ) → integer_of p ≡ None → run_in (p ∷ ps) ≡ None
no_run [] p h = ap once h
no_run (k ∷ []) p h = ap (λ o. copies o (integer_of k)) h
no_run (k ∷ q ∷ qs) p h = refl

letter_no_run : (n rest : List ℕ) → IsIdentifier n → run_of (n ++ rest) ≡ None
letter_no_run [] rest h = absurd h
letter_no_run (b ∷ bs) rest h = by (is_byte 120 b) (parts (is_byte 120) (bs ++ rest))
  where
    by : (v : Bool) (ps : List (List ℕ)) → run_in (if v then [] ∷ ps else onto_first b ps) ≡ None
    by true ps = no_run ps [] refl
    by false [] = no_run [] (b ∷ []) (no-integer (b ∷ []) [] (h.0, refl))
    by false (p ∷ ps) = no_run ps (b ∷ p) (no-integer (b ∷ []) p (h.0, refl))

module _ (ds : List Decl) (d : AreDeclared ds) where
  abbrev os : List Outline
  os = outlines_of ds

  abbrev at : ℕ → List ℕ
  at v = word_at (words ds) v

  abbrev Declared : ℕ → Type 0
  Declared v = v < length (words ds)

  denoted : (v : ℕ) → Declared v → Denotes os (at v) v
  denoted v l = denotes ds v d.decls d.few l

  -- variables
  one_word : (w : List ℕ) → IsOneWord w → IsWord w
  one_word [] h = absurd h
  one_word (b ∷ bs) h = record { some = omega arith; plain = lacks_space (b ∷ bs) (both _ _ h.0 h.1) }

  is_word : (v : ℕ) → Declared v → IsWord (at v)
  is_word v l = one_word (at v) (direct-is os (sound-all ds d.decls) (few-all ds d.few) (distinct-all ds d.distinct) (at v) v (denoted v l)).whole

  word_back : (v : ℕ) → Declared v → variables_of os (at v) ≡ v ∷ []
  word_back v l = one_denotation.same os (record { sound = sound-all ds d.decls; few = few-all ds d.few; distinct = distinct-all ds d.distinct }) (at v) v (denoted v l)

  word_met : (v : ℕ) → Declared v → (k : Condition) → variable_meets os (at v) k ≡ true
  word_met v l k = met_at (variable_meets os (at v)) (one_denotation.met os (record { sound = sound-all ds d.decls; few = few-all ds d.few; distinct = distinct-all ds d.distinct }) (at v) v (denoted v l)) k

  word_no_run : (v : ℕ) → Declared v → is_run (at v) ≡ false
  word_no_run v l =
      let o = denoted v l in
      ap is_some (ap run_of o.spelt ∙ letter_no_run o.outline.name (flat_map bracketed o.texts) (sound_at os o.at o.outline (sound-all ds d.decls) o.declared).identifier)

  are_words : (vs : List ℕ) → AllByRecursion Declared vs → AllByRecursion IsWord (map at vs)
  are_words [] h = tt
  are_words (v ∷ vs) h = (is_word v h.0, are_words vs h.1)

  words_back : (vs : List ℕ) → AllByRecursion Declared vs → flat_map (variables_of os) (map at vs) ≡ vs
  words_back [] h = refl
  words_back (v ∷ vs) h = ap (λ us. us ++ flat_map (variables_of os) (map at vs)) (word_back v h.0) ∙ ap (λ us. v ∷ us) (words_back vs h.1)

  words_met : (vs : List ℕ) → AllByRecursion Declared vs → (k : Condition) → all_meet (variable_meets os) (map at vs) k ≡ true
  words_met [] h k = refl
  words_met (v ∷ vs) h k = both _ _ (word_met v h.0 k) (words_met vs h.1 k)

  list_back : (vs : List ℕ) → AllByRecursion Declared vs → vars_of os (vars_text (words ds) vs) ≡ vs
  list_back vs h = ap (flat_map (variables_of os)) (spaced_words (map at vs) (are_words vs h)) ∙ words_back vs h

  list_met : (vs : List ℕ) → AllByRecursion Declared vs → (left : ℕ) (k : Condition) → is_limit k ≡ false → vars_meet os (vars_text (words ds) vs) left k ≡ true
  list_met vs h left k asked =
      both (variable_words_meet os (vars_text (words ds) vs) k) (count_meets (length (vars_of os (vars_text (words ds) vs))) left k)
      (ap (λ ws. all_meet (variable_meets os) ws k) (spaced_words (map at vs) (are_words vs h)) ∙ words_met vs h k)
      (counted (length (vars_of os (vars_text (words ds) vs))) left k asked)

  -- terms
  abbrev Formed : Term → Type 0
  Formed t = IsFormedItem (length (words ds)) (item_of t)

  term_is_word : (t : Term) → Formed t → IsWord (term_word (words ds) t)
  term_is_word (Int z) h = integer_is_word z h
  term_is_word (Var v) h = is_word v h

  term_back : (t : Term) → Formed t → word_terms os (term_word (words ds) t) ≡ t ∷ []
  term_back (Int z) h =
      ap (λ (v : Bool). if v then map Int (members_of (signed_decimal z)) else map Var (variables_of os (signed_decimal z))) (integer_is_run z h) ∙ ap (map Int) (run_members z h)
  term_back (Var v) h =
      ap (λ (b : Bool). if b then map Int (members_of (at v)) else map Var (variables_of os (at v))) (word_no_run v h) ∙ ap (map Var) (word_back v h)

  term_met : (t : Term) → Formed t → (k : Condition) → term_meets os (term_word (words ds) t) k ≡ true
  term_met (Int z) h k =
      ap (λ (v : Bool). if v then run_meets (signed_decimal z) k else variable_meets os (signed_decimal z) k) (integer_is_run z h)
      ∙ ap (λ o. meets is_small_run o k) (read_run z h) ∙ right is_small_run (record { value = z; times = pos 1 }) (small_run z h) k
  term_met (Var v) h k =
      ap (λ (b : Bool). if b then run_meets (at v) k else variable_meets os (at v) k) (word_no_run v h) ∙ word_met v h k

  terms_are_words : (ts : List Term) → AllByRecursion (IsFormedItem (length (words ds))) (map item_of ts) → AllByRecursion IsWord (map (term_word (words ds)) ts)
  terms_are_words [] h = tt
  terms_are_words (t ∷ ts) h = (term_is_word t h.0, terms_are_words ts h.1)

  each_back : (ts : List Term) → AllByRecursion (IsFormedItem (length (words ds))) (map item_of ts) → flat_map (word_terms os) (map (term_word (words ds)) ts) ≡ ts
  each_back [] h = refl
  each_back (t ∷ ts) h = ap (λ us. us ++ flat_map (word_terms os) (map (term_word (words ds)) ts)) (term_back t h.0) ∙ ap (λ us. t ∷ us) (each_back ts h.1)

  each_met : (ts : List Term) → AllByRecursion (IsFormedItem (length (words ds))) (map item_of ts) → (k : Condition) → all_meet (term_meets os) (map (term_word (words ds)) ts) k ≡ true
  each_met [] h k = refl
  each_met (t ∷ ts) h k = both _ _ (term_met t h.0 k) (each_met ts h.1 k)

  terms_back : (ts : List Term) → AllByRecursion (IsFormedItem (length (words ds))) (map item_of ts) → terms_of os (terms_text (words ds) ts) ≡ ts
  terms_back ts h = ap (flat_map (word_terms os)) (spaced_words (map (term_word (words ds)) ts) (terms_are_words ts h)) ∙ each_back ts h

  terms_met : (ts : List Term) → AllByRecursion (IsFormedItem (length (words ds))) (map item_of ts) → (left : ℕ) (k : Condition) → is_limit k ≡ false → terms_meet os (terms_text (words ds) ts) left k ≡ true
  terms_met ts h left k asked =
      both (term_words_meet os (terms_text (words ds) ts) k) (count_meets (length (terms_of os (terms_text (words ds) ts))) left k)
      (ap (λ ws. all_meet (term_meets os) ws k) (spaced_words (map (term_word (words ds)) ts) (terms_are_words ts h)) ∙ each_met ts h k)
      (counted (length (terms_of os (terms_text (words ds) ts))) left k asked)

  -- an objective by its body
  record IsBodyAgain (b : Body) : Type 0 where
    pub meets : (left : ℕ) (dir : Direction) (k : Condition) → is_limit k ≡ false → objective_meets os left (element_of (words ds) (record { direction = dir; body = b })) k ≡ true
    pub same : (dir : Direction) → objective_of os (element_of (words ds) (record { direction = dir; body = b })) ≡ record { direction = dir; body = b }

  directed : (dir : Direction) (b : Body) → (objective_of os (element_of (words ds) (record { direction = dir; body = b }))).body ≡ b → objective_of os (element_of (words ds) (record { direction = dir; body = b })) ≡ record { direction = dir; body = b }
  directed Minimize b h = ap (λ x. record { direction = Minimize; body = x }) h
  directed Maximize b h = ap (λ x. record { direction = Maximize; body = x }) h

  value_met : (tree : Raw) (text : List ℕ) → parse (tokens_of text) ≡ Some tree → ((k : Condition) → tree_meets os tree k ≡ true) → (left : ℕ) (k : Condition) → is_limit k ≡ false → counted_expr_meets os text left k ≡ true
  value_met tree text parsed met left k asked =
      both (expr_meets os text k) (count_meets (nodes (expr_at os text)) left k)
      (both (nesting_meets text k) (raw_meets os (parse (tokens_of text)) k) (nested text k asked) (ap (λ o. raw_meets os o k) parsed ∙ met k))
      (counted (nodes (expr_at os text)) left k asked)

  value_again : (e : Expr) → IsFormedExpr (length (words ds)) e → IsBodyAgain (body.Value e)
  value_again e h =
      let r = read-back ds e d h in
      let text : List ℕ = spaced (written (words ds) e ∷ []) in
      let parsed : parse (tokens_of text) ≡ Some r.tree = ap parse (spaced_tokens (written (words ds) e)) ∙ r.parsed in
      record {
        meets = λ left dir k asked. value_met r.tree text parsed r.meets left k asked;
        same = λ dir. directed dir (body.Value e) (ap (λ x. body.Value x) (ap (expr_in os) parsed ∙ r.same));
      }

  sum_again : (vs : List ℕ) (ts : List Term) → AllByRecursion Declared vs → AllByRecursion (IsFormedItem (length (words ds))) (map item_of ts) → length ts ≡ length vs → IsBodyAgain (body.Sum vs ts)
  sum_again vs ts below formed even =
      let list : List ℕ = vars_text (words ds) vs in
      let coeffs : List ℕ = terms_text (words ds) ts in
      let even_again : nat_eq (length (terms_of os coeffs)) (length (vars_of os list)) ≡ true =
      ap (λ (us : List Term). nat_eq (length us) (length (vars_of os list))) (terms_back ts formed) ∙ ap (λ (us : List ℕ). nat_eq (length ts) (length us)) (list_back vs below) ∙ eq-eqb (length ts) (length vs) even in
      record {
        meets = λ left dir k asked.
            let size : ℕ = length (vars_of os list) + length (terms_of os coeffs) in
            let even : Bool = nat_eq (length (terms_of os coeffs)) (length (vars_of os list)) in
            let whole : (spelling_meets true k && ((vars_meet os list left k && terms_meet os coeffs left k) && (count_meets size left k && fitting_meets even k))) ≡ true =
            both (spelling_meets true k) ((vars_meet os list left k && terms_meet os coeffs left k) && (count_meets size left k && fitting_meets even k)) (spelt k)
            (both (vars_meet os list left k && terms_meet os coeffs left k) (count_meets size left k && fitting_meets even k)
            (both (vars_meet os list left k) (terms_meet os coeffs left k) (list_met vs below left k asked) (terms_met ts formed left k asked))
            (both (count_meets size left k) (fitting_meets even k) (counted size left k asked) (fitted even even_again k))) in
            whole;
        same = λ dir. directed dir (body.Sum vs ts) (ap (λ (us : List ℕ). body.Sum us (terms_of os coeffs)) (list_back vs below) ∙ ap (λ (us : List Term). body.Sum vs us) (terms_back ts formed));
      }

  list_asked : (vs : List ℕ) → AllByRecursion Declared vs → (filled : Bool) → (not filled || nat_lt 0 (length vs)) ≡ true → (left : ℕ) (k : Condition) → is_limit k ≡ false → list_meets os left filled (vars_text (words ds) vs) k ≡ true
  list_asked vs below filled some left k asked =
      both (vars_meet os (vars_text (words ds) vs) left k) (fitting_meets (not filled || nat_lt 0 (length (vars_of os (vars_text (words ds) vs)))) k) (list_met vs below left k asked)
      (fitted (not filled || nat_lt 0 (length (vars_of os (vars_text (words ds) vs)))) (ap (λ (us : List ℕ). not filled || nat_lt 0 (length us)) (list_back vs below) ∙ some) k)

  least_again : (v : ℕ) (vs : List ℕ) → AllByRecursion Declared (v ∷ vs) → IsBodyAgain (body.Least (v ∷ vs))
  least_again v vs below = record {
    meets = λ left dir k asked. both (spelling_meets true k) (list_meets os left true (vars_text (words ds) (v ∷ vs)) k) (spelt k) (list_asked (v ∷ vs) below true (lt-ltb 0 (length (v ∷ vs)) (omega arith)) left k asked);
    same = λ dir. directed dir (body.Least (v ∷ vs)) (ap (λ (us : List ℕ). body.Least us) (list_back (v ∷ vs) below));
  }

  greatest_again : (v : ℕ) (vs : List ℕ) → AllByRecursion Declared (v ∷ vs) → IsBodyAgain (body.Greatest (v ∷ vs))
  greatest_again v vs below = record {
    meets = λ left dir k asked. both (spelling_meets true k) (list_meets os left true (vars_text (words ds) (v ∷ vs)) k) (spelt k) (list_asked (v ∷ vs) below true (lt-ltb 0 (length (v ∷ vs)) (omega arith)) left k asked);
    same = λ dir. directed dir (body.Greatest (v ∷ vs)) (ap (λ (us : List ℕ). body.Greatest us) (list_back (v ∷ vs) below));
  }

  distinct_again : (vs : List ℕ) → AllByRecursion Declared vs → IsBodyAgain (body.Distinct vs)
  distinct_again [] below = record {
    meets = λ left dir k asked. both (spelling_meets true k) (list_meets os left false [] k) (spelt k) (both (vars_meet os [] left k) (fitting_meets true k) (both true (count_meets 0 left k) refl (counted 0 left k asked)) (fitted true refl k));
    same = λ dir. directed dir (body.Distinct []) refl;
  }
  distinct_again (v ∷ vs) below = record {
    meets = λ left dir k asked. both (spelling_meets true k) (list_meets os left false (vars_text (words ds) (v ∷ vs)) k) (spelt k) (list_asked (v ∷ vs) below false refl left k asked);
    same = λ dir. directed dir (body.Distinct (v ∷ vs)) (ap (λ (us : List ℕ). body.Distinct us) (list_back (v ∷ vs) below));
  }

  body_again : (b : Body) → AreFormed (length (words ds)) (body_fields b) → IsFittingBody b → IsBodyAgain b
  body_again (body.Value e) h fits = value_again e h.0
  body_again (body.Sum vs ts) h fits = sum_again vs ts h.0.1 h.0.0 fits
  body_again (body.Least []) h fits = absurd (omega (arith, fits))
  body_again (body.Least (v ∷ vs)) h fits = least_again v vs (below_of_items (length (words ds)) (v ∷ vs) h.0)
  body_again (body.Greatest []) h fits = absurd (omega (arith, fits))
  body_again (body.Greatest (v ∷ vs)) h fits = greatest_again v vs (below_of_items (length (words ds)) (v ∷ vs) h.0)
  body_again (body.Distinct vs) h fits = distinct_again vs (below_of_items (length (words ds)) vs h.0)

again : (ds : List Decl) (o : Objective) → AreDeclared ds → AreFormed (length (words ds)) (body_fields o.body) → IsFittingBody o.body → IsReadAgain ds o
again ds o d formed fits =
    let r = body_again ds d o.body formed fits in
    record { meets = λ left k asked. r.meets left o.direction k asked; same = r.same o.direction }

pub written_again : WrittenAgain
written_again = record { read = again }
