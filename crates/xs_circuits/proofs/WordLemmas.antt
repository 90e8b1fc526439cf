-- The words that are written, and what they denote when they are read.
use Rattle.std.proofs.Common.{◌≡◌, ℕ, ◌<◌, ℤ, nat_abs, Bool, true, false, not, ◌&&◌, ◌||◌, nat_eq, if◌then◌else◌, cond, List, [], ◌∷◌, ◌++◌, length, map, codes, None, Some, refl, ap, ◌∙◌, append_assoc, arith}
use Rattle.std.specs.Fmt.{signed_decimal}
use Rattle.std.specs.List.{AllByRecursion, filter, flat_map, list_all}
use borrow.Author.Tests.{le-leb, lt-ltb}
use Rattle.xs_expr.specs.Tokens.{is_in_word}
use Rattle.xs_conditions.specs.Single.{direct_spelt, first_of, one_term_in, one_term_meets, one_term_of, single_by, single_meets, single_meets_by, single_of}
use Rattle.xs_conditions.specs.Spelling.{only_of, word_in, word_meets as one_word_meets}
use Rattle.xs_fields.specs.Cells.{name_meets, variable_meets, variables_of, vars_of}
use Rattle.xs_fields.specs.Conditions.{all_meet, meets}
use Rattle.xs_fields.specs.Integers.{integer_of, is_small, magnitudes}
use Rattle.xs_fields.specs.Sizes.{brackets_of, size_meets}
use Rattle.xs_fields.specs.Variables.{word_meets}
use Rattle.xs_fields.specs.Words.{is_nonempty, is_space, onto_first, parts, words_of}
use Rattle.xs_fields.specs.declared.condition.Condition.{Condition}
use Rattle.xs_fields.specs.declared.condition.Condition.TheVariants.{Known, Nesting, Spelling, Magnitude, Naming, Counting, Fitting}
use Rattle.xs_fields.proofs.Decimals.{decimal-spells, integer-bytes, integer-is, integer-some}
use Rattle.xs_fields.proofs.DirectLemmas.{no-integer}
use Rattle.xs_fields.proofs.DistinctNames.{cells_few, declared_there}
use Rattle.xs_fields.proofs.FirstLemmas.{met_at}
use Rattle.xs_fields.proofs.IntegerLemmas.{and_left, and_right}
use Rattle.xs_fields.proofs.PartLemmas.{words_space}
use Rattle.xs_fields.proofs.ReachedLemmas.{name-met, sizes-met, variables-are, word-met}
use Rattle.xs_model.proofs.FindLemmas.{sound_at}
use Rattle.xs_model.specs.Denotes.{Denotes, bracketed}
use Rattle.xs_model.specs.Fields.{item_of}
use Rattle.xs_model.specs.Formed.{IsFormedItem}
use Rattle.xs_model.specs.Names.{words}
use Rattle.xs_model.specs.Outline.{Outline, outlines_of}
use Rattle.xs_model.specs.Sound.{IsSmall}
use Rattle.xs_model.specs.declared.decl.Decl.{Decl}
use Rattle.xs_model.specs.declared.term.Term.{Term}
use Rattle.xs_model.specs.declared.term.Term.TheVariants.{Int, Var}
use Rattle.xs_notation.proofs.Declared.{denotes, distinct-all, few-all, sound-all}
use Rattle.xs_notation.proofs.Marked.{IsOneWord, high-byte}
use Rattle.xs_notation.proofs.Reached.{direct-is}
use Rattle.xs_notation.specs.Law.{AreDeclared}
use Rattle.xs_circuits.specs.Written.{spaced, term_text, term_word, vars_text, word_at}

pub both : (a b : Bool) → a ≡ true → b ≡ true → (a && b) ≡ true
both a b g h = ap (λ v. v && b) g ∙ h

-- words behind one another
not_true : (b : Bool) → not b ≡ true → b ≡ false
not_true true h = cc
not_true false h = refl

abbrev Lacks : (ℕ → Bool) → List ℕ → Type 0
Lacks test p = list_all (λ b. not (test b)) p ≡ true

split : (test : ℕ → Bool) (stop : ℕ) (p rest : List ℕ) → test stop ≡ true → Lacks test p → parts test (p ++ stop ∷ rest) ≡ p ∷ parts test rest
split test stop [] rest s h = ap (λ (v : Bool). if v then [] ∷ parts test rest else onto_first stop (parts test rest)) s
split test stop (b ∷ bs) rest s h =
    ap (λ (v : Bool). if v then [] ∷ parts test (bs ++ stop ∷ rest) else onto_first b (parts test (bs ++ stop ∷ rest))) (not_true (test b) (and_left _ _ h))
    ∙ ap (onto_first b) (split test stop bs rest s (and_right _ _ h))

record IsWord (w : List ℕ) : Type 0 where
  pub some : 0 < length w
  pub plain : Lacks is_space w

kept : (p : List ℕ) (ps : List (List ℕ)) → 0 < length p → filter is_nonempty (p ∷ ps) ≡ p ∷ filter is_nonempty ps
kept p ps h = ap (λ (v : Bool). cond v (p ∷ filter is_nonempty ps) (filter is_nonempty ps)) (lt-ltb 0 (length p) h)

run_words : (ws : List (List ℕ)) → AllByRecursion IsWord ws → words_of (flat_map (λ w. w ++ codes " ") ws) ≡ ws
run_words [] h = refl
run_words (w ∷ ws) h =
    ap words_of (append_assoc w (codes " ") (flat_map (λ w. w ++ codes " ") ws))
    ∙ ap (filter is_nonempty) (split is_space 32 w (flat_map (λ w. w ++ codes " ") ws) refl h.0.plain)
    ∙ kept w (parts is_space (flat_map (λ w. w ++ codes " ") ws)) h.0.some
    ∙ ap (λ vs. w ∷ vs) (run_words ws h.1)

spaced_words : (ws : List (List ℕ)) → AllByRecursion IsWord ws → words_of (spaced ws) ≡ ws
spaced_words ws h = words_space 32 (flat_map (λ w. w ++ codes " ") ws) refl ∙ run_words ws h

mark_tests : (s m : Bool) → (not s && not m) ≡ true → not s ≡ true
mark_tests true m h = cc
mark_tests false m h = refl

lacks_space : (t : List ℕ) → list_all is_in_word t ≡ true → Lacks is_space t
lacks_space [] h = refl
lacks_space (b ∷ bs) h = both _ _ (mark_tests (is_space b) (nat_eq b 40 || nat_eq b 41 || nat_eq b 44) (and_left _ _ h)) (lacks_space bs (and_right _ _ h))

one_word : (w : List ℕ) → IsOneWord w → IsWord w
one_word [] h = absurd h
one_word (b ∷ bs) h = record { some = omega arith; plain = lacks_space (b ∷ bs) (both _ _ h.0 h.1) }

-- integers
pub integer_back : (z : ℤ) → IsSmall z → integer_of (signed_decimal z) ≡ Some z
integer_back z h = integer-is (signed_decimal z) z (decimal-spells z h)

spelt_small : (z : ℤ) → IsSmall z → (k : Condition) → meets is_small (Some z) k ≡ true
spelt_small z h Known = refl
spelt_small z h Nesting = refl
spelt_small z h Spelling = refl
spelt_small z h Magnitude = le-leb (nat_abs z) magnitudes h
spelt_small z h Naming = refl
spelt_small z h Counting = refl
spelt_small z h Fitting = refl

pub integer_met : (z : ℤ) → IsSmall z → (k : Condition) → meets is_small (integer_of (signed_decimal z)) k ≡ true
integer_met z h k = ap (λ o. meets is_small o k) (integer_back z h) ∙ spelt_small z h k

integer_is_word : (z : ℤ) → IsSmall z → IsWord (signed_decimal z)
integer_is_word z h = record {
  some = integer-some (signed_decimal z) (decimal-spells z h).0;
  plain = lacks_space (signed_decimal z) (integer-bytes is_in_word refl refl (λ c l g. high-byte c (omega (arith, l))) (signed_decimal z) (decimal-spells z h).0);
}

module _ (ds : List Decl) (d : AreDeclared ds) where
  abbrev os : List Outline
  os = outlines_of ds

  abbrev at : ℕ → List ℕ
  at v = word_at (words ds) v

  abbrev Declared : ℕ → Type 0
  Declared v = v < length (words ds)

  abbrev Formed : Term → Type 0
  Formed t = IsFormedItem (length (words ds)) (item_of t)

  -- a variable
  denoted : (v : ℕ) → Declared v → Denotes os (at v) v
  denoted v l = denotes ds v d.decls d.few l

  is_word : (v : ℕ) → Declared v → IsWord (at v)
  is_word v l = one_word (at v) (direct-is os (sound-all ds d.decls) (few-all ds d.few) (distinct-all ds d.distinct) (at v) v (denoted v l)).whole

  word_back : (v : ℕ) → Declared v → variables_of os (at v) ≡ v ∷ []
  word_back v l =
      let s = sound-all ds d.decls in
      let o = denoted v l in
      variables-are os s (at v) v o (cells_few os s (few-all ds d.few) (distinct-all ds d.distinct) (at v) v o) (declared_there os s (few-all ds d.few) (distinct-all ds d.distinct) (at v) v o)

  spelt : (v : ℕ) → Declared v → (k : Condition) → word_meets (at v) k ≡ true
  spelt v l k =
      let s = sound-all ds d.decls in
      let o = denoted v l in
      word-met os s (at v) v o (cells_few os s (few-all ds d.few) (distinct-all ds d.distinct) (at v) v o) (declared_there os s (few-all ds d.few) (distinct-all ds d.distinct) (at v) v o) k

  named : (v : ℕ) → Declared v → (k : Condition) → name_meets os (at v) k ≡ true
  named v l k =
      let s = sound-all ds d.decls in
      let o = denoted v l in
      name-met os s (at v) v o (cells_few os s (few-all ds d.few) (distinct-all ds d.distinct) (at v) v o) (declared_there os s (few-all ds d.few) (distinct-all ds d.distinct) (at v) v o) k

  indexed : (v : ℕ) → Declared v → (k : Condition) → all_meet size_meets (brackets_of (at v)) k ≡ true
  indexed v l k =
      let s = sound-all ds d.decls in
      let o = denoted v l in
      met_at (all_meet size_meets (brackets_of (at v)))
      (sizes-met os s (at v) v o (cells_few os s (few-all ds d.few) (distinct-all ds d.distinct) (at v) v o) (declared_there os s (few-all ds d.few) (distinct-all ds d.distinct) (at v) v o)) k

  word_met : (v : ℕ) → Declared v → (k : Condition) → variable_meets os (at v) k ≡ true
  word_met v l k = both (word_meets (at v) k) (name_meets os (at v) k) (spelt v l k) (named v l k)

  word_no_integer : (v : ℕ) → Declared v → integer_of (at v) ≡ None
  word_no_integer v l =
      let o = denoted v l in
      ap integer_of o.spelt ∙ no-integer o.outline.name (flat_map bracketed o.texts) (sound_at os o.at o.outline (sound-all ds d.decls) o.declared).identifier

  -- a list
  are_words : (vs : List ℕ) → AllByRecursion Declared vs → AllByRecursion IsWord (map at vs)
  are_words [] h = tt
  are_words (v ∷ vs) h = (is_word v h.0, are_words vs h.1)

  words_back : (vs : List ℕ) → AllByRecursion Declared vs → flat_map (variables_of os) (map at vs) ≡ vs
  words_back [] h = refl
  words_back (v ∷ vs) h = ap (λ us. us ++ flat_map (variables_of os) (map at vs)) (word_back v h.0) ∙ ap (λ us. v ∷ us) (words_back vs h.1)

  words_met : (vs : List ℕ) → AllByRecursion Declared vs → (k : Condition) → all_meet (variable_meets os) (map at vs) k ≡ true
  words_met [] h k = refl
  words_met (v ∷ vs) h k = both _ _ (word_met v h.0 k) (words_met vs h.1 k)

  pub list_back : (vs : List ℕ) → AllByRecursion Declared vs → vars_of os (vars_text (words ds) vs) ≡ vs
  list_back vs h = ap (flat_map (variables_of os)) (spaced_words (map at vs) (are_words vs h)) ∙ words_back vs h

  pub list_spelt : (vs : List ℕ) → AllByRecursion Declared vs → (k : Condition) → all_meet (variable_meets os) (words_of (vars_text (words ds) vs)) k ≡ true
  list_spelt vs h k = ap (λ ws. all_meet (variable_meets os) ws k) (spaced_words (map at vs) (are_words vs h)) ∙ words_met vs h k

  -- a term
  term_is_word : (t : Term) → Formed t → IsWord (term_word (words ds) t)
  term_is_word (Int z) h = integer_is_word z h
  term_is_word (Var v) h = is_word v h

  term_alone : (t : Term) → Formed t → word_in (term_text (words ds) t) ≡ Some (term_word (words ds) t)
  term_alone t h = ap only_of (spaced_words (term_word (words ds) t ∷ []) (term_is_word t h, tt))

  single_back : (t : Term) → Formed t → single_of os (term_word (words ds) t) ≡ t
  single_back (Int z) h = ap (single_by os (signed_decimal z)) (integer_back z h)
  single_back (Var v) h = ap (single_by os (at v)) (word_no_integer v h) ∙ ap (λ vs. Var (first_of vs)) (word_back v h)

  single_met : (t : Term) → Formed t → (k : Condition) → single_meets os (term_word (words ds) t) k ≡ true
  single_met (Int z) h k = ap (λ o. single_meets_by os (signed_decimal z) o k) (integer_back z h) ∙ spelt_small z h k
  single_met (Var v) h k =
      ap (λ o. single_meets_by os (at v) o k) (word_no_integer v h)
      ∙ both (direct_spelt (at v) k) (name_meets os (at v) k) (both (word_meets (at v) k) (all_meet size_meets (brackets_of (at v)) k) (spelt v h k) (indexed v h k)) (named v h k)

  pub term_back : (t : Term) → Formed t → one_term_of os (term_text (words ds) t) ≡ t
  term_back t h = ap (one_term_in os) (term_alone t h) ∙ single_back t h

  pub term_met : (t : Term) → Formed t → (k : Condition) → one_term_meets os (term_text (words ds) t) k ≡ true
  term_met t h k = ap (λ o. one_word_meets (single_meets os) o k) (term_alone t h) ∙ single_met t h k
