-- The words of variables and terms, as they are written, are read as these.
use Rattle.std.proofs.Common.{◌≡◌, ℕ, ◌<◌, ℤ, pos, Bool, true, false, not, ◌&&◌, if◌then◌else◌, List, [], ◌∷◌, ◌++◌, length, map, None, Some, Ok, Err, refl, ap, ◌∙◌, arith, is_some}
use Rattle.std.specs.Fmt.{signed_decimal}
use Rattle.std.specs.List.{flat_map, list_all}
use Rattle.std.proofs.lemmas.Bool.{ne_eqb}
use Rattle.xs_boxes.specs.Written.{term_word, word_at}
use Rattle.xs_conditions.specs.Single.{direct_meets, direct_of, first_of, single_by, single_meets, single_meets_by, single_of}
use Rattle.xs_expr.specs.Tokens.{is_in_word}
use Rattle.xs_fields.specs.Cells.{name_meets, variable_meets, variables_of}
use Rattle.xs_fields.specs.Conditions.{all_meet, judged, meets}
use Rattle.xs_fields.specs.Integers.{integer_of, is_small}
use Rattle.xs_fields.specs.Lists.{copies, is_small_run, members_in, members_of, once, run_in, run_meets, run_of}
use Rattle.xs_fields.specs.Sizes.{brackets_of, size_meets}
use Rattle.xs_fields.specs.Terms.{is_run, term_meets, word_terms}
use Rattle.xs_fields.specs.Variables as variables
use Rattle.xs_fields.specs.Words.{is_byte, onto_first, parts}
use Rattle.xs_fields.specs.declared.condition.Condition.{Condition}
use Rattle.xs_fields.specs.declared.condition.Condition.TheVariants.{Magnitude}
use Rattle.xs_fields.specs.declared.runs.Run.{Run}
use Rattle.xs_fields.proofs.Decimals.{decimal-spells, integer-bytes, integer-some}
use Rattle.xs_fields.proofs.DirectLemmas.{no-integer}
use Rattle.xs_fields.proofs.DistinctNames.{cells_few, declared_there, one_denotation}
use Rattle.xs_fields.proofs.FirstLemmas.{met_at}
use Rattle.xs_fields.proofs.IntegerLemmas.{and_left, and_right}
use Rattle.xs_fields.proofs.ReachedLemmas.{sizes-met}
use Rattle.xs_language.proofs.CutLemmas.{both, whole}
use Rattle.xs_language.proofs.WrittenLemmas.{integer_word, read_integer, right, small_is}
use Rattle.xs_model.proofs.FindLemmas.{sound_at}
use Rattle.xs_model.specs.Denotes.{Denotes, bracketed}
use Rattle.xs_model.specs.Fields.{item_of}
use Rattle.xs_model.specs.Formed.{IsFormedItem}
use Rattle.xs_model.specs.Identifier.{IsIdentifier}
use Rattle.xs_model.specs.Names.{words}
use Rattle.xs_model.specs.Outline.{Outline, outlines_of}
use Rattle.xs_model.specs.Sound.{IsSmall}
use Rattle.xs_model.specs.declared.decl.Decl.{Decl}
use Rattle.xs_model.specs.declared.term.Term.{Term}
use Rattle.xs_model.specs.declared.term.Term.TheVariants.{Int, Var}
use Rattle.xs_notation.proofs.Declared.{denotes, distinct-all, few-all, sound-all}
use Rattle.xs_notation.proofs.Marked.{IsOneWord}
use Rattle.xs_notation.proofs.Reached.{direct-is}
use Rattle.xs_notation.specs.Law.{AreDeclared}

-- a text of bytes of words, and not empty
pub record IsText (w : List ℕ) : Type 0 where
  pub some : 0 < length w
  pub plain : list_all is_in_word w ≡ true

one_word : (w : List ℕ) → IsOneWord w → IsText w
one_word [] h = absurd h
one_word (b ∷ bs) h = record { some = omega arith; plain = both _ _ h.0 h.1 }

-- integers in a list of terms
read_run : (z : ℤ) → IsSmall z → run_of (signed_decimal z) ≡ Some (record { value = z; times = pos 1 })
read_run z h =
    ap run_in (whole (is_byte 120) (signed_decimal z) (integer-bytes (λ b. not (is_byte 120 b)) refl refl (λ c l g. ap not (ne_eqb c 120 (λ e. omega (arith, g, e)))) (signed_decimal z) (decimal-spells z h).0))
    ∙ ap once (read_integer z h)

small_run : (z : ℤ) → IsSmall z → is_small_run (record { value = z; times = pos 1 }) ≡ true
small_run z h = both (is_small z) true (small_is z h) refl

run_members : (z : ℤ) → IsSmall z → members_of (signed_decimal z) ≡ z ∷ []
run_members z h =
    let r : Run = record { value = z; times = pos 1 } in
    ap (λ o. members_in (judged is_small_run o)) (read_run z h) ∙ ap (λ (v : Bool). members_in (if v then Ok r else Err Magnitude)) (small_run z h)

-- a word that begins with a letter is no run
no_run : (ps : List (List ℕ)) (p : List ℕ) → integer_of p ≡ None → run_in (p ∷ ps) ≡ None
no_run [] p h = ap once h
no_run (k ∷ []) p h = ap (λ o. copies o (integer_of k)) h
no_run (k ∷ q ∷ qs) p h = refl

letter_no_run : (n rest : List ℕ) → IsIdentifier n → run_of (n ++ rest) ≡ None
letter_no_run [] rest h = absurd h
letter_no_run (b ∷ bs) rest h = by (is_byte 120 b) (parts (is_byte 120) (bs ++ rest))
  where
    by : (v : Bool) (ps : List (List ℕ)) → run_in (if v then [] ∷ ps else onto_first b ps) ≡ None
    by true ps = no_run ps [] refl
    by false [] = no_run [] (b ∷ []) (no-integer (b ∷ []) [] (h.0, refl))
    by false (p ∷ ps) = no_run ps (b ∷ p) (no-integer (b ∷ []) p (h.0, refl))

module _ (ds : List Decl) (d : AreDeclared ds) where
  abbrev os : List Outline
  os = outlines_of ds

  abbrev pub at : ℕ → List ℕ
  at v = word_at (words ds) v

  abbrev pub Declared : ℕ → Type 0
  Declared v = v < length (words ds)

  denoted : (v : ℕ) → Declared v → Denotes os (at v) v
  denoted v l = denotes ds v d.decls d.few l

  -- variables
  pub is_text : (v : ℕ) → Declared v → IsText (at v)
  is_text v l = one_word (at v) (direct-is os (sound-all ds d.decls) (few-all ds d.few) (distinct-all ds d.distinct) (at v) v (denoted v l)).whole

  pub word_back : (v : ℕ) → Declared v → variables_of os (at v) ≡ v ∷ []
  word_back v l = one_denotation.same os (record { sound = sound-all ds d.decls; few = few-all ds d.few; distinct = distinct-all ds d.distinct }) (at v) v (denoted v l)

  pub word_met : (v : ℕ) → Declared v → (k : Condition) → variable_meets os (at v) k ≡ true
  word_met v l k = met_at (variable_meets os (at v)) (one_denotation.met os (record { sound = sound-all ds d.decls; few = few-all ds d.few; distinct = distinct-all ds d.distinct }) (at v) v (denoted v l)) k

  indices_met : (v : ℕ) → Declared v → (k : Condition) → all_meet size_meets (brackets_of (at v)) k ≡ true
  indices_met v l k =
      let sound = sound-all ds d.decls in
      let few = few-all ds d.few in
      let distinct = distinct-all ds d.distinct in
      met_at (all_meet size_meets (brackets_of (at v))) (sizes-met os sound (at v) v (denoted v l) (cells_few os sound few distinct (at v) v (denoted v l)) (declared_there os sound few distinct (at v) v (denoted v l))) k

  pub direct_met : (v : ℕ) → Declared v → (k : Condition) → direct_meets os (at v) k ≡ true
  direct_met v l k =
      both (variables.word_meets (at v) k && all_meet size_meets (brackets_of (at v)) k) (name_meets os (at v) k)
      (both (variables.word_meets (at v) k) (all_meet size_meets (brackets_of (at v)) k) (and_left (variables.word_meets (at v) k) (name_meets os (at v) k) (word_met v l k)) (indices_met v l k))
      (and_right (variables.word_meets (at v) k) (name_meets os (at v) k) (word_met v l k))

  pub direct_back : (v : ℕ) → Declared v → direct_of os (at v) ≡ v
  direct_back v l = ap first_of (word_back v l)

  word_no_run : (v : ℕ) → Declared v → is_run (at v) ≡ false
  word_no_run v l =
      let o = denoted v l in
      ap is_some (ap run_of o.spelt ∙ letter_no_run o.outline.name (flat_map bracketed o.texts) (sound_at os o.at o.outline (sound-all ds d.decls) o.declared).identifier)

  word_no_integer : (v : ℕ) → Declared v → integer_of (at v) ≡ None
  word_no_integer v l =
      let o = denoted v l in
      ap integer_of o.spelt ∙ no-integer o.outline.name (flat_map bracketed o.texts) (sound_at os o.at o.outline (sound-all ds d.decls) o.declared).identifier

  -- terms
  abbrev pub Formed : Term → Type 0
  Formed t = IsFormedItem (length (words ds)) (item_of t)

  pub term_is_text : (t : Term) → Formed t → IsText (term_word (words ds) t)
  term_is_text (Int z) h = record { some = integer-some (signed_decimal z) (decimal-spells z h).0; plain = integer_word z h }
  term_is_text (Var v) h = is_text v h

  pub term_back : (t : Term) → Formed t → word_terms os (term_word (words ds) t) ≡ t ∷ []
  term_back (Int z) h =
      ap (λ (v : Bool). if v then map Int (members_of (signed_decimal z)) else map Var (variables_of os (signed_decimal z))) (ap is_some (read_run z h)) ∙ ap (map Int) (run_members z h)
  term_back (Var v) h =
      ap (λ (b : Bool). if b then map Int (members_of (at v)) else map Var (variables_of os (at v))) (word_no_run v h) ∙ ap (map Var) (word_back v h)

  pub term_met : (t : Term) → Formed t → (k : Condition) → term_meets os (term_word (words ds) t) k ≡ true
  term_met (Int z) h k =
      ap (λ (v : Bool). if v then run_meets (signed_decimal z) k else variable_meets os (signed_decimal z) k) (ap is_some (read_run z h))
      ∙ ap (λ o. meets is_small_run o k) (read_run z h) ∙ right is_small_run (record { value = z; times = pos 1 }) (small_run z h) k
  term_met (Var v) h k =
      ap (λ (b : Bool). if b then run_meets (at v) k else variable_meets os (at v) k) (word_no_run v h) ∙ word_met v h k

  pub single_met : (t : Term) → Formed t → (k : Condition) → single_meets os (term_word (words ds) t) k ≡ true
  single_met (Int z) h k = ap (λ o. single_meets_by os (signed_decimal z) o k) (read_integer z h) ∙ right is_small z (small_is z h) k
  single_met (Var v) h k = ap (λ o. single_meets_by os (at v) o k) (word_no_integer v h) ∙ direct_met v h k

  pub single_back : (t : Term) → Formed t → single_of os (term_word (words ds) t) ≡ t
  single_back (Int z) h = ap (λ o. single_by os (signed_decimal z) o) (read_integer z h)
  single_back (Var v) h = ap (λ o. single_by os (at v) o) (word_no_integer v h) ∙ ap (λ u. Var u) (direct_back v h)
