-- What is written of a circuit meets all conditions but the limits on what is read, and denotes it again.
use Rattle.std.proofs.Common.{◌≡◌, ℕ, ◌<◌, ℤ, pos, Bool, true, false, ◌&&◌, if◌then◌else◌, List, [], ◌∷◌, length, Option, None, Some, codes, refl, ap, sym, subst, ◌∙◌}
use Rattle.std.specs.Fmt.{signed_decimal}
use Rattle.std.specs.List.{AllByRecursion}
use Rattle.std.specs.Ordering.{int_eq}
use Rattle.std.proofs.lemmas.Bool.Decides.{Decides-int_eq}
use Rattle.xs_conditions.specs.Flags.{start_in, start_meets, start_of}
use Rattle.xs_fields.specs.Cells.{variable_words_meet, vars_meet, vars_of}
use Rattle.xs_fields.specs.Lists.{count_meets}
use Rattle.xs_fields.specs.declared.condition.Condition.{Condition}
use Rattle.xs_fields.specs.declared.condition.Condition.TheVariants.{Known, Nesting, Spelling, Magnitude, Naming, Counting, Fitting}
use Rattle.xs_model.proofs.FormLemmas.{below_of_items}
use Rattle.xs_model.specs.Fields.{item_of, optional, term}
use Rattle.xs_model.specs.Formed.{AreFormed, IsFormedItem}
use Rattle.xs_model.specs.Names.{words}
use Rattle.xs_model.specs.Outline.{Outline, outlines_of}
use Rattle.xs_model.specs.Sound.{IsSmall}
use Rattle.xs_model.specs.declared.concrete.Pair.{Pair}
use Rattle.xs_model.specs.declared.concrete.Part.{Part}
use Rattle.xs_model.specs.declared.decl.Decl.{Decl}
use Rattle.xs_model.specs.declared.instance.Constraint.TheVariants.{Circuit}
use Rattle.xs_model.specs.declared.term.Term.{Term}
use Rattle.xs_notation.specs.Law.{AreDeclared}
use Rattle.xs_parts.specs.Parts.{value_among}
use Rattle.xs_var.specs.Variable.{spelling_meets}
use Rattle.xs_circuits.specs.Circuit.{fields_denote, fields_meet, items_in, parts_denote, parts_meet, size_meets, size_of, texts_meet}
use Rattle.xs_circuits.specs.Law.{WrittenAgain, is_limit}
use Rattle.xs_circuits.specs.Written.{own_parts, part, parts_of, size_parts, start_pair, start_pairs, term_text, vars_text}
use Rattle.xs_circuits.proofs.WordLemmas.{both, integer_back, integer_met, list_back, list_spelt, term_back, term_met}

-- limits are not asked
counted : (count left : ℕ) (k : Condition) → is_limit k ≡ false → count_meets count left k ≡ true
counted count left Known h = refl
counted count left Nesting h = refl
counted count left Spelling h = refl
counted count left Magnitude h = refl
counted count left Naming h = refl
counted count left Counting h = cc
counted count left Fitting h = refl

spelt : (k : Condition) → spelling_meets true k ≡ true
spelt Known = refl
spelt Nesting = refl
spelt Spelling = refl
spelt Magnitude = refl
spelt Naming = refl
spelt Counting = refl
spelt Fitting = refl

-- the attribute of a start
record IsStart (text : Option (List ℕ)) (start : ℤ) : Type 0 where
  pub meets : (k : Condition) → start_meets text k ≡ true
  pub is : start_of text ≡ start

no_start : IsStart None (pos 0)
no_start = record { meets = λ k. refl; is = refl }

some_start : (start : ℤ) → IsSmall start → IsStart (Some (signed_decimal start)) start
some_start start small = record { meets = λ k. integer_met start small k; is = ap start_in (integer_back start small) }

pairs_start : (start : ℤ) → IsSmall start → IsStart (value_among (start_pairs start) (codes "startIndex")) start
pairs_start start small = by (int_eq start (pos 0)) refl
  where
    by : (b : Bool) → int_eq start (pos 0) ≡ b → IsStart (value_among (if b then [] else start_pair start ∷ []) (codes "startIndex")) start
    by true e = subst (λ (z : ℤ). IsStart None z) (sym ((Decides-int_eq start (pos 0)).0 e)) no_start
    by false e = some_start start small

module _ (ds : List Decl) (d : AreDeclared ds) where
  abbrev os : List Outline
  os = outlines_of ds

  abbrev Declared : ℕ → Type 0
  Declared v = v < length (words ds)

  -- the text of a size
  record IsSize (text : Option (List ℕ)) (size : Option Term) : Type 0 where
    pub meets : (k : Condition) → size_meets os text k ≡ true
    pub is : size_of os text ≡ size

  no_size : IsSize None None
  no_size = record { meets = λ k. refl; is = refl }

  some_size : (t : Term) → IsFormedItem (length (words ds)) (item_of t) → IsSize (Some (term_text (words ds) t)) (Some t)
  some_size t h = record { meets = λ k. term_met ds d t h k; is = ap (λ u. Some u) (term_back ds d t h) }

  -- parts that are read as a circuit
  record AreAgain (parts : List Part) (vs : List ℕ) (start : ℤ) (size : Option Term) : Type 0 where
    pub meets : (left : ℕ) (k : Condition) → is_limit k ≡ false → parts_meet os left parts k ≡ true
    pub same : parts_denote os parts ≡ Circuit vs start size

  module _ (list : List ℕ) (first nodes : Option (List ℕ)) (vs : List ℕ) (start : ℤ) (size : Option Term) (spells : (k : Condition) → variable_words_meet os list k ≡ true) (back : vars_of os list ≡ vs) (s : IsStart first start) (n : IsSize nodes size) where
    fields_met : (left : ℕ) (k : Condition) → is_limit k ≡ false → fields_meet os left list first nodes k ≡ true
    fields_met left k asked =
        both (texts_meet os left list first nodes k) (count_meets (items_in (length (vars_of os list)) nodes) left k)
        (both (vars_meet os list left k) (start_meets first k && size_meets os nodes k)
        (both (variable_words_meet os list k) (count_meets (length (vars_of os list)) left k) (spells k) (counted (length (vars_of os list)) left k asked))
        (both (start_meets first k) (size_meets os nodes k) (s.meets k) (n.meets k)))
        (counted (items_in (length (vars_of os list)) nodes) left k asked)

    spelt_met : (left : ℕ) (k : Condition) → is_limit k ≡ false → (spelling_meets true k && fields_meet os left list first nodes k) ≡ true
    spelt_met left k asked = both (spelling_meets true k) (fields_meet os left list first nodes k) (spelt k) (fields_met left k asked)

    fields_same : fields_denote os list first nodes ≡ Circuit vs start size
    fields_same = ap (λ us. Circuit us (start_of first) (size_of os nodes)) back ∙ ap (λ (z : ℤ). Circuit vs z (size_of os nodes)) s.is ∙ ap (λ (o : Option Term). Circuit vs start o) n.is

  own_again : (vs : List ℕ) → AllByRecursion Declared vs → AreAgain (own_parts (words ds) vs) vs (pos 0) None
  own_again [] h = record {
    meets = λ left k asked. spelt_met [] None None [] (pos 0) None (λ j. refl) refl no_start no_size left k asked;
    same = refl;
  }
  own_again (v ∷ vs) h = record {
    meets = λ left k asked. spelt_met (vars_text (words ds) (v ∷ vs)) None None (v ∷ vs) (pos 0) None (λ j. list_spelt ds d (v ∷ vs) h j) (list_back ds d (v ∷ vs) h) no_start no_size left k asked;
    same = fields_same (vars_text (words ds) (v ∷ vs)) None None (v ∷ vs) (pos 0) None (λ j. list_spelt ds d (v ∷ vs) h j) (list_back ds d (v ∷ vs) h) no_start no_size;
  }

  children_again : (vs : List ℕ) (pairs : List Pair) (start : ℤ) (size : Option Term) → AllByRecursion Declared vs → IsStart (value_among pairs (codes "startIndex")) start → AreFormed (length (words ds)) (optional term size)
      → AreAgain (part (codes "list") pairs (vars_text (words ds) vs) ∷ size_parts (words ds) size) vs start size
  children_again vs pairs start None h s formed = record {
    meets = λ left k asked. spelt_met (vars_text (words ds) vs) (value_among pairs (codes "startIndex")) None vs start None (λ j. list_spelt ds d vs h j) (list_back ds d vs h) s no_size left k asked;
    same = fields_same (vars_text (words ds) vs) (value_among pairs (codes "startIndex")) None vs start None (λ j. list_spelt ds d vs h j) (list_back ds d vs h) s no_size;
  }
  children_again vs pairs start (Some t) h s formed = record {
    meets = λ left k asked. spelt_met (vars_text (words ds) vs) (value_among pairs (codes "startIndex")) (Some (term_text (words ds) t)) vs start (Some t) (λ j. list_spelt ds d vs h j) (list_back ds d vs h) s (some_size t formed.0.0) left k asked;
    same = fields_same (vars_text (words ds) vs) (value_among pairs (codes "startIndex")) (Some (term_text (words ds) t)) vs start (Some t) (λ j. list_spelt ds d vs h j) (list_back ds d vs h) s (some_size t formed.0.0);
  }

  parts_again : (vs : List ℕ) (start : ℤ) (size : Option Term) → AllByRecursion Declared vs → IsSmall start → AreFormed (length (words ds)) (optional term size) → AreAgain (parts_of (words ds) vs start size) vs start size
  parts_again vs start (Some t) h small formed = children_again vs (start_pairs start) start (Some t) h (pairs_start start small) formed
  parts_again vs start None h small formed = by (int_eq start (pos 0)) refl
    where
      by : (b : Bool) → int_eq start (pos 0) ≡ b → AreAgain (if b then own_parts (words ds) vs else part (codes "list") (start_pairs start) (vars_text (words ds) vs) ∷ []) vs start None
      by true e = subst (λ (z : ℤ). AreAgain (own_parts (words ds) vs) vs z None) (sym ((Decides-int_eq start (pos 0)).0 e)) (own_again vs h)
      by false e = children_again vs (start_pairs start) start None h (pairs_start start small) tt

pub written_again : WrittenAgain
written_again ds list start size d formed =
    let below = below_of_items (length (words ds)) list formed.fields.0 in
    let r = parts_again ds d list start size below formed.fields.1.0.0 formed.fields.1.1 in
    record { meets = λ left k asked. r.meets left k asked; same = r.same }
