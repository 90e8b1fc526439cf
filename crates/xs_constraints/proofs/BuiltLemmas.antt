-- Each constraint that is denoted is of a form that is built.
use Rattle.std.proofs.Common.{◌≡◌, ℕ, Bool, true, false, if◌then◌else◌, codes, List, [], ◌∷◌, Option, None, Some, Result, Ok, Err, refl}
use Rattle.std.specs.Prelude.{IfOk}
use Rattle.std.specs.Str.{bytes_eq}
use Rattle.xf_text.specs.declared.fault.FieldStop.{FieldStop}
use Rattle.xs_automata.specs.Mdd.{both_denote, both_in, mdd_of}
use Rattle.xs_automata.specs.Regular.{regular_of}
use Rattle.xs_constraints.specs.Forms.{form_of}
use Rattle.xs_fields.specs.Conditions.{IsOrMemory, answer_on, first_missed}
use Rattle.xs_fields.specs.declared.condition.Condition.{Condition}
use Rattle.xs_language.specs.Language as language
use Rattle.xs_model.specs.Accepted.{is_built}
use Rattle.xs_model.specs.Outline.{Outline}
use Rattle.xs_model.specs.declared.concrete.Concrete.{Concrete}
use Rattle.xs_model.specs.declared.instance.Constraint.{Constraint}
use Rattle.xs_model.specs.declared.instance.Constraint.TheVariants.{Extension}
use Rattle.xs_relate.specs.Different.{different_of}
use Rattle.xs_relate.specs.Forms as related
use Rattle.xs_relate.specs.Intension.{intension_of}
use Rattle.xs_tables.specs.Extension.{extension_of, supported_of, two_texts}
use Rattle.xs_tables.specs.Tables.{are_tuples, ranged, table_of}
use Rattle.xs_fields.specs.Lists.{pieces_of}
use Rattle.xs_tables.specs.Tuples.{tuples_of}
use Rattle.xs_fields.specs.Cells.{vars_of}

table_built : (os : List Outline) (list text : List ℕ) (positive : Bool) → is_built (table_of os list text positive) ≡ true
table_built os list text positive = by (are_tuples text) (vars_of os list)
  where
    by : (v : Bool) (vs : List ℕ) → is_built (if v then Extension vs (tuples_of text) positive else ranged positive vs (pieces_of text)) ≡ true
    by true vs = refl
    by false [] = refl
    by false (v ∷ []) = refl
    by false (v ∷ w ∷ vs) = refl

supported_built : (os : List Outline) (supports conflicts : Option (List ℕ × List ℕ)) → is_built (supported_of os supports conflicts) ≡ true
supported_built os (Some t) conflicts = table_built os t.0 t.1 true
supported_built os None (Some t) = table_built os t.0 t.1 false
supported_built os None None = refl

diagram_built : (os : List Outline) (o : Option (List ℕ × List ℕ)) → is_built (both_denote os o) ≡ true
diagram_built os None = refl
diagram_built os (Some t) = refl

pub language_built : (os : List Outline) (c : Concrete) → is_built (language.form_of os c) ≡ true
language_built os c = by (bytes_eq c.name (codes "extension")) (bytes_eq c.name (codes "regular"))
  where
    by : (v w : Bool) → is_built (if v then extension_of os c else (if w then regular_of os c else mdd_of os c)) ≡ true
    by true w = supported_built os (two_texts (codes "list") (codes "supports") c.parts) (two_texts (codes "list") (codes "conflicts") c.parts)
    by false true = refl
    by false false = diagram_built os (both_in c.parts)

pub related_built : (os : List Outline) (c : Concrete) → is_built (related.form_of os c) ≡ true
related_built os c = by (bytes_eq c.name (codes "allDifferent"))
  where
    by : (v : Bool) → is_built (if v then different_of os c else intension_of os c) ≡ true
    by true = refl
    by false = refl

pub form_built : (os : List Outline) (c : Concrete) → is_built (form_of os c) ≡ true
form_built os c = by (language.is_form c.name)
  where
    by : (v : Bool) → is_built (if v then language.form_of os c else related.form_of os c) ≡ true
    by true = language_built os c
    by false = related_built os c

-- so is what is answered
pub answered_built : (r : Result Constraint FieldStop) (test : Condition → Bool) (x : Constraint) → is_built x ≡ true → IsOrMemory r (answer_on (first_missed test) x) → IfOk r (λ y. is_built y ≡ true)
answered_built (Err e) test x built h = tt
answered_built (Ok y) test x built h = by (first_missed test) h
  where
    by : (o : Option Condition) → Ok y ≡ answer_on o x → is_built y ≡ true
    by None e = cc (e, built)
    by (Some k) e = cc e
