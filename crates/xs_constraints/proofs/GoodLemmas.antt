-- What a constraint denotes that misses nothing, family by family.
use Rattle.std.proofs.Common.{◌≡◌, ℕ, ◌≤◌, Bool, true, false, ◌&&◌, nat_le, if◌then◌else◌, codes, List, [], length, Option, None, Some, arith}
use Rattle.std.specs.Str.{bytes_eq}
use borrow.Author.Tests.{leb-true}
use Rattle.xs_automata.proofs.FormedLemmas.{mdd_good, regular_good}
use Rattle.xs_automata.specs.Mdd.{mdd_meets, mdd_of}
use Rattle.xs_automata.specs.Regular.{regular_meets, regular_of}
use Rattle.xs_constraints.proofs.BuiltLemmas.{form_built}
use Rattle.xs_constraints.specs.Forms.{form_meets, form_of}
use Rattle.xs_constraints.specs.Law.{AreGoodForms}
use Rattle.xs_expr.specs.Tokens.{tokens_of}
use Rattle.xs_fields.specs.Cells.{variable_words_meet, vars_meet, vars_of}
use Rattle.xs_fields.specs.Conditions.{first_missed}
use Rattle.xs_fields.specs.Lists.{count_meets}
use Rattle.xs_fields.specs.declared.condition.Condition.{Condition}
use Rattle.xs_fields.specs.declared.condition.Condition.TheVariants.{Counting, Spelling}
use Rattle.xs_fields.proofs.FirstLemmas.{all_met, met_at}
use Rattle.xs_fields.proofs.IntegerLemmas.{and_left, and_right}
use Rattle.xs_language.specs.Language as language
use Rattle.xs_model.proofs.FormLemmas.{different_formed, expression_formed, items-different, items-expression}
use Rattle.xs_model.specs.Accepted.{IsFormed, items_of}
use Rattle.xs_model.specs.Formed.{IsFormedExpr, nodes}
use Rattle.xs_model.specs.Outline.{Outline, variables_in}
use Rattle.xs_model.specs.declared.concrete.Concrete.{Concrete}
use Rattle.xs_model.specs.declared.instance.Constraint.{Constraint}
use Rattle.xs_notation.proofs.FormedLemmas.{formed-expr}
use Rattle.xs_notation.specs.Nesting.{nesting_meets}
use Rattle.xs_notation.specs.Parse.{parse}
use Rattle.xs_notation.specs.Reading.{counted_expr_meets, expr_at, expr_in, expr_meets, raw_meets, tree_meets}
use Rattle.xs_notation.specs.declared.raw.Raw.{Raw}
use Rattle.xs_parts.specs.Nesting.{are_parts_shallow, are_words_shallow}
use Rattle.xs_parts.specs.Parts.{one_text, text_of_one}
use Rattle.xs_relate.specs.Different.{different_meets, different_of}
use Rattle.xs_relate.specs.Forms as related
use Rattle.xs_relate.specs.Intension.{intension_meets, intension_of}
use Rattle.xs_relate.specs.Unit.{form_text, unit_meets}
use Rattle.xs_tables.proofs.BelowLemmas.{vars_below}
use Rattle.xs_tables.proofs.FormedLemmas.{extension_good}
use Rattle.xs_tables.specs.Extension.{extension_meets, extension_of}
use Rattle.xs_var.specs.Variable.{known_meets}

abbrev IsGood : List Outline → ℕ → Constraint → Type 0
IsGood os left x = IsFormed (variables_in os) x × (items_of x ≤ left)

raw_formed : (os : List Outline) (o : Option Raw) → ((k : Condition) → raw_meets os o k ≡ true) → IsFormedExpr (variables_in os) (expr_in os o)
raw_formed os None met = absurd (cc (met Spelling))
raw_formed os (Some r) met = formed-expr os r (all_met (tree_meets os r) met)

module _ (os : List Outline) (left : ℕ) (c : Concrete) where
  different_good : first_missed (different_meets os left c) ≡ None → IsGood os left (different_of os c)
  different_good h =
      let text : List ℕ = form_text (codes "list") c in
      let unit = λ (k : Condition). unit_meets (are_words_shallow (text_of_one (codes "list") c.parts)) (one_text (codes "list") c.parts) k in
      let met = met_at (different_meets os left c) h in
      let few : length (vars_of os text) ≤ left =
      leb-true _ _ (and_right (variable_words_meet os text Counting) (nat_le (length (vars_of os text)) left) (and_right (unit Counting) (vars_meet os text left Counting) (met Counting))) in
      (different_formed (variables_in os) (vars_of os text) (vars_below os text), omega (arith, few, items-different (vars_of os text)))

  intension_good : first_missed (intension_meets os left c) ≡ None → IsGood os left (intension_of os c)
  intension_good h =
      let text : List ℕ = form_text (codes "function") c in
      let unit = λ (k : Condition). unit_meets (are_parts_shallow c.parts) (one_text (codes "function") c.parts) k in
      let met = met_at (intension_meets os left c) h in
      let asked = λ (k : Condition). and_right (unit k) (counted_expr_meets os text left k) (met k) in
      let few : nodes (expr_at os text) ≤ left = leb-true _ _ (and_right (expr_meets os text Counting) (nat_le (nodes (expr_at os text)) left) (asked Counting)) in
      let formed : IsFormedExpr (variables_in os) (expr_at os text) =
      raw_formed os (parse (tokens_of text)) (λ k. and_right (nesting_meets text k) (raw_meets os (parse (tokens_of text)) k) (and_left (expr_meets os text k) (count_meets (nodes (expr_at os text)) left k) (asked k))) in
      (expression_formed (variables_in os) (expr_at os text) formed, omega (arith, few, items-expression (expr_at os text)))

  related_good : first_missed (related.form_meets os left c) ≡ None → IsGood os left (related.form_of os c)
  related_good = by (bytes_eq c.name (codes "allDifferent"))
    where
      by : (v : Bool) → first_missed (λ k. if v then different_meets os left c k else intension_meets os left c k) ≡ None → IsGood os left (if v then different_of os c else intension_of os c)
      by true h = different_good h
      by false h = intension_good h

  language_good : first_missed (language.form_meets os left c) ≡ None → IsGood os left (language.form_of os c)
  language_good = by (bytes_eq c.name (codes "extension")) (bytes_eq c.name (codes "regular"))
    where
      by : (v w : Bool) → first_missed (λ k. if v then extension_meets os left c k else (if w then regular_meets os left c k else mdd_meets os left c k)) ≡ None
          → IsGood os left (if v then extension_of os c else (if w then regular_of os c else mdd_of os c))
      by true w h = extension_good os left c h
      by false true h = regular_good os left c h
      by false false h = mdd_good os left c h

  form_good : first_missed (form_meets os left c) ≡ None → IsGood os left (form_of os c)
  form_good = by (language.is_form c.name) (related.is_form c.name)
    where
      by : (v w : Bool) → first_missed (λ k. if v then language.form_meets os left c k else (if w then related.form_meets os left c k else known_meets false k)) ≡ None → IsGood os left (if v then language.form_of os c else related.form_of os c)
      by true w h = language_good h
      by false true h = related_good h
      by false false h = cc

pub good_forms : AreGoodForms
good_forms = record { formed = λ os left c h. (form_good os left c h).0; few = λ os left c h. (form_good os left c h).1; built = form_built }
