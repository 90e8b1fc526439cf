-- An objective that misses nothing is well formed over declared variables, and has no more items than are left.
use Rattle.std.proofs.Common.{◌≡◌, ℕ, ◌+◌, ◌<◌, ◌≤◌, ℤ, pos, nat_abs, Bool, true, false, ◌&&◌, nat_eq, nat_le, nat_lt, List, [], ◌∷◌, ◌++◌, length, map, replicate, Option, None, Some, Ok, Err, refl, ap, ◌∙◌, arith, codes, if◌then◌else◌, zero, suc}
use Rattle.std.specs.List.{AllByRecursion, flat_map}
use Rattle.std.proofs.lemmas.Bool.{eqb-true}
use Rattle.std.proofs.lemmas.List.{length-map}
use borrow.Author.Tests.{leb-true, ltb-true}
use Rattle.xs_expr.specs.Tokens.{tokens_of}
use Rattle.xs_fields.specs.Cells.{variable_words_meet, variables_of, vars_meet, vars_of}
use Rattle.xs_fields.specs.Conditions.{first_missed, judged}
use Rattle.xs_fields.specs.Integers.{is_small}
use Rattle.xs_fields.specs.Lists.{count_meets, is_small_run, members_in, members_of, run_of}
use Rattle.xs_fields.specs.Terms.{is_run, word_terms}
use Rattle.xs_fields.specs.Words.{words_of}
use Rattle.xs_fields.specs.declared.condition.Condition.{Condition}
use Rattle.xs_fields.specs.declared.condition.Condition.TheVariants.{Counting, Fitting, Magnitude, Spelling}
use Rattle.xs_fields.specs.declared.runs.Run.{Run}
use Rattle.xs_fields.proofs.FirstLemmas.{all_met, met_at}
use Rattle.xs_fields.proofs.IntegerLemmas.{and_left, and_right}
use Rattle.xs_model.proofs.FormLemmas.{items_of_below}
use Rattle.xs_model.specs.Fields.{Variable, body_fields, item_of}
use Rattle.xs_model.specs.Fitting.{IsFittingBody}
use Rattle.xs_model.specs.Formed.{AreFormed, IsFormedExpr, IsFormedItem, count_in, nodes}
use Rattle.xs_model.specs.Outline.{Outline, variables_in}
use Rattle.xs_model.specs.Sound.{magnitudes}
use Rattle.xs_model.specs.declared.concrete.Concrete.{Concrete}
use Rattle.xs_model.specs.declared.concrete.Part.{Part}
use Rattle.xs_model.specs.declared.instance.Body.{Body}
use Rattle.xs_model.specs.declared.instance.Body.TheVariants as body
use Rattle.xs_model.specs.declared.term.Term.{Term}
use Rattle.xs_model.specs.declared.term.Term.TheVariants.{Int, Var}
use Rattle.xs_notation.proofs.FormedLemmas.{formed-expr}
use Rattle.xs_notation.specs.Nesting.{nesting_meets}
use Rattle.xs_notation.specs.Parse.{parse}
use Rattle.xs_notation.specs.Reading.{counted_expr_meets, expr_at, expr_in, expr_meets, raw_meets, tree_meets}
use Rattle.xs_notation.specs.declared.raw.Raw.{Raw}
use Rattle.xs_objectives.specs.Lists.{coeffs_meet, coeffs_of, is_one_list, is_one_sum, list_meets, list_text, own_text, sum_meets}
use Rattle.xs_objectives.specs.Objective.{body_meets, body_of, objective_meets, objective_of, type_of, typed_body, typed_meets}
use Rattle.xs_objectives.specs.declared.measure.Measure.{Measure}
use Rattle.xs_objectives.specs.declared.measure.Measure.TheVariants.{Expression, Sum, Minimum, Maximum, Distinct}
use Rattle.xs_tables.proofs.BelowLemmas.{vars_below}
use Rattle.xs_tables.specs.Extension.{text_in}
use Rattle.xs_var.specs.Variable.{spelling_meets}

pub record IsGood (os : List Outline) (left : ℕ) (b : Body) : Type 0 where
  pub formed : AreFormed (variables_in os) (body_fields b)
  pub fitting : IsFittingBody b
  pub few : count_in (body_fields b) ≤ left

-- the terms of a text
front : {A : Type 0} (P : A → Type 0) (xs ys : List A) → AllByRecursion P (xs ++ ys) → AllByRecursion P xs
front P [] ys h = tt
front P (x ∷ xs) ys h = (h.0, front P xs ys h.1)

behind : {A : Type 0} (P : A → Type 0) (xs ys : List A) → AllByRecursion P (xs ++ ys) → AllByRecursion P ys
behind P [] ys h = h
behind P (x ∷ xs) ys h = behind P xs ys h.1

items_more : (n : ℕ) (xs ys : List Term) → AllByRecursion (IsFormedItem n) (map item_of xs) → AllByRecursion (IsFormedItem n) (map item_of ys) → AllByRecursion (IsFormedItem n) (map item_of (xs ++ ys))
items_more n [] ys h g = g
items_more n (x ∷ xs) ys h g = (h.0, items_more n xs ys h.1 g)

variables_formed : (n : ℕ) (vs : List ℕ) → AllByRecursion (λ v. v < n) vs → AllByRecursion (IsFormedItem n) (map item_of (map Var vs))
variables_formed n [] h = tt
variables_formed n (v ∷ vs) h = (h.0, variables_formed n vs h.1)

copies_formed : (n : ℕ) (z : ℤ) → is_small z ≡ true → (zs : List ℤ) → AllByRecursion (λ x. x ≡ z) zs → AllByRecursion (IsFormedItem n) (map item_of (map Int zs))
copies_formed n z small [] h = tt
copies_formed n z small (x ∷ zs) h = (leb-true (nat_abs x) magnitudes (ap is_small h.0 ∙ small), copies_formed n z small zs h.1)

all_copies : {A : Type 0} (z : A) (k : ℕ) → AllByRecursion (λ x. x ≡ z) (replicate k z)
all_copies z zero = tt
all_copies z (suc k) = (refl, all_copies z k)

run_formed : (n : ℕ) (o : Option Run) → AllByRecursion (IsFormedItem n) (map item_of (map Int (members_in (judged is_small_run o))))
run_formed n None = tt
run_formed n (Some r) = by (is_small r.value) (is_small r.times) refl
  where
    by : (v w : Bool) → is_small r.value ≡ v → AllByRecursion (IsFormedItem n) (map item_of (map Int (members_in (if v && w then Ok r else Err Magnitude))))
    by true true e = copies_formed n r.value e (replicate (nat_abs r.times) r.value) (all_copies r.value (nat_abs r.times))
    by true false e = tt
    by false w e = tt

word_formed : (os : List Outline) (w : List ℕ) → AllByRecursion (λ v. v < variables_in os) (variables_of os w) → AllByRecursion (IsFormedItem (variables_in os)) (map item_of (word_terms os w))
word_formed os w h = by (is_run w)
  where
    by : (v : Bool) → AllByRecursion (IsFormedItem (variables_in os)) (map item_of (if v then map Int (members_of w) else map Var (variables_of os w)))
    by true = run_formed (variables_in os) (run_of w)
    by false = variables_formed (variables_in os) (variables_of os w) h

words_formed : (os : List Outline) (ws : List (List ℕ)) → AllByRecursion (λ v. v < variables_in os) (flat_map (variables_of os) ws) → AllByRecursion (IsFormedItem (variables_in os)) (map item_of (flat_map (word_terms os) ws))
words_formed os [] h = tt
words_formed os (w ∷ ws) h =
    items_more (variables_in os) (word_terms os w) (flat_map (word_terms os) ws)
    (word_formed os w (front (λ v. v < variables_in os) (variables_of os w) (flat_map (variables_of os) ws) h))
    (words_formed os ws (behind (λ v. v < variables_in os) (variables_of os w) (flat_map (variables_of os) ws) h))

pub coeffs_formed : (os : List Outline) (o : Option (List ℕ)) (n : ℕ) → AllByRecursion (IsFormedItem (variables_in os)) (map item_of (coeffs_of os o n))
coeffs_formed os None n = ones n
  where
    ones : (k : ℕ) → AllByRecursion (IsFormedItem (variables_in os)) (map item_of (replicate k (Int (pos 1))))
    ones zero = tt
    ones (suc k) = (leb-true 1 magnitudes refl, ones k)
coeffs_formed os (Some text) n = words_formed os (words_of text) (vars_below os text)

-- an expression
raw_formed : (os : List Outline) (o : Option Raw) → ((k : Condition) → raw_meets os o k ≡ true) → IsFormedExpr (variables_in os) (expr_in os o)
raw_formed os None met = absurd (cc (met Spelling))
raw_formed os (Some r) met = formed-expr os r (all_met (tree_meets os r) met)

module _ (os : List Outline) (left : ℕ) where
  value_good : (text : List ℕ) → first_missed (counted_expr_meets os text left) ≡ None → IsGood os left (body.Value (expr_at os text))
  value_good text h =
      let met = met_at (counted_expr_meets os text left) h in
      let few : nodes (expr_at os text) ≤ left = leb-true _ _ (and_right (expr_meets os text Counting) (nat_le (nodes (expr_at os text)) left) (met Counting)) in
      record {
        formed = (raw_formed os (parse (tokens_of text)) (λ k. and_right (nesting_meets text k) (raw_meets os (parse (tokens_of text)) k) (and_left (expr_meets os text k) (count_meets (nodes (expr_at os text)) left k) (met k))), tt);
        fitting = tt;
        few = omega (arith, few);
      }

  -- a list
  pub record IsList (text : List ℕ) : Type 0 where
    pub formed : AllByRecursion (IsFormedItem (variables_in os)) (map Variable (vars_of os text))
    pub few : length (vars_of os text) ≤ left

  list_is : (spelt filled : Bool) (text : List ℕ) → first_missed (λ k. spelling_meets spelt k && list_meets os left filled text k) ≡ None → IsList text
  list_is spelt filled text h =
      let met = met_at (λ k. spelling_meets spelt k && list_meets os left filled text k) h in
      record {
        formed = items_of_below (variables_in os) (vars_of os text) (vars_below os text);
        few = leb-true _ _ (and_right (variable_words_meet os text Counting) (nat_le (length (vars_of os text)) left) (and_left (vars_meet os text left Counting) true (met Counting)));
      }

  members_few : (text : List ℕ) → IsList text → count_in (body_fields (body.Least (vars_of os text))) ≤ left
  members_few text h = omega (arith, h.few, length-map (vars_of os text) Variable)

  filled_is : (spelt : Bool) (text : List ℕ) → first_missed (λ k. spelling_meets spelt k && list_meets os left true text k) ≡ None → 0 < length (vars_of os text)
  filled_is spelt text h = ltb-true _ _ (and_right (vars_meet os text left Fitting) (nat_lt 0 (length (vars_of os text))) (met_at (λ k. spelling_meets spelt k && list_meets os left true text k) h Fitting))

  -- a sum
  sum_good : (spelt : Bool) (list : List ℕ) (coeffs : Option (List ℕ)) → first_missed (λ k. spelling_meets spelt k && sum_meets os left list coeffs k) ≡ None
      → IsGood os left (body.Sum (vars_of os list) (coeffs_of os coeffs (length (vars_of os list))))
  sum_good spelt list coeffs h =
      let n = length (vars_of os list) in
      let met = met_at (λ k. spelling_meets spelt k && sum_meets os left list coeffs k) h in
      let few : n + length (coeffs_of os coeffs n) ≤ left = leb-true _ _ (and_left (nat_le (n + length (coeffs_of os coeffs n)) left) true (and_right (vars_meet os list left Counting && coeffs_meet os left coeffs Counting) (nat_le (n + length (coeffs_of os coeffs n)) left && true) (met Counting))) in
      record {
        formed = ((coeffs_formed os coeffs n, vars_below os list), tt);
        fitting = eqb-true _ _ (and_right (vars_meet os list left Fitting && coeffs_meet os left coeffs Fitting) (nat_eq (length (coeffs_of os coeffs n)) n) (met Fitting));
        few = omega (arith, few);
      }

  pub body_good : (m : Measure) (parts : List Part) → first_missed (body_meets os left m parts) ≡ None → IsGood os left (body_of os m parts)
  body_good Expression parts h = value_good (own_text parts) h
  body_good Sum parts h = sum_good (is_one_sum parts) (list_text parts) (text_in (codes "coeffs") parts) h
  body_good Minimum parts h =
      let list = list_is (is_one_list parts) true (list_text parts) h in
      record { formed = (list.formed, tt); fitting = filled_is (is_one_list parts) (list_text parts) h; few = members_few (list_text parts) list }
  body_good Maximum parts h =
      let list = list_is (is_one_list parts) true (list_text parts) h in
      record { formed = (list.formed, tt); fitting = filled_is (is_one_list parts) (list_text parts) h; few = members_few (list_text parts) list }
  body_good Distinct parts h =
      let list = list_is (is_one_list parts) false (list_text parts) h in
      record { formed = (list.formed, tt); fitting = tt; few = members_few (list_text parts) list }

typed_good : (os : List Outline) (left : ℕ) (o : Option Measure) (parts : List Part) → first_missed (typed_meets os left o parts) ≡ None → IsGood os left (typed_body os o parts)
typed_good os left None parts h = cc
typed_good os left (Some m) parts h = body_good os left m parts h

pub objective_good : (os : List Outline) (left : ℕ) (c : Concrete) → first_missed (objective_meets os left c) ≡ None → IsGood os left (objective_of os c).body
objective_good os left c h = typed_good os left (type_of c) c.parts h
