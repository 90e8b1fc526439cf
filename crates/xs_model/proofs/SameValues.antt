-- Whether a constraint holds depends on the values of the variables that it speaks of, and on nothing else.
use Rattle.std.proofs.Common.{◌≡◌, ℕ, ◌<◌, ℤ, pos, List, [], ◌∷◌, ◌++◌, map, refl, ◌∙◌, true, None, Some}
use Rattle.std.specs.Prelude.{⊤}
use Rattle.std.specs.List.{AllByRecursion, AllZip, flat_map}
use Rattle.xs_model.specs.declared.expr.Expr.{Expr}
use Rattle.xs_model.specs.declared.instance.Constraint.{Constraint}
use Rattle.xs_model.specs.declared.instance.Constraint.TheVariants.{Intension, Extension, Unary, Regular, Mdd, AllDifferent, DifferentLists, DifferentMatrix, AllEqual, Ordered, Lex, LexMatrix, Sum, Count, NValues, Cardinality, Minimum, Maximum, Element, ElementMatrix, Channel, ChannelTwo, ChannelValue, NoOverlap, Cumulative, Circuit, Instantiation}
use Rattle.xs_model.specs.declared.instance.Body.{Body}
use Rattle.xs_model.specs.declared.instance.Body.TheVariants as body
use Rattle.xs_model.specs.declared.term.Term.{Term}
use Rattle.xs_model.specs.declared.term.Term.TheVariants.{Int, Var}
use Rattle.xs_model.specs.declared.term.Cond.{Cond}
use Rattle.xs_model.specs.declared.term.Cond.TheVariants.{Lt, Le, Ge, Gt, Ne, Eq, InSpan, OutSpan, InSet, OutSet}
use Rattle.xs_model.specs.declared.term.Occurrence.{Occurrence}
use Rattle.xs_model.specs.declared.term.Occurrence.TheVariants as occurrence
use Rattle.std.specs.Prelude.{◌≢◌, ◌≤ℤ◌, ◌<ℤ◌}
use Rattle.xs_model.specs.Comparing.{AreDifferentBut, AreDifferentLists, AreDifferentLines, AreEqual, IsOrdered, IsLexOrdered, IsLexMatrix}
use Rattle.xs_model.specs.Conditions.{value_of, Meets}
use Rattle.xs_model.specs.Counting.{weighted_sum, places_among, distinct_count, IsCardinality, HasMemberAt, HasCellAt, IsChannel, IsChannelOfTwo, IsChannelOfValue}
use Rattle.xs_model.specs.Fields.{Variable, item_of, cond_items, occurrence_items, fields_of, body_fields, members, terms}
use Rattle.xs_model.specs.Formed.{IsFormedExpr, IsFormedField, IsFormedItem, AreFormed}
use Rattle.xs_model.specs.Instance.{Holds, body_value, values, term_values, rows_of, term_rows, OccursAs}
use Rattle.xs_model.specs.Language.{IsInTable, IsInSpans, IsAccepting, Spells}
use Rattle.xs_model.specs.Lists.{SomeOf, is_among, how_often}
use Rattle.xs_model.specs.Schedule.{IsNoOverlap, IsCumulative, AreEnds, IsCircuit}
use Rattle.xs_model.specs.Value.{at, val, least_of, greatest_of}

all_left : {X : Type 0} (P : X → Type 0) (xs ys : List X) → AllByRecursion P (xs ++ ys) → AllByRecursion P xs
all_left P [] ys h = tt
all_left P (x ∷ xs) ys h = (h.0, all_left P xs ys h.1)

all_right : {X : Type 0} (P : X → Type 0) (xs ys : List X) → AllByRecursion P (xs ++ ys) → AllByRecursion P ys
all_right P [] ys h = h
all_right P (x ∷ xs) ys h = all_right P xs ys h.1

-- values a and b that agree on the variables below n
module _ (n : ℕ) (a b : List ℤ) (same : (v : ℕ) → v < n → at a v ≡ at b v) (value : (e : Expr) → IsFormedExpr n e → val a e ≡ val b e) where
  values_same : (vs : List ℕ) → AllByRecursion (IsFormedItem n) (map Variable vs) → values a vs ≡ values b vs
  values_same [] h = refl
  values_same (v ∷ vs) h = λ i. same v h.0 i ∷ values_same vs h.1 i

  below_same : (vs : List ℕ) → AllByRecursion (λ v. v < n) vs → values a vs ≡ values b vs
  below_same [] h = refl
  below_same (v ∷ vs) h = λ i. same v h.0 i ∷ below_same vs h.1 i

  term_same : (t : Term) → IsFormedItem n (item_of t) → value_of a t ≡ value_of b t
  term_same (Int z) h = refl
  term_same (Var v) h = same v h

  terms_same : (ts : List Term) → AllByRecursion (IsFormedItem n) (map item_of ts) → term_values a ts ≡ term_values b ts
  terms_same [] h = refl
  terms_same (t ∷ ts) h = λ i. term_same t h.0 i ∷ terms_same ts h.1 i

  rows_same : (rows : List (List ℕ)) → AreFormed n (map members rows) → rows_of a rows ≡ rows_of b rows
  rows_same [] h = refl
  rows_same (row ∷ rows) h = λ i. values_same row h.0 i ∷ rows_same rows h.1 i

  term_rows_same : (rows : List (List Term)) → AreFormed n (map terms rows) → term_rows a rows ≡ term_rows b rows
  term_rows_same [] h = refl
  term_rows_same (row ∷ rows) h = λ i. terms_same row h.0 i ∷ term_rows_same rows h.1 i

  meets_same : (cond : Cond) → AllByRecursion (IsFormedItem n) (cond_items cond) → Meets a cond ≡ Meets b cond
  meets_same (Lt t) h = λ i x. x <ℤ term_same t h.0 i
  meets_same (Le t) h = λ i x. x ≤ℤ term_same t h.0 i
  meets_same (Ge t) h = λ i x. term_same t h.0 i ≤ℤ x
  meets_same (Gt t) h = λ i x. term_same t h.0 i <ℤ x
  meets_same (Ne t) h = λ i x. x ≢ term_same t h.0 i
  meets_same (Eq t) h = λ i x. x ≡ term_same t h.0 i
  meets_same (InSpan s) h = refl
  meets_same (OutSpan s) h = refl
  meets_same (InSet vs) h = refl
  meets_same (OutSet vs) h = refl

  occurs_same : (o : Occurrence) → AllByRecursion (IsFormedItem n) (occurrence_items o) → OccursAs a o ≡ OccursAs b o
  occurs_same (occurrence.Term t) h = λ i k. pos k ≡ term_same t h.0 i
  occurs_same (occurrence.Span s) h = refl

  all_occur_same : (vs : List ℤ) (os : List Occurrence) (xs : List ℤ) → AllByRecursion (IsFormedItem n) (flat_map occurrence_items os)
      → AllZip (λ v o. OccursAs a o (how_often v xs)) vs os ≡ AllZip (λ v o. OccursAs b o (how_often v xs)) vs os
  all_occur_same [] [] xs h = refl
  all_occur_same [] (o ∷ os) xs h = refl
  all_occur_same (v ∷ vs) [] xs h = refl
  all_occur_same (v ∷ vs) (o ∷ os) xs h = λ i. occurs_same o (all_left (IsFormedItem n) (occurrence_items o) _ h) i (how_often v xs) × all_occur_same vs os xs (all_right (IsFormedItem n) (occurrence_items o) _ h) i

  -- whether a constraint of such variables holds
  pub holds_same : (c : Constraint) → AreFormed n (fields_of c) → Holds c a ≡ Holds c b
  holds_same (Intension e) h = λ i. value e h.0 i ≡ pos 1
  holds_same (Extension list tuples positive) h = λ i. IsInTable positive tuples (values_same list h.0 i)
  holds_same (Unary v spans positive) h = λ i. IsInSpans positive spans (same v h.0.0 i)
  holds_same (Regular list edges start finals) h = λ i. IsAccepting edges start finals (values_same list h.0 i)
  holds_same (Mdd list edges root leaf) h = λ i. Spells edges root (values_same list h.0 i) leaf
  holds_same (AllDifferent list except) h = λ i. AreDifferentBut except (values_same list h.0 i)
  holds_same (DifferentLists lists) h = λ i. AreDifferentLists (rows_same lists h i)
  holds_same (DifferentMatrix rows) h = λ i. AreDifferentLines (rows_same rows h i)
  holds_same (AllEqual list) h = λ i. AreEqual (values_same list h.0 i)
  holds_same (Ordered list lengths rel) h = λ i. IsOrdered rel (terms_same lengths h.1.0 i) (values_same list h.0 i)
  holds_same (Lex lists rel) h = λ i. IsLexOrdered rel (rows_same lists h i)
  holds_same (LexMatrix rows rel) h = λ i. IsLexMatrix rel (rows_same rows h i)
  holds_same (Sum list coeffs cond) h = λ i. meets_same cond h.1.0 i (weighted_sum (terms_same coeffs h.0.0 i) (below_same list h.0.1 i))
  holds_same (Count list vs cond) h = λ i. meets_same cond h.1.1.0 i (pos (places_among (terms_same vs h.1.0 i) (values_same list h.0 i)))
  holds_same (NValues list except cond) h = λ i. meets_same cond h.1.1.0 i (pos (distinct_count except (values_same list h.0 i)))
  holds_same (Cardinality list vs occurs closed) h =
      (λ i. all_occur_same vs occurs (values a list) h.1.1.0 i × (closed ≡ true → AllByRecursion (λ x. is_among vs x ≡ true) (values a list)))
      ∙ (λ i. IsCardinality (OccursAs b) closed vs occurs (values_same list h.0 i))
  holds_same (Minimum list cond) h = λ i. meets_same cond h.1.0 i (least_of (values_same list h.0 i))
  holds_same (Maximum list cond) h = λ i. meets_same cond h.1.0 i (greatest_of (values_same list h.0 i))
  holds_same (Element list start None cond) h = λ i. SomeOf (meets_same cond h.1.1.0 i) (terms_same list h.0 i)
  holds_same (Element list start (Some t) cond) h = λ i. HasMemberAt (meets_same cond h.1.1.1.0 i) start (term_same t h.1.1.0.0 i) (terms_same list h.0 i)
  holds_same (ElementMatrix rows s t row col cond) h =
      let front = all_left (IsFormedField n) (map terms rows) _ h in
      let back = all_right (IsFormedField n) (map terms rows) _ h in
      λ i. HasCellAt (meets_same cond back.1.1.1.1.0 i) s t (term_same row back.1.1.0.0 i) (term_same col back.1.1.1.0.0 i) (term_rows_same rows front i)
  holds_same (Channel list start) h = λ i. IsChannel start (values_same list h.0 i)
  holds_same (ChannelTwo first s second t) h = λ i. IsChannelOfTwo s (values_same first h.0 i) t (values_same second h.1.1.0 i)
  holds_same (ChannelValue list start v) h = λ i. IsChannelOfValue start (term_same v h.1.1.0.0 i) (values_same list h.0 i)
  holds_same (NoOverlap origins lengths zero_ignored) h =
      λ i. IsNoOverlap zero_ignored (rows_same origins (all_left (IsFormedField n) (map members origins) _ h) i) (term_rows_same lengths (all_right (IsFormedField n) (map members origins) _ h) i)
  holds_same (Cumulative origins lengths heights None cond) h =
      λ i. IsCumulative (meets_same cond h.1.1.1.0 i) (values_same origins h.0 i) (terms_same lengths h.1.0 i) (terms_same heights h.1.1.0 i) × ⊤
  holds_same (Cumulative origins lengths heights (Some ends) cond) h =
      λ i. IsCumulative (meets_same cond h.1.1.1.1.0 i) (values_same origins h.0 i) (terms_same lengths h.1.0 i) (terms_same heights h.1.1.0 i) × AreEnds (values_same origins h.0 i) (terms_same lengths h.1.0 i) (values_same ends h.1.1.1.0 i)
  holds_same (Circuit list start None) h = λ i. (k : ℕ) × (IsCircuit start (values_same list h.0 i) k × ⊤)
  holds_same (Circuit list start (Some t)) h = λ i. (k : ℕ) × (IsCircuit start (values_same list h.0 i) k × (pos k ≡ term_same t h.1.1.0.0 i))
  holds_same (Instantiation list vs) h = λ i. values_same list h.0 i ≡ vs

  -- the value of what is to be least or greatest
  pub body_same : (o : Body) → AreFormed n (body_fields o) → body_value o a ≡ body_value o b
  body_same (body.Value e) h = value e h.0
  body_same (body.Sum list coeffs) h = λ i. weighted_sum (terms_same coeffs h.0.0 i) (below_same list h.0.1 i)
  body_same (body.Least list) h = λ i. least_of (values_same list h.0 i)
  body_same (body.Greatest list) h = λ i. greatest_of (values_same list h.0 i)
  body_same (body.Distinct list) h = λ i. pos (distinct_count [] (values_same list h.0 i))
