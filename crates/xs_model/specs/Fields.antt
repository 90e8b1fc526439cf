-- What constraints consist of, field by field: their items, and the variables and integers among these. All that is
-- counted, measured or asked of every constraint alike is said here of fields, and each form has one row.
use Rattle.std.specs.Prelude.{ℕ, ℤ, List, [], ◌∷◌, ◌++◌, map, Option, None, Some}
use Rattle.std.specs.List.{flat_map}
use Rattle.xf_num.specs.Span.{Bounds}
use Rattle.xs_model.specs.declared.expr.Expr.{Expr}
use Rattle.xs_model.specs.declared.instance.Constraint.{Constraint}
use Rattle.xs_model.specs.declared.instance.Constraint.TheVariants.{Intension, Extension, Unary, Regular, Mdd, AllDifferent, DifferentLists, DifferentMatrix, AllEqual, Ordered, Lex, LexMatrix, Sum, Count, NValues, Cardinality, Minimum, Maximum, Element, ElementMatrix, Channel, ChannelTwo, ChannelValue, NoOverlap, Cumulative, Circuit, Instantiation}
use Rattle.xs_model.specs.declared.instance.Edge.{Edge}
use Rattle.xs_model.specs.declared.instance.Body.{Body}
use Rattle.xs_model.specs.declared.instance.Body.TheVariants as body
use Rattle.xs_model.specs.declared.term.Term.{Term}
use Rattle.xs_model.specs.declared.term.Term.TheVariants.{Int, Var}
use Rattle.xs_model.specs.declared.term.Cond.{Cond}
use Rattle.xs_model.specs.declared.term.Cond.TheVariants.{Lt, Le, Ge, Gt, Ne, Eq, InSpan, OutSpan, InSet, OutSet}
use Rattle.xs_model.specs.declared.term.Occurrence.{Occurrence}
use Rattle.xs_model.specs.declared.term.Occurrence.TheVariants as occurrence

-- an item: an integer, a variable, or what has neither a value nor bounds, as a state and `*`
pub data Item : Type 0 where
  Number : ℤ → Item
  Variable : ℕ → Item
  Mark : Item

-- a field: items, an expression, or coefficients with the list members that they are factors of
pub data Field : Type 0 where
  Items : List Item → Field
  Expression : Expr → Field
  Products : List Term → List ℕ → Field

abbrev pub item_of : Term → Item
item_of (Int z) = Number z
item_of (Var v) = Variable v

abbrev pub entry_item : Option ℤ → Item
entry_item None = Mark
entry_item (Some z) = Number z

-- the ends of a range
abbrev pub end_items : Bounds → List Item
end_items b = Number b.lo ∷ Number b.hi ∷ []

abbrev pub edge_items : Edge → List Item
edge_items e = Mark ∷ Number e.value ∷ Mark ∷ []

abbrev pub occurrence_items : Occurrence → List Item
occurrence_items (occurrence.Term t) = item_of t ∷ []
occurrence_items (occurrence.Span b) = end_items b

abbrev pub cond_items : Cond → List Item
cond_items (Lt t) = item_of t ∷ []
cond_items (Le t) = item_of t ∷ []
cond_items (Ge t) = item_of t ∷ []
cond_items (Gt t) = item_of t ∷ []
cond_items (Ne t) = item_of t ∷ []
cond_items (Eq t) = item_of t ∷ []
cond_items (InSpan b) = end_items b
cond_items (OutSpan b) = end_items b
cond_items (InSet zs) = map Number zs
cond_items (OutSet zs) = map Number zs

-- the kinds of field
abbrev pub members : List ℕ → Field
members vs = Items (map Variable vs)

abbrev pub terms : List Term → Field
terms ts = Items (map item_of ts)

abbrev pub integers : List ℤ → Field
integers zs = Items (map Number zs)

abbrev pub integer : ℤ → Field
integer z = Items (Number z ∷ [])

abbrev pub term : Term → Field
term t = Items (item_of t ∷ [])

abbrev pub condition : Cond → Field
condition cond = Items (cond_items cond)

abbrev pub ranges : List Bounds → Field
ranges bs = Items (flat_map end_items bs)

abbrev pub entries : List (Option ℤ) → Field
entries es = Items (map entry_item es)

abbrev pub transitions : List Edge → Field
transitions es = Items (flat_map edge_items es)

abbrev pub states : List ℕ → Field
states qs = Items (map (λ q. Mark) qs)

abbrev pub occurrences : List Occurrence → Field
occurrences os = Items (flat_map occurrence_items os)

-- a field that may be absent
abbrev pub optional : {X : Type 0} → (X → Field) → Option X → List Field
optional f None = []
optional f (Some x) = f x ∷ []

-- the fields of a constraint, form by form
abbrev pub fields_of : Constraint → List Field
fields_of (Intension e) = Expression e ∷ []
fields_of (Extension list tuples positive) = members list ∷ map entries tuples
fields_of (Unary v spans positive) = members (v ∷ []) ∷ ranges spans ∷ []
fields_of (Regular list edges start finals) = members list ∷ transitions edges ∷ states (start ∷ []) ∷ states finals ∷ []
fields_of (Mdd list edges root leaf) = members list ∷ transitions edges ∷ []
fields_of (AllDifferent list except) = members list ∷ integers except ∷ []
fields_of (DifferentLists lists) = map members lists
fields_of (DifferentMatrix rows) = map members rows
fields_of (AllEqual list) = members list ∷ []
fields_of (Ordered list lengths rel) = members list ∷ terms lengths ∷ []
fields_of (Lex lists rel) = map members lists
fields_of (LexMatrix rows rel) = map members rows
fields_of (Sum list coeffs cond) = Products coeffs list ∷ condition cond ∷ []
fields_of (Count list vs cond) = members list ∷ terms vs ∷ condition cond ∷ []
fields_of (NValues list except cond) = members list ∷ integers except ∷ condition cond ∷ []
fields_of (Cardinality list vs occurs closed) = members list ∷ integers vs ∷ occurrences occurs ∷ []
fields_of (Minimum list cond) = members list ∷ condition cond ∷ []
fields_of (Maximum list cond) = members list ∷ condition cond ∷ []
fields_of (Element list start index cond) = terms list ∷ integer start ∷ (optional term index ++ condition cond ∷ [])
fields_of (ElementMatrix rows row_start col_start row col cond) = map terms rows ++ (integer row_start ∷ integer col_start ∷ term row ∷ term col ∷ condition cond ∷ [])
fields_of (Channel list start) = members list ∷ integer start ∷ []
fields_of (ChannelTwo first s second t) = members first ∷ integer s ∷ members second ∷ integer t ∷ []
fields_of (ChannelValue list start v) = members list ∷ integer start ∷ term v ∷ []
fields_of (NoOverlap origins lengths zero_ignored) = map members origins ++ map terms lengths
fields_of (Cumulative origins lengths heights ends cond) = members origins ∷ terms lengths ∷ terms heights ∷ (optional members ends ++ condition cond ∷ [])
fields_of (Circuit list start size) = members list ∷ integer start ∷ optional term size
fields_of (Instantiation list vs) = members list ∷ integers vs ∷ []

-- the fields of an objective
abbrev pub body_fields : Body → List Field
body_fields (body.Value e) = Expression e ∷ []
body_fields (body.Sum list coeffs) = Products coeffs list ∷ []
body_fields (body.Least list) = members list ∷ []
body_fields (body.Greatest list) = members list ∷ []
body_fields (body.Distinct list) = members list ∷ []
