-- How many items constraints have, and how great these are.
use Rattle.std.proofs.Common.{◌≡◌, pos, negsuc, refl, true, List, [], ◌∷◌, None, Some}
use Rattle.xf_num.specs.Span.{Bounds}
use Rattle.xs_model.specs.declared.instance.Constraint.TheVariants.{Extension, Unary, Regular, Mdd, AllDifferent, LexMatrix, Sum, Cardinality, Element, ElementMatrix, NoOverlap, Cumulative, Circuit}
use Rattle.xs_model.specs.declared.instance.Body.TheVariants as body
use Rattle.xs_model.specs.declared.instance.Edge.{Edge}
use Rattle.xs_model.specs.declared.term.Cond.TheVariants.{Le, Eq, InSpan, OutSet}
use Rattle.xs_model.specs.declared.term.Occurrence.TheVariants as occurrence
use Rattle.xs_model.specs.declared.term.Rel.TheVariants as rel
use Rattle.xs_model.specs.declared.term.Term.TheVariants.{Int, Var}
use Rattle.xs_model.specs.Fields.{body_fields}
use Rattle.xs_model.specs.Formed.{count_in, items_of}
use Rattle.xs_model.specs.Magnitude.{mag, mag_of}

-- x within 0..3 and y within -2..1
abbrev spans : List Bounds
spans = record { lo = pos 0; hi = pos 3 } ∷ record { lo = negsuc 1; hi = pos 1 } ∷ []

abbrev edges : List Edge
edges = record { from = 0; value = negsuc 4; to = 1 } ∷ record { from = 1; value = pos 6; to = 2 } ∷ []

-- a `*` is an item without magnitude: 3 + 2, 7, and 4 items
table_items : items_of (Extension (0 ∷ 1 ∷ []) ((None ∷ Some (pos 7) ∷ []) ∷ []) true) ≡ 4
table_items = refl

table_mag : mag spans (Extension (0 ∷ 1 ∷ []) ((None ∷ Some (pos 7) ∷ []) ∷ []) true) ≡ 28
table_mag = refl

-- both ends of a range
pieces_items : items_of (Unary 0 (record { lo = pos 1; hi = pos 1 } ∷ record { lo = pos 3; hi = pos 5 } ∷ []) true) ≡ 5
pieces_items = refl

-- three of each transition, the start, and each final state
regular_items : items_of (Regular (0 ∷ 1 ∷ []) edges 0 (2 ∷ 1 ∷ [])) ≡ 11
regular_items = refl

-- the root and the leaf are none
mdd_items : items_of (Mdd (0 ∷ 1 ∷ []) edges 0 2) ≡ 8
mdd_items = refl

mdd_mag : mag spans (Mdd (0 ∷ 1 ∷ []) edges 0 2) ≡ 80
mdd_mag = refl

except_items : items_of (AllDifferent (0 ∷ 1 ∷ []) (pos 4 ∷ [])) ≡ 3
except_items = refl

matrix_items : items_of (LexMatrix ((0 ∷ 1 ∷ []) ∷ (0 ∷ 1 ∷ []) ∷ []) rel.Lt) ≡ 4
matrix_items = refl

-- a coefficient and its member are two items, and in the sum one product
sum_items : items_of (Sum (0 ∷ 1 ∷ []) (Int (pos 2) ∷ Int (negsuc 4) ∷ []) (Le (Int (pos 7)))) ≡ 5
sum_items = refl

sum_mag : mag spans (Sum (0 ∷ 1 ∷ []) (Int (pos 2) ∷ Int (negsuc 4) ∷ []) (Le (Int (pos 7)))) ≡ 48
sum_mag = refl

-- a variable coefficient
product_mag : mag spans (Sum (0 ∷ []) (Var 1 ∷ []) (InSpan (record { lo = negsuc 0; hi = pos 0 }))) ≡ 23
product_mag = refl

occurrence_items : items_of (Cardinality (0 ∷ 1 ∷ []) (pos 1 ∷ pos 2 ∷ []) (occurrence.Term (Var 0) ∷ occurrence.Span (record { lo = pos 0; hi = pos 1 }) ∷ []) true) ≡ 7
occurrence_items = refl

-- the start too
element_items : items_of (Element (Var 0 ∷ Int (pos 4) ∷ []) (pos 0) None (Eq (Int (pos 4)))) ≡ 4
element_items = refl

element_items_with_index : items_of (Element (Var 0 ∷ Int (pos 4) ∷ []) (pos 0) (Some (Var 1)) (Eq (Int (pos 4)))) ≡ 5
element_items_with_index = refl

cells_items : items_of (ElementMatrix ((Var 0 ∷ Int (pos 4) ∷ []) ∷ []) (pos 0) (pos 0) (Var 0) (Var 1) (OutSet (pos 4 ∷ pos 5 ∷ []))) ≡ 8
cells_items = refl

boxes_items : items_of (NoOverlap ((0 ∷ 1 ∷ []) ∷ []) ((Int (pos 2) ∷ Var 0 ∷ []) ∷ []) true) ≡ 4
boxes_items = refl

tasks_items : items_of (Cumulative (0 ∷ []) (Int (pos 2) ∷ []) (Int (pos 1) ∷ []) (Some (1 ∷ [])) (Le (Int (pos 1)))) ≡ 5
tasks_items = refl

circuit_items : items_of (Circuit (0 ∷ 1 ∷ []) (pos 0) (Some (Int (pos 2)))) ≡ 4
circuit_items = refl

-- of objectives
goal_items : count_in (body_fields (body.Sum (0 ∷ 1 ∷ []) (Int (pos 2) ∷ Int (negsuc 4) ∷ []))) ≡ 4
goal_items = refl

goal_mag : mag_of spans (body_fields (body.Sum (0 ∷ 1 ∷ []) (Int (pos 2) ∷ Int (negsuc 4) ∷ []))) ≡ 32
goal_mag = refl

least_mag : mag_of spans (body_fields (body.Least (0 ∷ 1 ∷ []))) ≡ 9
least_mag = refl
