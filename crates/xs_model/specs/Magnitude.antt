-- The magnitude of a constraint: the sum of the magnitudes of its items and the square of their number. It is the
-- program's own measure of how great the sums can grow that a constraint leads to.
use Rattle.std.specs.Prelude.{ℕ, ◌+◌, ◌*◌, nat_abs, nat_le, pos, int_le, List, [], ◌∷◌, ◌++◌, length, map, sum, Bool, ◌&&◌, if◌then◌else◌, Option, Some, None, Result, Ok, Err, IsOk, ⊤}
use Rattle.std.specs.List.{AllByRecursion, flat_map, list_all}
use Rattle.xf_num.specs.Span.{Bounds, magnitude_of}
use Rattle.xf_text.specs.declared.fault.Kind.{Kind}
use Rattle.xf_text.specs.declared.fault.Kind.TheVariants.{Range, Logic}
use Rattle.xs_model.specs.declared.instance.Constraint.{Constraint}
use Rattle.xs_model.specs.declared.instance.Constraint.TheVariants.{Intension, Cumulative}
use Rattle.xs_model.specs.declared.instance.Body.{Body}
use Rattle.xs_model.specs.declared.instance.Body.TheVariants as body
use Rattle.xs_model.specs.declared.term.Term.{Term}
use Rattle.xs_model.specs.declared.term.Term.TheVariants.{Int, Var}
use Rattle.xs_model.specs.Fields.{Item, Number, Variable, Mark, Field, Items, Expression, Products, item_of, fields_of, body_fields}
use Rattle.xs_model.specs.Formed.{total, count_in}
use Rattle.xs_model.specs.declared.expr.Expr.{Expr, fold-Expr}
use Rattle.xs_model.specs.declared.expr.Expr.TheOpen.{Expr-F}
use Rattle.xs_model.specs.Sound.{magnitudes}
use Rattle.xs_model.specs.Bounds.{bounds, limited, exactly, operand, all_ok, and_then, node_bounds, is_truth}

-- items of these magnitudes
abbrev pub total_of : List ℕ → ℕ
total_of ms = sum ms + length ms * length ms

-- a sum, where it is at most the greatest magnitude
abbrev pub capped : ℕ → Option ℕ
capped n = if nat_le n magnitudes then Some n else None

-- the magnitude of a node: that of its bounds
abbrev pub magnitude : Result Bounds Kind → ℕ
magnitude (Ok b) = magnitude_of b
magnitude (Err k) = 0

-- the bounds of an expression, and the magnitudes of its nodes, operands before their node
pub record Weight : Type 0 where
  pub bounds : Result Bounds Kind
  pub nodes : List ℕ

-- a node over nodes of these magnitudes
abbrev pub weight : Result Bounds Kind → List ℕ → Weight
weight r below = record { bounds = r; nodes = below ++ (magnitude r ∷ []) }

abbrev pub bounds_below : List Weight → List (Result Bounds Kind)
bounds_below ws = map (λ w. w.bounds) ws

abbrev pub nodes_below : List Weight → List ℕ
nodes_below ws = flat_map (λ w. w.nodes) ws

abbrev pub weight_step : List Bounds → Expr-F Weight → Weight
weight_step spans (Expr-F.Int z) = weight (limited (exactly z)) []
weight_step spans (Expr-F.Var v) = weight (limited (operand spans v)) []
weight_step spans (Expr-F.Node op ws) = weight (and_then (all_ok (bounds_below ws)) (node_bounds op)) (nodes_below ws)

abbrev pub weighed : List Bounds → Expr → Weight
weighed spans = fold-Expr Weight (weight_step spans)

-- the greatest magnitude of an item within the bounds of the variables; of a state and of `*` it is 0
abbrev pub item_magnitude : List Bounds → Item → ℕ
item_magnitude spans (Number z) = nat_abs z
item_magnitude spans (Variable v) = magnitude_of (operand spans v)
item_magnitude spans Mark = 0

-- coefficients and list members count once, as their products
abbrev pub product_magnitudes : List Bounds → List Term → List ℕ → List ℕ
product_magnitudes spans [] vs = []
product_magnitudes spans (c ∷ cs) [] = []
product_magnitudes spans (c ∷ cs) (v ∷ vs) = (item_magnitude spans (item_of c) * item_magnitude spans (Variable v)) ∷ product_magnitudes spans cs vs

abbrev pub field_magnitude : List Bounds → Field → ℕ
field_magnitude spans (Items is) = total (map (item_magnitude spans) is)
field_magnitude spans (Expression e) = sum (weighed spans e).nodes
field_magnitude spans (Products cs vs) = total (product_magnitudes spans cs vs)

-- no expression of a field is at fault
abbrev pub IsBoundedField : List Bounds → Field → Type 0
IsBoundedField spans (Items is) = ⊤
IsBoundedField spans (Expression e) = IsOk (bounds spans e)
IsBoundedField spans (Products cs vs) = ⊤

abbrev pub AreBounded : List Bounds → List Field → Type 0
AreBounded spans fs = AllByRecursion (IsBoundedField spans) fs

-- the sum of the magnitudes of the items of fields, and the square of the number of items
abbrev pub mag_of : List Bounds → List Field → ℕ
mag_of spans fs = total (map (field_magnitude spans) fs) + count_in fs * count_in fs

abbrev pub mag : List Bounds → Constraint → ℕ
mag spans c = mag_of spans (fields_of c)

-- an expression that is to be a truth value, where no node is at fault and its bounds are these
abbrev pub judged_root : ℕ → Bounds → Result (Unit {0}) Kind
judged_root m b = if is_truth b then (if nat_le m magnitudes then Ok tt else Err Range) else Err Logic

abbrev pub judged_bounds : ℕ → Result Bounds Kind → Result (Unit {0}) Kind
judged_bounds m (Ok b) = judged_root m b
judged_bounds m (Err k) = Err k

-- an expression that is to hold: the fault of the first node at fault, else that of the root, else its magnitude
abbrev pub judged_expr : List Bounds → Expr → Result (Unit {0}) Kind
judged_expr spans e = judged_bounds (mag spans (Intension e)) (bounds spans e)

-- no magnitude past the greatest
abbrev pub judged_magnitude : List Bounds → Constraint → Result (Unit {0}) Kind
judged_magnitude spans c = if nat_le (mag spans c) magnitudes then Ok tt else Err Range

-- the bounds of a term
abbrev pub term_bounds : List Bounds → Term → Bounds
term_bounds spans (Int z) = exactly z
term_bounds spans (Var v) = operand spans v

-- terms that are never negative
abbrev pub are_not_negative : List Bounds → List Term → Bool
are_not_negative spans ts = list_all (λ t. int_le (pos 0) (term_bounds spans t).lo) ts

-- lengths and heights are not negative
abbrev pub are_tasks : List Bounds → List Term → List Term → Bool
are_tasks spans lengths heights = are_not_negative spans lengths && are_not_negative spans heights

-- the first fault of a constraint that shows in the bounds of its variables: of its expression, or of the lengths and
-- heights of its tasks, or its magnitude
abbrev pub judged : List Bounds → Constraint → Result (Unit {0}) Kind
judged spans (Intension e) = judged_expr spans e
judged spans (Cumulative origins lengths heights ends cond) = if are_tasks spans lengths heights then judged_magnitude spans (Cumulative origins lengths heights ends cond) else Err Logic
judged spans c = judged_magnitude spans c

-- what is to be least or greatest: the fault of the first node at fault, else its magnitude
abbrev pub judged_size : ℕ → Result (Unit {0}) Kind
judged_size m = if nat_le m magnitudes then Ok tt else Err Range

abbrev pub judged_value : ℕ → Result Bounds Kind → Result (Unit {0}) Kind
judged_value m (Ok b) = judged_size m
judged_value m (Err k) = Err k

abbrev pub judged_body : List Bounds → Body → Result (Unit {0}) Kind
judged_body spans (body.Value e) = judged_value (mag_of spans (body_fields (body.Value e))) (bounds spans e)
judged_body spans b = judged_size (mag_of spans (body_fields b))
