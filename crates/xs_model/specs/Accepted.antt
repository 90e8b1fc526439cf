-- When an instance is well formed, and when it keeps the limits on what is read.
use Rattle.std.specs.Prelude.{◌≡◌, ◌≢◌, ℕ, ◌+◌, ◌^◌, ◌<◌, ◌≤◌, List, [], ◌∷◌, length, map, sum, Bool, true, false, ⊤, AllPairs, Ok, IsOk, Option, None, Some}
use Rattle.std.specs.List.{AllByRecursion}
use Rattle.xf_num.specs.Span.{Bounds}
use Rattle.xs_model.specs.declared.expr.Expr.{Expr}
use Rattle.xs_model.specs.declared.instance.Constraint.{Constraint}
use Rattle.xs_model.specs.declared.instance.Constraint.TheVariants.{Intension, Extension, Unary, Regular, Mdd, AllDifferent, DifferentLists, DifferentMatrix, AllEqual, Ordered, Lex, LexMatrix, Sum, Count, NValues, Cardinality, Minimum, Maximum, Element, ElementMatrix, Channel, ChannelTwo, ChannelValue, NoOverlap, Cumulative, Circuit, Instantiation}
use Rattle.xs_model.specs.declared.instance.Instance.{Instance}
use Rattle.xs_model.specs.Bounds.{bounds, is_truth}
use Rattle.xs_model.specs.declared.instance.Body.{Body}
use Rattle.xs_model.specs.declared.instance.Body.TheVariants as body
use Rattle.xs_model.specs.declared.instance.Objective.{Objective}
use Rattle.xs_model.specs.Fields.{fields_of, body_fields}
use Rattle.xs_model.specs.Fitting.{IsFitting, IsFittingBody}
use Rattle.xs_model.specs.Formed.{AreFormed, count_in}
pub use Rattle.xs_model.specs.Formed.{items_of}
use Rattle.xs_model.specs.Magnitude.{mag, mag_of, are_tasks}
use Rattle.xs_model.specs.Names.{words, domains}
use Rattle.xs_model.specs.Sound.{IsSoundDecl, cells_of, magnitudes, most_cells, most_items, names_of, values_of}
use Rattle.xs_model.specs.Spans.{spans_of}
use Rattle.xf_num.specs.Limits as limits

-- a constraint of the shape that its form asks, over the variables below n, with small integers
pub record IsFormed (n : ℕ) (c : Constraint) : Type 0 where
  pub fields : AreFormed n (fields_of c)
  pub fitting : IsFitting c

-- an expression that may be stated, where the bounds of the variables are ss: no node of it is at fault, and it is a
-- truth value
pub record IsProposition (ss : List Bounds) (e : Expr) : Type 0 where
  pub span : Bounds
  pub bounded : bounds ss e ≡ Ok span
  pub truth : is_truth span ≡ true

-- no expression of a constraint is at fault, and no length or height of its tasks may be negative
abbrev pub IsFaultless : List Bounds → Constraint → Type 0
IsFaultless ss (Intension e) = IsProposition ss e
IsFaultless ss (Cumulative origins lengths heights ends cond) = are_tasks ss lengths heights ≡ true
IsFaultless ss c = ⊤

-- the magnitude of a constraint is at most the greatest
abbrev pub IsMeasured : List Bounds → Constraint → Type 0
IsMeasured ss c = mag ss c ≤ magnitudes

abbrev pub is_expression : Constraint → Bool
is_expression (Intension e) = true
is_expression c = false

-- the same, but nothing is asked of the magnitude of an expression
abbrev pub IsMeasuredForm : List Bounds → Constraint → Type 0
IsMeasuredForm ss c = is_expression c ≡ false → IsMeasured ss c

-- the constraints that are read and lowered so far
abbrev pub is_built : Constraint → Bool
is_built (Intension e) = true
is_built (Extension list tuples positive) = true
is_built (Unary v spans positive) = true
is_built (Regular list edges start finals) = true
is_built (Mdd list edges root leaf) = true
is_built (AllDifferent list []) = true
is_built (AllDifferent list (z ∷ zs)) = false
is_built (DifferentLists lists) = false
is_built (DifferentMatrix rows) = false
is_built (AllEqual list) = false
is_built (Ordered list lengths rel) = false
is_built (Lex lists rel) = false
is_built (LexMatrix rows rel) = false
is_built (Sum list coeffs cond) = false
is_built (Count list vs cond) = false
is_built (NValues list except cond) = false
is_built (Cardinality list vs occurs closed) = false
is_built (Minimum list cond) = false
is_built (Maximum list cond) = false
is_built (Element list start index cond) = false
is_built (ElementMatrix rows row_start col_start row col cond) = false
is_built (Channel list start) = false
is_built (ChannelTwo first s second t) = false
is_built (ChannelValue list start v) = false
is_built (NoOverlap origins lengths zero_ignored) = false
is_built (Cumulative origins lengths heights ends cond) = false
is_built (Circuit list start size) = false
is_built (Instantiation list vs) = false

-- a constraint over variables of these bounds: its shape, its expressions and its magnitude are in order
pub record IsSoundConstraint (ss : List Bounds) (c : Constraint) : Type 0 where
  pub formed : IsFormed (length ss) c
  pub faultless : IsFaultless ss c
  pub measured : IsMeasuredForm ss c
  pub built : is_built c ≡ true

abbrev pub is_value : Body → Bool
is_value (body.Value e) = true
is_value b = false

-- no expression of what is to be least or greatest is at fault
abbrev pub IsFaultlessBody : List Bounds → Body → Type 0
IsFaultlessBody ss (body.Value e) = IsOk (bounds ss e)
IsFaultlessBody ss b = ⊤

-- the magnitude of what is to be least or greatest is at most the greatest
abbrev pub IsMeasuredBody : List Bounds → Body → Type 0
IsMeasuredBody ss b = mag_of ss (body_fields b) ≤ magnitudes

-- what is to be least or greatest, over variables of these bounds; nothing is asked of the magnitude of an expression
pub record IsSoundBody (ss : List Bounds) (b : Body) : Type 0 where
  pub fields : AreFormed (length ss) (body_fields b)
  pub fitting : IsFittingBody b
  pub faultless : IsFaultlessBody ss b
  pub measured : is_value b ≡ false → IsMeasuredBody ss b

abbrev pub IsSoundGoal : List Bounds → Option Objective → Type 0
IsSoundGoal ss None = ⊤
IsSoundGoal ss (Some o) = IsSoundBody ss o.body

abbrev pub IsMeasuredGoal : List Bounds → Option Objective → Type 0
IsMeasuredGoal ss None = ⊤
IsMeasuredGoal ss (Some o) = IsMeasuredBody ss o.body

-- the items of an objective
abbrev pub goal_items : Option Objective → ℕ
goal_items None = 0
goal_items (Some o) = count_in (body_fields o.body)

pub record IsSound (i : Instance) : Type 0 where
  pub distinct : AllPairs (λ a b. a ≢ b) (names_of i.decls)
  pub decls : AllByRecursion IsSoundDecl i.decls
  pub few : length (words i.decls) < 2 ^ 32
  pub constraints : AllByRecursion (IsSoundConstraint (spans_of i.decls)) i.constraints
  pub goal : IsSoundGoal (spans_of i.decls) i.objective
  -- no objective is read and lowered so far
  pub satisfied : i.objective ≡ None

abbrev pub most_constraints : ℕ
most_constraints = limits.most_constraints

-- sound, and within the limits on what is read
pub record IsAccepted (i : Instance) : Type 0 where
  pub sound : IsSound i
  pub measured : AllByRecursion (IsMeasured (spans_of i.decls)) i.constraints
  pub cells : sum (map cells_of i.decls) ≤ most_cells
  pub measured_goal : IsMeasuredGoal (spans_of i.decls) i.objective
  pub items : (sum (map values_of (domains i.decls)) + sum (map items_of i.constraints)) + goal_items i.objective ≤ most_items
  pub constraints : length i.constraints ≤ most_constraints
