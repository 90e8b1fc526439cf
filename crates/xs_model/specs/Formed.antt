-- Which expressions and fields an instance may hold, how many nodes an expression has and how many items a constraint
-- (XCSP3-core, "Intensional constraints").
use Rattle.std.specs.Prelude.{◌≡◌, ℕ, ◌+◌, ◌<◌, List, [], ◌∷◌, length, map, false, ⊤}
use Rattle.std.specs.List.{AllByRecursion}
use Rattle.xs_model.specs.declared.expr.Expr.{Expr, fold-Expr, every-Expr}
use Rattle.xs_model.specs.declared.instance.Constraint.{Constraint}
use Rattle.xs_model.specs.Fields.{Item, Number, Variable, Mark, Field, Items, Expression, Products, item_of, fields_of}
use Rattle.xs_model.specs.declared.expr.Expr.TheOpen.{Expr-F}
use Rattle.xs_model.specs.Bounds.{HasVariables}
use Rattle.xs_model.specs.Shape.{IsShaped, is_set}
use Rattle.xs_model.specs.Sound.{IsSmall}

-- an integer is at most the greatest magnitude
abbrev pub HasSmallInteger : Expr-F Expr → Type 0
HasSmallInteger (Expr-F.Int z) = IsSmall z
HasSmallInteger (Expr-F.Var v) = ⊤
HasSmallInteger (Expr-F.Node op es) = ⊤

-- each integer of an expression is so
abbrev pub HasSmallIntegers : Expr → Type 0
HasSmallIntegers = every-Expr HasSmallInteger

-- an expression that is well formed and no set, over the variables below n, with small integers
pub record IsFormedExpr (n : ℕ) (e : Expr) : Type 0 where
  pub shaped : IsShaped e
  pub no_set : is_set e ≡ false
  pub variables : HasVariables n e
  pub small : HasSmallIntegers e

abbrev pub total : List ℕ → ℕ
total [] = 0
total (m ∷ ms) = m + total ms

-- how many nodes an expression has
abbrev pub nodes_step : Expr-F ℕ → ℕ
nodes_step (Expr-F.Int z) = 1
nodes_step (Expr-F.Var v) = 1
nodes_step (Expr-F.Node op ms) = 1 + total ms

abbrev pub nodes : Expr → ℕ
nodes = fold-Expr ℕ nodes_step

abbrev pub nodes_of : List Expr → ℕ
nodes_of es = total (map nodes es)

-- an item whose integer is small, and whose variable is below n
abbrev pub IsFormedItem : ℕ → Item → Type 0
IsFormedItem n (Number z) = IsSmall z
IsFormedItem n (Variable v) = v < n
IsFormedItem n Mark = ⊤

-- a field of such items and expressions
abbrev pub IsFormedField : ℕ → Field → Type 0
IsFormedField n (Items is) = AllByRecursion (IsFormedItem n) is
IsFormedField n (Expression e) = IsFormedExpr n e
IsFormedField n (Products cs vs) = AllByRecursion (IsFormedItem n) (map item_of cs) × AllByRecursion (λ v. v < n) vs

abbrev pub AreFormed : ℕ → List Field → Type 0
AreFormed n fs = AllByRecursion (IsFormedField n) fs

-- how many items a field has: a coefficient and its list member are two
abbrev pub count_of : Field → ℕ
count_of (Items is) = length is
count_of (Expression e) = nodes e
count_of (Products cs vs) = length cs + length vs

abbrev pub count_in : List Field → ℕ
count_in fs = total (map count_of fs)

-- the items of a constraint: its list members after expansion, its other integers and variables, two for each range, its
-- tuple entries, three for each transition, its start and final states, and the nodes of its expression
abbrev pub items_of : Constraint → ℕ
items_of c = count_in (fields_of c)
