-- Which variables stand in a constraint or in an objective.
use Rattle.std.specs.Prelude.{ℕ, List, [], ◌∷◌, ◌++◌, map}
use Rattle.std.specs.List.{flat_map}
use Rattle.xs_model.specs.declared.expr.Expr.{Expr, fold-Expr}
use Rattle.xs_model.specs.declared.expr.Expr.TheOpen.{Expr-F}
use Rattle.xs_model.specs.declared.instance.Constraint.{Constraint}
use Rattle.xs_model.specs.declared.instance.Body.{Body}
use Rattle.xs_model.specs.Fields.{Item, Number, Variable, Mark, Field, Items, Expression, Products, item_of, fields_of, body_fields}

abbrev pub item_variables : Item → List ℕ
item_variables (Number z) = []
item_variables (Variable v) = v ∷ []
item_variables Mark = []

-- of a node, those of its operands
abbrev pub node_variables : Expr-F (List ℕ) → List ℕ
node_variables (Expr-F.Int z) = []
node_variables (Expr-F.Var v) = v ∷ []
node_variables (Expr-F.Node op vss) = flat_map (λ vs. vs) vss

abbrev pub expr_variables : Expr → List ℕ
expr_variables = fold-Expr (List ℕ) node_variables

abbrev pub field_variables : Field → List ℕ
field_variables (Items is) = flat_map item_variables is
field_variables (Expression e) = expr_variables e
field_variables (Products cs vs) = flat_map item_variables (map item_of cs) ++ vs

abbrev pub variables_of : Constraint → List ℕ
variables_of c = flat_map field_variables (fields_of c)

abbrev pub body_variables : Body → List ℕ
body_variables b = flat_map field_variables (body_fields b)
