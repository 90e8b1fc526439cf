-- An `intension` (XCSP3-core, "Constraint intension"): its conditions, and its expression.
use Rattle.std.specs.Prelude.{ℕ, Bool, ◌&&◌, List, codes}
use Rattle.xs_fields.specs.declared.condition.Condition.{Condition}
use Rattle.xs_model.specs.Outline.{Outline}
use Rattle.xs_model.specs.declared.concrete.Concrete.{Concrete}
use Rattle.xs_model.specs.declared.instance.Constraint.{Constraint}
use Rattle.xs_model.specs.declared.instance.Constraint.TheVariants.{Intension}
use Rattle.xs_notation.specs.Reading.{counted_expr_meets, expr_at}
use Rattle.xs_parts.specs.Nesting.{are_parts_shallow}
use Rattle.xs_parts.specs.Parts.{one_text}
use Rattle.xs_relate.specs.Unit.{form_text, unit_meets}

-- what an `intension` meets, where so many items may still come: each node of its expression is one
abbrev pub intension_meets : List Outline → ℕ → Concrete → Condition → Bool
intension_meets os left c k =
    unit_meets (are_parts_shallow c.parts) (one_text (codes "function") c.parts) k && counted_expr_meets os (form_text (codes "function") c) left k

-- the constraint: the value of the expression is 1
abbrev pub intension_of : List Outline → Concrete → Constraint
intension_of os c = Intension (expr_at os (form_text (codes "function") c))
