-- An objective (XCSP3-core, "Objectives"): what it meets, and what it is.
use Rattle.std.specs.Prelude.{ℕ, Bool, true, false, ◌&&◌, pos, List, Option, None, Some, if◌then◌else◌, codes}
use Rattle.std.specs.Str.{bytes_eq}
use Rattle.xs_fields.specs.Cells.{vars_of}
use Rattle.xs_fields.specs.declared.condition.Condition.{Condition}
use Rattle.xs_model.specs.Outline.{Outline}
use Rattle.xs_model.specs.declared.concrete.Concrete.{Concrete}
use Rattle.xs_model.specs.declared.concrete.Part.{Part}
use Rattle.xs_model.specs.declared.expr.Expr.{Int}
use Rattle.xs_model.specs.declared.instance.Body.{Body}
use Rattle.xs_model.specs.declared.instance.Body.TheVariants as body
use Rattle.xs_model.specs.declared.instance.Direction.{Direction}
use Rattle.xs_model.specs.declared.instance.Direction.TheVariants.{Minimize, Maximize}
use Rattle.xs_model.specs.declared.instance.Objective.{Objective}
use Rattle.xs_notation.specs.Reading.{counted_expr_meets, expr_at}
use Rattle.xs_objectives.specs.Lists.{coeffs_of, is_one_list, is_one_sum, list_meets, list_text, own_text, sum_meets}
use Rattle.xs_objectives.specs.Measures.{measure_of}
use Rattle.xs_objectives.specs.declared.measure.Measure.{Measure}
use Rattle.xs_objectives.specs.declared.measure.Measure.TheVariants.{Expression, Sum, Minimum, Maximum, Distinct}
use Rattle.xs_parts.specs.Parts.{value_among}
use Rattle.xs_tables.specs.Extension.{text_in}
use Rattle.xs_var.specs.Variable.{known_meets, spelling_meets}
use Rattle.std.specs.Prelude.{length}

-- what the parts of an objective of a type meet, where so many items may still come
abbrev pub body_meets : List Outline → ℕ → Measure → List Part → Condition → Bool
body_meets os left Expression parts k = counted_expr_meets os (own_text parts) left k
body_meets os left Sum parts k = spelling_meets (is_one_sum parts) k && sum_meets os left (list_text parts) (text_in (codes "coeffs") parts) k
body_meets os left Minimum parts k = spelling_meets (is_one_list parts) k && list_meets os left true (list_text parts) k
body_meets os left Maximum parts k = spelling_meets (is_one_list parts) k && list_meets os left true (list_text parts) k
body_meets os left Distinct parts k = spelling_meets (is_one_list parts) k && list_meets os left false (list_text parts) k

-- what is to be least or greatest
abbrev pub body_of : List Outline → Measure → List Part → Body
body_of os Expression parts = body.Value (expr_at os (own_text parts))
body_of os Sum parts = body.Sum (vars_of os (list_text parts)) (coeffs_of os (text_in (codes "coeffs") parts) (length (vars_of os (list_text parts))))
body_of os Minimum parts = body.Least (vars_of os (list_text parts))
body_of os Maximum parts = body.Greatest (vars_of os (list_text parts))
body_of os Distinct parts = body.Distinct (vars_of os (list_text parts))

-- a type that is not known meets nothing
abbrev pub typed_meets : List Outline → ℕ → Option Measure → List Part → Condition → Bool
typed_meets os left None parts k = known_meets false k
typed_meets os left (Some m) parts k = body_meets os left m parts k

abbrev pub typed_body : List Outline → Option Measure → List Part → Body
typed_body os None parts = body.Value (Int (pos 0))
typed_body os (Some m) parts = body_of os m parts

abbrev pub type_of : Concrete → Option Measure
type_of c = measure_of (value_among c.attrs (codes "type"))

abbrev pub direction_of : List ℕ → Direction
direction_of name = if bytes_eq name (codes "minimize") then Minimize else Maximize

-- what an objective meets, where so many items may still come
abbrev pub objective_meets : List Outline → ℕ → Concrete → Condition → Bool
objective_meets os left c k = typed_meets os left (type_of c) c.parts k

-- the objective
abbrev pub objective_of : List Outline → Concrete → Objective
objective_of os c = record { direction = direction_of c.name; body = typed_body os (type_of c) c.parts }
