-- What an objective is lowered to, where ss are the bounds of the variables and n is the number of the next one
-- (XCSP3-core, "Objectives"; MiniZinc Handbook, "FlatZinc": the goal is least or greatest of a variable).
use Rattle.std.specs.Prelude.{ℕ, ◌+◌, pos, Bool, true, false, List}
use Rattle.lo_emit.specs.declared.term.Term.{Term}
use Rattle.lo_emit.specs.declared.term.Term.TheVariants.{Int, Truth, Var}
use Rattle.lo_emit.specs.Emitted.{Out, standing, after, integer_of_value}
use Rattle.lo_terms.specs.declared.term.Mode.TheVariants.{Number}
use Rattle.lo_terms.specs.Lowering.{low_expr}
use Rattle.lo_terms.specs.Rules.{term_at}
use Rattle.lo_terms_laws.specs.Laws.{number_out}
use Rattle.xf_num.specs.Span.{Bounds}
use Rattle.xs_model.specs.declared.expr.Expr.{Expr}
use Rattle.xs_model.specs.declared.instance.Body.{Body}
use Rattle.xs_model.specs.declared.instance.Body.TheVariants as body

-- a variable stands for the number: where an integer does, a new one with that one value
abbrev pub named_by : ℕ → Out → Term → Out
named_by n c (Int z) = after n c (λ k t. integer_of_value k z)
named_by n c (Truth t) = c
named_by n c (Var v) = c

abbrev pub named : ℕ → Out → Out
named n c = named_by n c c.term

-- an expression
abbrev pub low_value : List Bounds → ℕ → Expr → Out
low_value ss n e = named n (number_out ss n e (term_at (low_expr ss e Number n).operands 0))

-- the objectives that are lowered so far
abbrev pub is_lowered_body : Body → Bool
is_lowered_body (body.Value e) = true
is_lowered_body (body.Sum list coeffs) = false
is_lowered_body (body.Least list) = false
is_lowered_body (body.Greatest list) = false
is_lowered_body (body.Distinct list) = false

abbrev pub low_body : List Bounds → ℕ → Body → Out
low_body ss n (body.Value e) = low_value ss n e
low_body ss n b = standing (Int (pos 0))
