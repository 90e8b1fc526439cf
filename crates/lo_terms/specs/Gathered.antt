-- What is gathered of the bounds of a node's operands, where one of them may be at fault.
use Rattle.std.specs.Prelude.{ℕ, List, Result, Ok, Err}
use Rattle.xf_num.specs.Span.{Bounds}
use Rattle.xf_text.specs.declared.fault.Kind.{Kind}
use Rattle.xs_expr.specs.Operands.{pushed, gathered_of}
use Rattle.xs_expr.specs.declared.limits.Operands.{Operands}
use Rattle.xs_model.specs.declared.expr.Op.{Op}

-- with the bounds of the operand at a place, which is the next; the first fault stays
abbrev pub with_next : Op → ℕ → Result Operands Kind → Result Bounds Kind → Result Operands Kind
with_next op k (Err fault) next = Err fault
with_next op k (Ok s) (Err fault) = Err fault
with_next op k (Ok s) (Ok b) = Ok (pushed op k s b)

-- with those of all operands from a place on
abbrev pub with_all : Op → ℕ → Result Operands Kind → Result (List Bounds) Kind → Result Operands Kind
with_all op k (Err fault) rs = Err fault
with_all op k (Ok s) rs = gathered_of op k s rs
