use Rattle.std.proofs.Common.{◌≡◌, drop}
use Rattle.xs_expr.specs.Shaped.{are_no_sets}
use Rattle.xs_expr.proofs.shape.are_no_sets.Given as goal

abbrev pub invariant-loop-operand : goal.invariant-loop-operand
invariant-loop-operand l = are_no_sets (drop l.operand-index l.operands) ≡ are_no_sets l.operands
