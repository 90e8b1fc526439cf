use Rattle.std.proofs.Common.{◌≡◌, map, drop}
use Rattle.xs_notation.specs.Forms.{are_no_sets, form}
use Rattle.xs_notation.proofs.form.are_no_sets.Given as goal

abbrev pub invariant-loop-operand : goal.invariant-loop-operand
invariant-loop-operand l = are_no_sets (map form (drop l.operand-index l.operands)) ≡ are_no_sets (map form l.operands)
