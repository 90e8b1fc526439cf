use Rattle.std.proofs.Common.{◌≡◌, drop}
use Rattle.xs_expr.specs.Operators.{look_up}
use Rattle.xs_expr.proofs.operators.find.Given as goal

abbrev pub invariant-loop-operator : goal.invariant-loop-operator
invariant-loop-operator l = look_up (drop l.operator-index l.operators) l.name ≡ look_up l.operators l.name
