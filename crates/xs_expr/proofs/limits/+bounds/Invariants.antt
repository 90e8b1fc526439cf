use Rattle.std.proofs.Common.{◌≡◌, map, drop}
use Rattle.xs_model.specs.Bounds.{bounds, all_ok}
use Rattle.xs_expr.specs.Operands.{gathered_of, none}
use Rattle.xs_expr.proofs.limits.+bounds.Given as goal

abbrev pub invariant-operand_bounds-loop-at : goal.invariant-operand_bounds-loop-at
invariant-operand_bounds-loop-at l =
    gathered_of l.op l.at l.gathered (all_ok (map (bounds l.spans) (drop l.at l.items))) ≡ gathered_of l.op 0 none (all_ok (map (bounds l.spans) l.items))
