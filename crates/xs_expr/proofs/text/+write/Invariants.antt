use Rattle.std.proofs.Common.{◌≡◌, ◌++◌, map, drop}
use Rattle.xs_model.specs.Names.{words}
use Rattle.xs_expr.specs.Text.{joined_from, written}
use Rattle.xs_expr.proofs.text.+write.Given as goal

abbrev pub invariant-write_operands-loop-item : goal.invariant-write_operands-loop-item
invariant-write_operands-loop-item l =
    l.out.items ++ joined_from l.before (map (written (words l.decls)) (drop l.item-index l.items)) ≡ l.initial.out.items ++ joined_from l.initial.before (map (written (words l.decls)) l.items)
