use Rattle.std.proofs.Common.{◌≡◌, ◌++◌, [], drop, map}
use Rattle.xs_expr.specs.Text.{joined_from}
use Rattle.xs_model.specs.Names.{words}
use Rattle.xs_boxes.specs.Written.{word_at}
use Rattle.xs_boxes.proofs.write.write_variables.Given as goal

abbrev pub invariant-loop-variable : goal.invariant-loop-variable
invariant-loop-variable l = l.out.items ++ joined_from l.before (map (word_at (words l.decls)) (drop l.variable-index l.variables)) ≡ l.initial.out.items ++ joined_from [] (map (word_at (words l.decls)) l.variables)
