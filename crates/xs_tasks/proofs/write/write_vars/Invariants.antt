use Rattle.std.proofs.Common.{◌≡◌, ◌++◌, codes, drop, map}
use Rattle.std.specs.List.{flat_map}
use Rattle.xs_model.specs.Names.{words}
use Rattle.xs_tasks.specs.Written.{vars_text, word_at}
use Rattle.xs_tasks.proofs.write.write_vars.Given as goal

abbrev pub invariant-loop-variable : goal.invariant-loop-variable
invariant-loop-variable l = l.out.items ++ flat_map (λ w. w ++ codes " ") (map (word_at (words l.decls)) (drop l.variable-index l.list)) ≡ l.fn.out.items ++ vars_text (words l.decls) l.list
