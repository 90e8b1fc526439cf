use Rattle.std.proofs.Common.{◌≡◌, ◌++◌, [], codes, drop, map, get_or}
use Rattle.std.specs.List.{flat_map}
use Rattle.xs_language.specs.Written.{list_text}
use Rattle.xs_model.specs.Names.{words}
use Rattle.xs_language.proofs.write.write_list.Given as goal

abbrev pub invariant-loop-variable : goal.invariant-loop-variable
invariant-loop-variable l = l.out.items ++ flat_map (λ w. w ++ codes " ") (map (λ v. get_or (words l.decls) v []) (drop l.variable-index l.list)) ≡ l.fn.out.items ++ list_text (words l.decls) l.list
