use Rattle.std.proofs.Common.{◌≡◌, ◌++◌, drop}
use Rattle.std.specs.List.{flat_map}
use Rattle.fz_file.specs.Layout.{var_line, names_of}
use Rattle.fz_file.proofs.model.push_vars.Given as goal

abbrev pub invariant-loop-var : goal.invariant-loop-var
invariant-loop-var l = l.out.items ++ flat_map (var_line (names_of l.vars)) (drop l.var-index l.vars) ≡ l.fn.out.items ++ flat_map (var_line (names_of l.vars)) l.vars
