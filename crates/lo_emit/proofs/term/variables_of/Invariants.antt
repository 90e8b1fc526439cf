use Rattle.std.proofs.Common.{◌≡◌, ◌++◌, map, drop}
use Rattle.lo_emit.specs.declared.term.Term.TheVariants.{Var}
use Rattle.lo_emit.proofs.term.variables_of.Given as goal

abbrev pub invariant-loop-variable : goal.invariant-loop-variable
invariant-loop-variable l = l.terms ++ map Var (drop l.variable-index l.list) ≡ map Var l.list
