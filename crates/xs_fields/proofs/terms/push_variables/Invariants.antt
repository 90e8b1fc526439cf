use Rattle.std.proofs.Common.{◌≡◌, ◌++◌, map, drop}
use Rattle.xs_model.specs.declared.term.Term.TheVariants.{Var}
use Rattle.xs_fields.proofs.terms.push_variables.Given as goal

abbrev pub invariant-loop-variable : goal.invariant-loop-variable
invariant-loop-variable l = l.terms ++ map Var (drop l.variable-index l.variables) ≡ l.initial.terms ++ map Var l.variables
