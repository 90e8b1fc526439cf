use Rattle.std.proofs.Common.{◌≡◌, ◌++◌, drop}
use Rattle.fz_values.specs.Kinds.{args_in}
use Rattle.fz_values.proofs.arguments.args_in.Given as goal

abbrev pub invariant-loop-at : goal.invariant-loop-at
invariant-loop-at l = l.row ++ args_in l.names (drop l.at l.kinds) (drop l.at l.exprs) ≡ args_in l.names l.kinds l.exprs
