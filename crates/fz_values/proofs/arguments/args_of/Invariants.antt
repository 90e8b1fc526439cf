use Rattle.std.proofs.Common.{◌≡◌, ◌++◌, drop, map}
use Rattle.fz_values.specs.Kinds.{arg_of}
use Rattle.fz_values.proofs.arguments.args_of.Given as goal

abbrev pub invariant-loop-value : goal.invariant-loop-value
invariant-loop-value l = l.row ++ map arg_of (drop l.value-index l.values) ≡ map arg_of l.values
