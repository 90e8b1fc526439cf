use Rattle.std.proofs.Common.{◌≡◌, ◌++◌, map, drop}
use Rattle.fz_model.specs.declared.model.Arg.TheVariants as arg
use Rattle.lo_emit.proofs.term.integers_of.Given as goal

abbrev pub invariant-loop-value : goal.invariant-loop-value
invariant-loop-value l = l.args ++ map arg.Int (drop l.value-index l.values) ≡ map arg.Int l.values
