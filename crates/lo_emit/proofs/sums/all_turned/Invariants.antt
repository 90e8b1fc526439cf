use Rattle.std.proofs.Common.{◌≡◌, ◌++◌, map, drop}
use Rattle.fz_model.specs.declared.model.Arg.TheVariants as arg
use Rattle.lo_emit.specs.Sums.{turned}
use Rattle.lo_emit.proofs.sums.all_turned.Given as goal

abbrev pub invariant-loop-coefficient : goal.invariant-loop-coefficient
invariant-loop-coefficient l = l.args ++ map arg.Int (map (turned l.relation) (drop l.coefficient-index l.coefficients)) ≡ map arg.Int (map (turned l.relation) l.coefficients)
