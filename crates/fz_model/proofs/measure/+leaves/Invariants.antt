use Rattle.std.proofs.Common.{◌≡◌, ◌+◌, map, drop, sum}
use Rattle.fz_model.specs.Size.{leaves_of}
use Rattle.fz_model.proofs.measure.+leaves.Given as goal

abbrev pub invariant-all_leaves-loop-arg : goal.invariant-all_leaves-loop-arg
invariant-all_leaves-loop-arg l = l.total + sum (map leaves_of (drop l.arg-index l.args)) ≡ sum (map leaves_of l.args)
