use Rattle.std.proofs.Common.{arith, to_z-of_z}
use Rattle.fz_calls.proofs.Fitting.{sum_fits}
use Rattle.fz_calls.proofs.sums.plus.Goals as goal

pub overflow_add-result : goal.overflow_add-result
overflow_add-result c = let f = sum_fits c.args.b.now c.args.x.now c.args.y.now c.requires in grind (arith, to_z-of_z)
