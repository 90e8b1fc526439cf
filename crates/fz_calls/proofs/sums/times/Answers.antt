use Rattle.std.proofs.Common.{arith, to_z-of_z}
use Rattle.fz_calls.proofs.Fitting.{product_fits}
use Rattle.fz_calls.proofs.sums.times.Goals as goal

pub overflow_mul-result : goal.overflow_mul-result
overflow_mul-result c = let f = product_fits c.args.b.now c.args.x.now c.args.y.now c.requires in grind (arith, to_z-of_z)

pub returns : goal.returns
returns c = let f = product_fits c.args.b.now c.args.x.now c.args.y.now c.requires in grind (arith, to_z-of_z)
