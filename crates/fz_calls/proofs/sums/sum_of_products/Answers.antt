use Rattle.std.proofs.Common.{arith}
use Rattle.std.proofs.lemmas.Int.{ints}
use Rattle.fz_calls.proofs.Fitting.{sum_done, next_sum}
use Rattle.fz_calls.proofs.sums.sum_of_products.Goals as goal

pub overflow_mul-sum : goal.overflow_mul-sum
overflow_mul-sum c = (next_sum c.args.b.now c.args.coefficients.now c.args.items.now c.number.result c.number-in-loop-at.result _ c.loop-at.at c.index-coefficients-at.result c.index-items-at.result (record { sfits = c.number.type_inv }) (record { sfits = c.number-in-loop-at.type_inv }) c.number.ensures c.number-in-loop-at.ensures (omega arith) (omega arith) c.index-coefficients-at.is c.index-items-at.is c.loop-at.invariant).product

pub overflow_add-sum : goal.overflow_add-sum
overflow_add-sum c = (next_sum c.args.b.now c.args.coefficients.now c.args.items.now c.number.result c.number-in-loop-at.result _ c.loop-at.at c.index-coefficients-at.result c.index-items-at.result (record { sfits = c.number.type_inv }) (record { sfits = c.number-in-loop-at.type_inv }) c.number.ensures c.number-in-loop-at.ensures (omega arith) (omega arith) c.index-coefficients-at.is c.index-items-at.is c.loop-at.invariant).whole

pub returns : goal.returns
returns c = sum_done c.args.b.now c.args.coefficients.now c.args.items.now _ c.loop-at.at (omega arith) c.loop-at.invariant

pub loop-at-init : goal.loop-at-init
loop-at-init c = record { total = omega (arith, ints); fits = c.requires }

pub loop-at-preserved : goal.loop-at-preserved
loop-at-preserved c = (next_sum c.args.b.now c.args.coefficients.now c.args.items.now c.number.result c.number-in-loop-at.result _ c.loop-at.at c.index-coefficients-at.result c.index-items-at.result (record { sfits = c.number.type_inv }) (record { sfits = c.number-in-loop-at.type_inv }) c.number.ensures c.number-in-loop-at.ensures (omega arith) (omega arith) c.index-coefficients-at.is c.index-items-at.is c.loop-at.invariant).goes
