use Rattle.fz_calls.proofs.Fitting.{SumGoes}
use Rattle.fz_calls.proofs.sums.sum_of_products.Given as goal

abbrev pub invariant-loop-at : goal.invariant-loop-at
invariant-loop-at l = SumGoes l.b l.coefficients l.items l.sum l.at
