use Rattle.std.proofs.Common.{rules}
use Rattle.lo_circuits.proofs.CodeLemmas.{ones_small}
use Rattle.lo_circuits.proofs.circuit.lower_some_size.Goals as goal

pub sum_call-requires-clause-coefficients : goal.sum_call-requires-clause-coefficients
sum_call-requires-clause-coefficients g c = ones_small c.as_slice.result.now c.as_slice-2.result.now (search rules)
