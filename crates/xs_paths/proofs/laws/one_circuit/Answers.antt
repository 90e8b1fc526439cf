use Rattle.xs_paths.proofs.Examples.{one_circuit}
use Rattle.xs_paths.proofs.laws.one_circuit.Goals as goal

pub returns : goal.returns
returns c = one_circuit
