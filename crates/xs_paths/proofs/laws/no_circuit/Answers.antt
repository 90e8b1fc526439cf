use Rattle.xs_paths.proofs.Examples.{no_circuit}
use Rattle.xs_paths.proofs.laws.no_circuit.Goals as goal

pub returns : goal.returns
returns c = no_circuit
