use Rattle.xs_paths.proofs.Steps.{circuit_is_stepped}
use Rattle.xs_paths.proofs.laws.circuit_is_stepped.Goals as goal

pub returns : goal.returns
returns c = circuit_is_stepped
