use Rattle.xs_paths.proofs.Round.{circuit_has_size}
use Rattle.xs_paths.proofs.laws.circuit_has_size.Goals as goal

pub returns : goal.returns
returns c = circuit_has_size
