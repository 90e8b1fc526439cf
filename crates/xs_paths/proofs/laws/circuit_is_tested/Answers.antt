use Rattle.xs_paths.proofs.Round.{circuit_is_tested}
use Rattle.xs_paths.proofs.laws.circuit_is_tested.Goals as goal

pub returns : goal.returns
returns c = circuit_is_tested
