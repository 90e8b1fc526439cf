use Rattle.xs_paths.proofs.Circuit.{circuit_is_walked}
use Rattle.xs_paths.proofs.laws.circuit_is_walked.Goals as goal

pub returns : goal.returns
returns c = circuit_is_walked
