use Rattle.xs_paths.proofs.Round.{circuit_goes_round}
use Rattle.xs_paths.proofs.laws.circuit_goes_round.Goals as goal

pub returns : goal.returns
returns c = circuit_goes_round
