use Rattle.lo_circuits.proofs.LawLemmas.{circuit_lowered}
use Rattle.lo_circuits.proofs.laws.circuit_lowered.Goals as goal

pub returns : goal.returns
returns c = circuit_lowered
