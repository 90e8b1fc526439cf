use Rattle.lo_circuits.proofs.LawLemmas.{sound_circuit_lowered}
use Rattle.lo_circuits.proofs.laws.sound_circuit_lowered.Goals as goal

pub returns : goal.returns
returns c = sound_circuit_lowered
