use Rattle.lo_paths.proofs.SoundLemmas.{sound_regular_lowered}
use Rattle.lo_paths.proofs.laws.sound_regular_lowered.Goals as goal

pub returns : goal.returns
returns c = sound_regular_lowered
