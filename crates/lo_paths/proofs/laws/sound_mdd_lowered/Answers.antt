use Rattle.lo_paths.proofs.SoundLemmas.{sound_mdd_lowered}
use Rattle.lo_paths.proofs.laws.sound_mdd_lowered.Goals as goal

pub returns : goal.returns
returns c = sound_mdd_lowered
