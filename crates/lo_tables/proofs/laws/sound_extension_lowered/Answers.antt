use Rattle.lo_tables.proofs.SoundLemmas.{sound_extension_lowered}
use Rattle.lo_tables.proofs.laws.sound_extension_lowered.Goals as goal

pub returns : goal.returns
returns c = sound_extension_lowered
