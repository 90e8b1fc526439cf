use Rattle.lo_tables.proofs.SoundLemmas.{sound_unary_lowered}
use Rattle.lo_tables.proofs.laws.sound_unary_lowered.Goals as goal

pub returns : goal.returns
returns c = sound_unary_lowered
