use Rattle.fz_sound.proofs.SoundGoals.{outcome_sound}
use Rattle.fz_read.proofs.read.sound_reading.Goals as goal

pub returns : goal.returns
returns c = λ bound text m right h. outcome_sound bound text h.reading m right h.items.model h.meets
