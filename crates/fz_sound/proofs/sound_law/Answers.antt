use Rattle.fz_sound.proofs.SoundGoals.{outcome_sound}
use Rattle.fz_sound.proofs.sound_law.Goals as goal

pub returns : goal.returns
returns c = outcome_sound
