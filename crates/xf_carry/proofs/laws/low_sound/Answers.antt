use Rattle.xf_carry.proofs.Soundness.{low_sound}
use Rattle.xf_carry.proofs.laws.low_sound.Goals as goal

pub returns : goal.returns
returns c = low_sound
