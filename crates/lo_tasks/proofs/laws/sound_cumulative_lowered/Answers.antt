use Rattle.lo_tasks.proofs.LawLemmas.{sound_cumulative_lowered}
use Rattle.lo_tasks.proofs.laws.sound_cumulative_lowered.Goals as goal

pub returns : goal.returns
returns c = sound_cumulative_lowered
