use Rattle.lo_tasks.proofs.LawLemmas.{cumulative_lowered}
use Rattle.lo_tasks.proofs.laws.cumulative_lowered.Goals as goal

pub returns : goal.returns
returns c = cumulative_lowered
