use Rattle.lo_paths.proofs.LawLemmas.{mdd_lowered}
use Rattle.lo_paths.proofs.laws.mdd_lowered.Goals as goal

pub returns : goal.returns
returns c = mdd_lowered
