use Rattle.lo_paths.proofs.LawLemmas.{regular_lowered}
use Rattle.lo_paths.proofs.laws.regular_lowered.Goals as goal

pub returns : goal.returns
returns c = regular_lowered
