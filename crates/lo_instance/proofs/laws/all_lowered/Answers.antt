use Rattle.lo_instance.proofs.FormLemmas.{all_lowered}
use Rattle.lo_instance.proofs.laws.all_lowered.Goals as goal

pub returns : goal.returns
returns c = all_lowered
