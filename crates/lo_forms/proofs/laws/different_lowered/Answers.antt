use Rattle.lo_forms.proofs.DifferentLemmas.{different_lowered}
use Rattle.lo_forms.proofs.laws.different_lowered.Goals as goal

pub returns : goal.returns
returns c = different_lowered
