use Rattle.lo_terms_laws.proofs.Lowered.{intension_lowered}
use Rattle.lo_terms_laws.proofs.laws.intension_lowered.Goals as goal

pub returns : goal.returns
returns c = intension_lowered
