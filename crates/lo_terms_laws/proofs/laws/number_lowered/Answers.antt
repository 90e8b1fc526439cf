use Rattle.lo_terms_laws.proofs.Lowered.{number_lowered}
use Rattle.lo_terms_laws.proofs.laws.number_lowered.Goals as goal

pub returns : goal.returns
returns c = number_lowered
