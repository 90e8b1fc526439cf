use Rattle.lo_tables.proofs.UnaryLemmas.{unary_lowered}
use Rattle.lo_tables.proofs.laws.unary_lowered.Goals as goal

pub returns : goal.returns
returns c = unary_lowered
