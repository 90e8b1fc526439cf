use Rattle.lo_formed.proofs.Expressions.{intension_formed}
use Rattle.lo_formed.proofs.laws.intension_formed.Goals as goal

pub returns : goal.returns
returns c = intension_formed
