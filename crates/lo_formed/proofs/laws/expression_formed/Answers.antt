use Rattle.lo_formed.proofs.Expressions.{expression_formed}
use Rattle.lo_formed.proofs.laws.expression_formed.Goals as goal

pub returns : goal.returns
returns c = expression_formed
