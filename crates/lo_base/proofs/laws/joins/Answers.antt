use Rattle.lo_base.proofs.Steps.{joins}
use Rattle.lo_base.proofs.laws.joins.Goals as goal

pub returns : goal.returns
returns c = joins
