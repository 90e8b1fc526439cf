use Rattle.lo_base.proofs.Steps.{one_extension}
use Rattle.lo_base.proofs.laws.one_extension.Goals as goal

pub returns : goal.returns
returns c = one_extension
