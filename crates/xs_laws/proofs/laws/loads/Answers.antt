use Rattle.xs_laws.proofs.Examples.{loads}
use Rattle.xs_laws.proofs.laws.loads.Goals as goal

pub returns : goal.returns
returns c = loads
