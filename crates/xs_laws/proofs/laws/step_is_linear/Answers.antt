use Rattle.xs_laws.proofs.Neighbours.{step_is_linear}
use Rattle.xs_laws.proofs.laws.step_is_linear.Goals as goal

pub returns : goal.returns
returns c = step_is_linear
