use Rattle.xs_laws.proofs.Boxes.{separation_is_linear}
use Rattle.xs_laws.proofs.laws.separation_is_linear.Goals as goal

pub returns : goal.returns
returns c = separation_is_linear
