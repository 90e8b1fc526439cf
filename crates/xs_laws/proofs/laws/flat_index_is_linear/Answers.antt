use Rattle.xs_laws.proofs.Elements.{flat_index_is_linear}
use Rattle.xs_laws.proofs.laws.flat_index_is_linear.Goals as goal

pub returns : goal.returns
returns c = flat_index_is_linear
