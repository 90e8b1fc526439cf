use Rattle.xs_laws.proofs.Elements.{flat_index_is_three}
use Rattle.xs_laws.proofs.laws.flat_index_is_three.Goals as goal

pub returns : goal.returns
returns c = flat_index_is_three
