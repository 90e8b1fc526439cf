use Rattle.xs_laws.proofs.Neighbours.{different_but_is_pairs}
use Rattle.xs_laws.proofs.laws.different_but_is_pairs.Goals as goal

pub returns : goal.returns
returns c = different_but_is_pairs
