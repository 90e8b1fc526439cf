use Rattle.xs_laws.proofs.Neighbours.{different_is_pairs}
use Rattle.xs_laws.proofs.laws.different_is_pairs.Goals as goal

pub returns : goal.returns
returns c = different_is_pairs
