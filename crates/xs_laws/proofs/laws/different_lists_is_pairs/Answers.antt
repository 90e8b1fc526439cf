use Rattle.xs_laws.proofs.Neighbours.{different_lists_is_pairs}
use Rattle.xs_laws.proofs.laws.different_lists_is_pairs.Goals as goal

pub returns : goal.returns
returns c = different_lists_is_pairs
