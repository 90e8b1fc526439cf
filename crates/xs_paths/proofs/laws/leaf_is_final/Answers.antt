use Rattle.xs_paths.proofs.Flags.{leaf_is_final}
use Rattle.xs_paths.proofs.laws.leaf_is_final.Goals as goal

pub returns : goal.returns
returns c = leaf_is_final
