use Rattle.xs_paths.proofs.Steps.{walk_is_inside}
use Rattle.xs_paths.proofs.laws.walk_is_inside.Goals as goal

pub returns : goal.returns
returns c = walk_is_inside
