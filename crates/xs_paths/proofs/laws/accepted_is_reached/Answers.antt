use Rattle.xs_paths.proofs.Reach.{accepted_is_reached}
use Rattle.xs_paths.proofs.laws.accepted_is_reached.Goals as goal

pub returns : goal.returns
returns c = accepted_is_reached
