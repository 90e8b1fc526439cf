use Rattle.xs_paths.proofs.Reach.{accepted_is_met}
use Rattle.xs_paths.proofs.laws.accepted_is_met.Goals as goal

pub returns : goal.returns
returns c = accepted_is_met
