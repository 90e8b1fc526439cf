use Rattle.xs_paths.proofs.Carried.{accepted_is_carried}
use Rattle.xs_paths.proofs.laws.accepted_is_carried.Goals as goal

pub returns : goal.returns
returns c = accepted_is_carried
