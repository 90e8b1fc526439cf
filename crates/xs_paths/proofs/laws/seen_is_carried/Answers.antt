use Rattle.xs_paths.proofs.Carried.{seen_is_carried}
use Rattle.xs_paths.proofs.laws.seen_is_carried.Goals as goal

pub returns : goal.returns
returns c = seen_is_carried
