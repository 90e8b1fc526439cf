use Rattle.xs_paths.proofs.Carried.{targets_are_arrivals}
use Rattle.xs_paths.proofs.laws.targets_are_arrivals.Goals as goal

pub returns : goal.returns
returns c = targets_are_arrivals
