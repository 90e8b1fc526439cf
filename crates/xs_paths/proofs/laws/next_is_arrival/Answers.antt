use Rattle.xs_paths.proofs.Carried.{next_is_arrival}
use Rattle.xs_paths.proofs.laws.next_is_arrival.Goals as goal

pub returns : goal.returns
returns c = next_is_arrival
