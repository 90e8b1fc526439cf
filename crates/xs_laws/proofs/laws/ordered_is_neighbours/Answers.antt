use Rattle.xs_laws.proofs.Neighbours.{ordered_is_neighbours}
use Rattle.xs_laws.proofs.laws.ordered_is_neighbours.Goals as goal

pub returns : goal.returns
returns c = ordered_is_neighbours
