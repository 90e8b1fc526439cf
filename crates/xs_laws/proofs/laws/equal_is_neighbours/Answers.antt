use Rattle.xs_laws.proofs.Neighbours.{equal_is_neighbours}
use Rattle.xs_laws.proofs.laws.equal_is_neighbours.Goals as goal

pub returns : goal.returns
returns c = equal_is_neighbours
