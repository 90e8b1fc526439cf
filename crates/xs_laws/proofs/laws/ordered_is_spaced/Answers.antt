use Rattle.xs_laws.proofs.Neighbours.{ordered_is_spaced}
use Rattle.xs_laws.proofs.laws.ordered_is_spaced.Goals as goal

pub returns : goal.returns
returns c = ordered_is_spaced
