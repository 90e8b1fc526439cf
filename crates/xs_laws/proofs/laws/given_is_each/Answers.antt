use Rattle.xs_laws.proofs.Neighbours.{given_is_each}
use Rattle.xs_laws.proofs.laws.given_is_each.Goals as goal

pub returns : goal.returns
returns c = given_is_each
