use Rattle.xs_laws.proofs.Distinct.{places_sum}
use Rattle.xs_laws.proofs.laws.places_sum.Goals as goal

pub returns : goal.returns
returns c = places_sum
