use Rattle.xs_laws.proofs.Distinct.{distinct_places}
use Rattle.xs_laws.proofs.laws.distinct_places.Goals as goal

pub returns : goal.returns
returns c = distinct_places
