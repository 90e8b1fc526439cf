use Rattle.xs_laws.proofs.Cardinality.{cardinality_is_sums}
use Rattle.xs_laws.proofs.laws.cardinality_is_sums.Goals as goal

pub returns : goal.returns
returns c = cardinality_is_sums
