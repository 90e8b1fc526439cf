use Rattle.xs_laws.proofs.Examples.{distinct_values}
use Rattle.xs_laws.proofs.laws.distinct_values.Goals as goal

pub returns : goal.returns
returns c = distinct_values
