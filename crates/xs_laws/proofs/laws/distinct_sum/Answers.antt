use Rattle.xs_laws.proofs.Distinct.{distinct_sum}
use Rattle.xs_laws.proofs.laws.distinct_sum.Goals as goal

pub returns : goal.returns
returns c = distinct_sum
