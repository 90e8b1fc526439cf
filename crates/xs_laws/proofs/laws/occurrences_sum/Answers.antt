use Rattle.xs_laws.proofs.Distinct.{occurrences_sum}
use Rattle.xs_laws.proofs.laws.occurrences_sum.Goals as goal

pub returns : goal.returns
returns c = occurrences_sum
