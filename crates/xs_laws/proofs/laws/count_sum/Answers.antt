use Rattle.xs_laws.proofs.Distinct.{count_sum}
use Rattle.xs_laws.proofs.laws.count_sum.Goals as goal

pub returns : goal.returns
returns c = count_sum
