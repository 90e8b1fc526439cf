use Rattle.xs_laws.proofs.Ascending.{closed_is_sum}
use Rattle.xs_laws.proofs.laws.closed_is_sum.Goals as goal

pub returns : goal.returns
returns c = closed_is_sum
