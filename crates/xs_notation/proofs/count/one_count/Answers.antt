use Rattle.xs_notation.proofs.NodeLemmas.{one-count}
use Rattle.xs_notation.proofs.count.one_count.Goals as goal

pub returns : goal.returns
returns c = one-count
