use Rattle.xs_laws.proofs.Ascending.{sorted_distinct}
use Rattle.xs_laws.proofs.laws.sorted_distinct.Goals as goal

pub returns : goal.returns
returns c = sorted_distinct
