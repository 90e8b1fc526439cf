use Rattle.xs_laws.proofs.Ascending.{sorted_different}
use Rattle.xs_laws.proofs.laws.sorted_different.Goals as goal

pub returns : goal.returns
returns c = sorted_different
