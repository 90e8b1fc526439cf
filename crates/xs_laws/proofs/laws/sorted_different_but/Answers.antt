use Rattle.xs_laws.proofs.Ascending.{sorted_different_but}
use Rattle.xs_laws.proofs.laws.sorted_different_but.Goals as goal

pub returns : goal.returns
returns c = sorted_different_but
