use Rattle.xs_laws.proofs.Ascending.{sorted_run}
use Rattle.xs_laws.proofs.laws.sorted_run.Goals as goal

pub returns : goal.returns
returns c = sorted_run
