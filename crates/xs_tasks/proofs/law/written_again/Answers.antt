use Rattle.xs_tasks.proofs.AgainLemmas.{written_again}
use Rattle.xs_tasks.proofs.law.written_again.Goals as goal

pub returns : goal.returns
returns c = written_again
