use Rattle.xs_objectives.proofs.WrittenLemmas.{written_again}
use Rattle.xs_objectives.proofs.law.written_again.Goals as goal

pub returns : goal.returns
returns c = written_again
