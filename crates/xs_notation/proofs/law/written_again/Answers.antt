use Rattle.xs_notation.proofs.WrittenAgain.{written-again}
use Rattle.xs_notation.proofs.law.written_again.Goals as goal

pub returns : goal.returns
returns c = written-again
