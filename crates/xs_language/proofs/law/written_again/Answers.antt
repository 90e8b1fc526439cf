use Rattle.xs_language.proofs.LawLemmas.{written_again}
use Rattle.xs_language.proofs.law.written_again.Goals as goal

pub returns : goal.returns
returns c = written_again
