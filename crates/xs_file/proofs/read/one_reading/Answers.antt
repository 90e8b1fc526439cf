use Rattle.xs_file.proofs.ReadingLemmas.{one_answer}
use Rattle.xs_file.proofs.read.one_reading.Goals as goal

pub returns : goal.returns
returns c = one_answer
