use Rattle.xs_boxes.proofs.WrittenLemmas.{written_again}
use Rattle.xs_boxes.proofs.law.written_again.Goals as goal

pub returns : goal.returns
returns c = written_again
