use Rattle.fz_again.proofs.Again as again
use Rattle.fz_again.proofs.laws.written_again.Goals as goal

pub returns : goal.returns
returns c = again.written_again
