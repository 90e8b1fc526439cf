use Rattle.fz_again.proofs.Again as again
use Rattle.fz_again.proofs.laws.read_again.Goals as goal

pub returns : goal.returns
returns c = again.read_again
