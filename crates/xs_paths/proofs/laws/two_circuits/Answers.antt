use Rattle.xs_paths.proofs.Examples.{two_circuits}
use Rattle.xs_paths.proofs.laws.two_circuits.Goals as goal

pub returns : goal.returns
returns c = two_circuits
