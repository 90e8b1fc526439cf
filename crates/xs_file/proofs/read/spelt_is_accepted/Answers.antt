use Rattle.xs_file.proofs.AcceptedLemmas.{spelt_is_accepted}
use Rattle.xs_file.proofs.read.spelt_is_accepted.Goals as goal

pub returns : goal.returns
returns c = spelt_is_accepted
