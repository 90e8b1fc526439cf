use Rattle.lo_names.proofs.LowLemmas.{are_low_names}
use Rattle.lo_names.proofs.names.low_names.Goals as goal

pub returns : goal.returns
returns c = are_low_names
