use Rattle.xs_paths.proofs.Flags.{accepted_is_flagged}
use Rattle.xs_paths.proofs.laws.accepted_is_flagged.Goals as goal

pub returns : goal.returns
returns c = accepted_is_flagged
