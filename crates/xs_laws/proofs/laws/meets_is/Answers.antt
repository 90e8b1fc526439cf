use Rattle.xs_laws.proofs.Meeting.{meets_is}
use Rattle.xs_laws.proofs.laws.meets_is.Goals as goal

pub returns : goal.returns
returns c = meets_is
