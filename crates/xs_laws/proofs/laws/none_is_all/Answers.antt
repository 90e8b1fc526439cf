use Rattle.xs_laws.proofs.Channels.{none_is_all}
use Rattle.xs_laws.proofs.laws.none_is_all.Goals as goal

pub returns : goal.returns
returns c = none_is_all
