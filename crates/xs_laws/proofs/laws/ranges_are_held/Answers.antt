use Rattle.xs_laws.proofs.Tables.{ranges_are_held}
use Rattle.xs_laws.proofs.laws.ranges_are_held.Goals as goal

pub returns : goal.returns
returns c = ranges_are_held
