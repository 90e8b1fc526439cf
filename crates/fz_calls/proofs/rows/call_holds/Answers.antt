use Rattle.std.proofs.Common.{rules}
use Rattle.fz_model.specs.Meaning.{CallHolds}
use Rattle.fz_calls.proofs.rows.call_holds.Goals as goal

pub returns : goal.returns
unfolding CallHolds
returns c = search rules
