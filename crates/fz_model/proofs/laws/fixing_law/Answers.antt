use Rattle.fz_model.proofs.Fixing.{fixed_by_calls}
use Rattle.fz_model.proofs.laws.fixing_law.Goals as goal

pub returns : goal.returns
returns c = fixed_by_calls
