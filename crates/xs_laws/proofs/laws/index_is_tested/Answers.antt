use Rattle.xs_laws.proofs.Indices.{index_is_tested}
use Rattle.xs_laws.proofs.laws.index_is_tested.Goals as goal

pub returns : goal.returns
returns c = index_is_tested
