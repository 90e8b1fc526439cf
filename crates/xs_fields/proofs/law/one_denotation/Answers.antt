use Rattle.xs_fields.proofs.DistinctNames.{one_denotation}
use Rattle.xs_fields.proofs.law.one_denotation.Goals as goal

pub returns : goal.returns
returns c = one_denotation
