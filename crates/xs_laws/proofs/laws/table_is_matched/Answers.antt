use Rattle.xs_laws.proofs.Tables.{table_is_matched}
use Rattle.xs_laws.proofs.laws.table_is_matched.Goals as goal

pub returns : goal.returns
returns c = table_is_matched
