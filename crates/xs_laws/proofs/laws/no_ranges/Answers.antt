use Rattle.xs_laws.proofs.Tables.{no_ranges}
use Rattle.xs_laws.proofs.laws.no_ranges.Goals as goal

pub returns : goal.returns
returns c = no_ranges
