use Rattle.xs_laws.proofs.Cumulative.{peak_by_ends}
use Rattle.xs_laws.proofs.laws.peak_by_ends.Goals as goal

pub returns : goal.returns
returns c = peak_by_ends
