use Rattle.xs_laws.proofs.Cumulative.{peak_at_start}
use Rattle.xs_laws.proofs.laws.peak_at_start.Goals as goal

pub returns : goal.returns
returns c = peak_at_start
