use Rattle.xs_laws.proofs.Limits.{peaks_are_tested}
use Rattle.xs_laws.proofs.laws.peaks_are_tested.Goals as goal

pub returns : goal.returns
returns c = peaks_are_tested
