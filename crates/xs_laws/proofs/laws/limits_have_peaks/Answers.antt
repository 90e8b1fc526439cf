use Rattle.xs_laws.proofs.Limits.{limits_have_peaks}
use Rattle.xs_laws.proofs.laws.limits_have_peaks.Goals as goal

pub returns : goal.returns
returns c = limits_have_peaks
