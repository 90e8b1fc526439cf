use Rattle.std.proofs.Common.{length}
use Rattle.fz_values.proofs.fitting.+all_reach.Given as goal

abbrev pub decreases-all_reach : goal.decreases-all_reach
decreases-all_reach l = length l.kinds.now
