use Rattle.std.proofs.Common.{length}
use Rattle.xf_words.proofs.rows.+fit.Given as goal

abbrev pub decreases-fit : goal.decreases-fit
decreases-fit l = length l.slots.now
