use Rattle.fz_read.proofs.Lasting.{denoted}
use Rattle.fz_read.proofs.read.denotes_law.Goals as goal

pub returns : goal.returns
returns c = denoted
