use Rattle.fz_read.proofs.LawLemmas.{one_reading}
use Rattle.fz_read.proofs.read.one_reading.Goals as goal

pub returns : goal.returns
returns c = one_reading
