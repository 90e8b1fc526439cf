use Rattle.xs_file.proofs.DenotedLemmas.{one_denoted}
use Rattle.xs_file.proofs.read.one_denoted.Goals as goal

pub returns : goal.returns
returns c = one_denoted
