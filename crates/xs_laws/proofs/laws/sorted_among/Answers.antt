use Rattle.xs_laws.proofs.Ascending.{sorted_among}
use Rattle.xs_laws.proofs.laws.sorted_among.Goals as goal

pub returns : goal.returns
returns c = sorted_among
