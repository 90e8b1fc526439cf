use Rattle.xs_laws.proofs.Elements.{cell_is_flat}
use Rattle.xs_laws.proofs.laws.cell_is_flat.Goals as goal

pub returns : goal.returns
returns c = cell_is_flat
