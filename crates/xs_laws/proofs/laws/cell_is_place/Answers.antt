use Rattle.xs_laws.proofs.Elements.{cell_is_place}
use Rattle.xs_laws.proofs.laws.cell_is_place.Goals as goal

pub returns : goal.returns
returns c = cell_is_place
