use Rattle.xs_laws.proofs.Elements.{element_is_place}
use Rattle.xs_laws.proofs.laws.element_is_place.Goals as goal

pub returns : goal.returns
returns c = element_is_place
