use Rattle.xs_laws.proofs.Elements.{element_is_from_one}
use Rattle.xs_laws.proofs.laws.element_is_from_one.Goals as goal

pub returns : goal.returns
returns c = element_is_from_one
