use Rattle.xs_laws.proofs.Elements.{some_element_is_found}
use Rattle.xs_laws.proofs.laws.some_element_is_found.Goals as goal

pub returns : goal.returns
returns c = some_element_is_found
