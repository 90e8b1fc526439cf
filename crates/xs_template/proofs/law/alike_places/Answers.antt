use Rattle.xs_template.proofs.AlikeLemmas.{alike_places}
use Rattle.xs_template.proofs.law.alike_places.Goals as goal

pub returns : goal.returns
returns c = alike_places
