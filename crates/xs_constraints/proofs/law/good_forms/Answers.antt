use Rattle.xs_constraints.proofs.GoodLemmas.{good_forms}
use Rattle.xs_constraints.proofs.law.good_forms.Goals as goal

pub returns : goal.returns
returns c = good_forms
