use Rattle.lo_instance.proofs.FormLemmas.{form_lowered}
use Rattle.lo_instance.proofs.laws.form_lowered.Goals as goal

pub returns : goal.returns
returns c = form_lowered
