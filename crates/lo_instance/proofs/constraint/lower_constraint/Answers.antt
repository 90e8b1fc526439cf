use Rattle.lo_instance.proofs.FormLemmas.{form_lowered}
use Rattle.lo_instance.proofs.constraint.lower_constraint.Goals as goal

pub returns-clause-law : goal.returns-clause-law
returns-clause-law g c = λ ordered le. form_lowered c.args.spans.now _ c.args.c.now c.requires.sound ordered le

pub returns-in_err-lower_form-clause-law : goal.returns-in_err-lower_form-clause-law
returns-in_err-lower_form-clause-law g c = λ ordered le. form_lowered c.args.spans.now _ c.args.c.now c.requires.sound ordered le
