use Rattle.std.proofs.Common.{Err, Result, refl, sym, subst}
use Rattle.xf_text.specs.declared.fault.FieldStop.{FieldStop}
use Rattle.xf_text.specs.declared.fault.Kind.{Kind}
use Rattle.xs_fields.specs.Conditions.{IsOrMemory, answer}
use Rattle.xs_file.specs.Sections.{IsStep, Progress, constraint_behind, form_meets}
use Rattle.xs_file.proofs.ConstraintLemmas.{taken_read, taken_refused}
use Rattle.xs_file.proofs.constraint.take_constraint.Goals as goal

pub returns-in-Ok-clause-taken : goal.returns-in-Ok-clause-taken
returns-in-Ok-clause-taken c =
    let s = c.args.held.now in
    subst (λ (t : Result Progress Kind). IsStep t s c.add_constraint.new.held c.add_constraint.result) (sym (taken_read s c.args.c.now c.in-Ok.constraint c.in-Ok.ensures.value)) c.add_constraint.ensures.added

pub returns-in-Err-Refused-clause-taken : goal.returns-in-Err-Refused-clause-taken
returns-in-Err-Refused-clause-taken c =
    let s = c.args.held.now in
    let x = c.args.c.now in
    let told = subst (λ (stop : FieldStop). IsOrMemory (Err stop) (answer (form_meets s x) (constraint_behind s x))) c.in-Err-Refused.field-0-is c.in-Err-Refused.ensures.value in
    (taken_refused s x c.in-Err-Refused.kind told, refl)
