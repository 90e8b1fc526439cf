use Rattle.xs_constraints.proofs.BuiltLemmas.{answered_built, language_built}
use Rattle.xs_constraints.proofs.form.read_form.Goals as goal
use Rattle.xs_language.specs.Language as language

pub returns-then-is_form-clause-built : goal.returns-then-is_form-clause-built
returns-then-is_form-clause-built c =
    let os = c.args.names.now in
    let x = c.args.c.now in
    answered_built c.read_form.result (language.form_meets os c.args.left x) (language.form_of os x) (language_built os x) c.read_form.ensures.value
