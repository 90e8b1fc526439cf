use Rattle.std.proofs.Common.{◌≤◌, Some}
use Rattle.xs_model.specs.Accepted.{goal_items}
use Rattle.xs_model.specs.Fields.{body_fields}
use Rattle.xs_model.specs.Fitting.{IsFittingBody}
use Rattle.xs_model.specs.Formed.{AreFormed}
use Rattle.xs_model.specs.Outline.{variables_in}
use Rattle.xs_model.specs.declared.instance.Objective.{Objective}
use Rattle.xs_objectives.specs.Objective.{objective_meets, objective_of}
use Rattle.xs_objectives.proofs.GoodLemmas.{objective_good}
use Rattle.xs_tables.proofs.AnswerLemmas.{answer_ok}
use Rattle.xs_objectives.proofs.objective.read_objective.Goals as goal

pub returns-clause-formed : goal.returns-clause-formed
returns-clause-formed c =
    let os = c.args.names.now in
    let x = c.args.c.now in
    answer_ok (λ (o : Objective). AreFormed (variables_in os) (body_fields o.body)) (objective_meets os c.args.left x) (objective_of os x) c.read_typed.result
    (λ h. (objective_good os c.args.left x h).formed) c.read_typed.ensures

pub returns-clause-fitting : goal.returns-clause-fitting
returns-clause-fitting c =
    let os = c.args.names.now in
    let x = c.args.c.now in
    answer_ok (λ (o : Objective). IsFittingBody o.body) (objective_meets os c.args.left x) (objective_of os x) c.read_typed.result
    (λ h. (objective_good os c.args.left x h).fitting) c.read_typed.ensures

pub returns-clause-few : goal.returns-clause-few
returns-clause-few c =
    let os = c.args.names.now in
    let x = c.args.c.now in
    answer_ok (λ (o : Objective). goal_items (Some o) ≤ c.args.left) (objective_meets os c.args.left x) (objective_of os x) c.read_typed.result
    (λ h. (objective_good os c.args.left x h).few) c.read_typed.ensures
