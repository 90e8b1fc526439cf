use Rattle.std.proofs.Common.{◌≤◌}
use Rattle.xs_model.specs.Accepted.{IsFormed, items_of}
use Rattle.xs_model.specs.Outline.{variables_in}
use Rattle.xs_model.specs.declared.instance.Constraint.{Constraint}
use Rattle.xs_tables.proofs.AnswerLemmas.{answer_ok}
use Rattle.xs_tasks.specs.Tasks.{cumulative_meets, cumulative_of}
use Rattle.xs_tasks.proofs.GoodLemmas.{cumulative_good}
use Rattle.xs_tasks.proofs.tasks.read_cumulative.Goals as goal

pub returns-clause-formed : goal.returns-clause-formed
returns-clause-formed c =
    let os = c.args.names.now in
    let x = c.args.c.now in
    answer_ok (λ (y : Constraint). IsFormed (variables_in os) y) (cumulative_meets os c.args.left x) (cumulative_of os x) c.read_parts.result (λ none. (cumulative_good os c.args.left x none).0) c.read_parts.ensures

pub returns-clause-few : goal.returns-clause-few
returns-clause-few c =
    let os = c.args.names.now in
    let x = c.args.c.now in
    answer_ok (λ (y : Constraint). items_of y ≤ c.args.left) (cumulative_meets os c.args.left x) (cumulative_of os x) c.read_parts.result (λ none. (cumulative_good os c.args.left x none).1) c.read_parts.ensures
