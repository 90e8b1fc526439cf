use Rattle.std.proofs.Common.{◌∙◌, Bool, List, ap}
use Rattle.xs_fields.specs.Conditions.{first_missed}
use Rattle.xs_model.specs.declared.concrete.Part.{Part}
use Rattle.xs_parts.proofs.JoinLemmas.{answered_so}
use Rattle.xs_tasks.specs.Tasks.{are_children, cumulative_of, tasks_meet, tasks_of}
use Rattle.xs_var.specs.Variable.{spelling_meets}
use Rattle.xs_tasks.proofs.tasks.read_parts.Goals as goal

pub returns : goal.returns
returns c =
    let os = c.args.names.now in
    let left = c.args.left in
    let x = c.args.c.now in
    let reading = c.in_ok-reading.reading in
    answered_so c.judge_spelling-spelt.result reading.missed c.earlier.result reading.value (cumulative_of os x) (spelling_meets (are_children x.parts)) (tasks_meet os left x.parts) c.answered.result
    c.answered.ensures c.earlier.ensures.value
    (c.judge_spelling-spelt.ensures ∙ ap (λ (b : Bool). first_missed (spelling_meets b)) (c.are_children.ensures ∙ ap are_children c.as_slice-parts.ensures))
    (c.in_ok-reading.ensures.missed ∙ ap (λ (ps : List Part). first_missed (tasks_meet os left ps)) c.as_slice-parts.ensures)
    (λ none. c.in_ok-reading.ensures.value none ∙ ap (tasks_of os) c.as_slice-parts.ensures)
