use Rattle.std.proofs.Common.{◌∙◌, ap}
use Rattle.xs_model.specs.declared.instance.Body.{Body}
use Rattle.xs_model.specs.declared.instance.Direction.{Direction}
use Rattle.xs_model.specs.declared.instance.Objective.{Objective}
use Rattle.xs_objectives.specs.Objective.{direction_of, objective_meets, objective_of}
use Rattle.xs_objectives.proofs.MissedLemmas.{answered_as}
use Rattle.xs_objectives.proofs.objective.read_typed.Goals as goal

abbrev made : Direction → Body → Objective
made d b = record { direction = d; body = b }

pub returns : goal.returns
returns c =
    let os = c.args.names.now in
    let x = c.args.c.now in
    let b = c.in_ok-body.body in
    answered_as (objective_meets os c.args.left x) b.missed (made c.direction_of-direction.result b.value) (objective_of os x) c.answered.result c.answered.ensures c.in_ok-body.ensures.missed
    (λ none. ap (λ (d : Direction). made d b.value) c.direction_of-direction.ensures ∙ ap (λ (y : Body). made (direction_of x.name) y) (c.in_ok-body.ensures.value none))
