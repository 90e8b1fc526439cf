use Rattle.std.proofs.Common.{◌∙◌, Bool, List, ℕ, ap}
use Rattle.xs_fields.specs.Conditions.{first_missed}
use Rattle.xs_objectives.specs.Lists.{is_one_list, list_meets, list_text}
use Rattle.xs_var.specs.Variable.{spelling_meets}
use Rattle.xs_objectives.proofs.objective.scan_members.Goals as goal

pub returns-clause-missed : goal.returns-clause-missed
returns-clause-missed c =
    let os = c.args.names.now in
    let parts = c.args.parts.now in
    c.earlier.ensures.joins (spelling_meets (is_one_list parts)) (list_meets os c.args.left c.args.filled (list_text parts))
    (c.judge_spelling-spelt.ensures ∙ ap (λ (b : Bool). first_missed (spelling_meets b)) c.is_one_list.ensures)
    (c.in_ok-list.ensures.missed ∙ ap (λ (t : List ℕ). first_missed (list_meets os c.args.left c.args.filled t)) c.list_text.ensures)
