use Rattle.std.proofs.Common.{◌∙◌, Bool, ap}
use Rattle.xs_conditions.specs.Conditions.{condition_meets}
use Rattle.xs_conditions.specs.Spelling.{word_in}
use Rattle.xs_fields.specs.Conditions.{first_missed}
use Rattle.xs_tasks.specs.Tasks.{is_limit_word}
use Rattle.xs_var.specs.Variable.{spelling_meets}
use Rattle.xs_tasks.proofs.limit.scan_limit.Goals as goal

pub returns-clause-missed : goal.returns-clause-missed
returns-clause-missed c =
    let text = c.args.text.now in
    c.earlier.ensures.joins (spelling_meets (is_limit_word (word_in text))) (condition_meets c.args.names.now text c.args.left)
    (c.judge_spelling-spelt.ensures ∙ ap (λ (b : Bool). first_missed (spelling_meets b)) c.is_limit.ensures) c.in_ok-reading.ensures.missed
