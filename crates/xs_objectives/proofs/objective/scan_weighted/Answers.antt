use Rattle.std.proofs.Common.{◌∙◌, Bool, Bor, List, Option, ℕ, ap, codes}
use Rattle.std.specs.Option.{option_map}
use Rattle.xs_fields.specs.Conditions.{first_missed}
use Rattle.xs_objectives.specs.Lists.{is_one_sum, list_text, sum_meets}
use Rattle.xs_tables.specs.Extension.{text_in}
use Rattle.xs_var.specs.Variable.{spelling_meets}
use Rattle.xs_objectives.proofs.objective.scan_weighted.Goals as goal

pub returns-clause-missed : goal.returns-clause-missed
returns-clause-missed c =
    let os = c.args.names.now in
    let parts = c.args.parts.now in
    let coeffs = option_map (λ (x : Bor (List ℕ)). x.now) c.text_in.result in
    c.earlier.ensures.joins (spelling_meets (is_one_sum parts)) (sum_meets os c.args.left (list_text parts) (text_in (codes "coeffs") parts))
    (c.judge_spelling-spelt.ensures ∙ ap (λ (b : Bool). first_missed (spelling_meets b)) c.is_one_sum.ensures)
    (c.in_ok-reading.ensures.missed ∙ ap (λ (t : List ℕ). first_missed (sum_meets os c.args.left t coeffs)) c.list_text.ensures
    ∙ ap (λ (o : Option (List ℕ)). first_missed (sum_meets os c.args.left (list_text parts) o)) c.text_in.ensures)
