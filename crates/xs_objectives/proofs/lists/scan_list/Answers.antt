use Rattle.std.proofs.Common.{◌≡◌, ◌∙◌, ◌||◌, Bool, ℕ, List, not, nat_lt, length, ap, sym}
use Rattle.xs_fields.specs.Cells.{vars_meet, vars_of}
use Rattle.xs_fields.specs.Conditions.{first_missed}
use Rattle.xs_objectives.proofs.MissedLemmas.{before_lengths, second_decides}
use Rattle.xs_var.specs.VarDomain.{fitting_meets}
use Rattle.xs_objectives.proofs.lists.scan_list.Goals as goal

pub returns-in-Some-clause-missed : goal.returns-in-Some-clause-missed
returns-in-Some-clause-missed c =
    let os = c.args.names.now in
    let text = c.args.text.now in
    c.in-Some.is ∙ sym (before_lengths (vars_meet os text c.args.left) (not c.args.filled || nat_lt 0 (length (vars_of os text))) c.in-Some.field-0 (sym c.in_ok-list.ensures.missed ∙ c.in-Some.is))

pub returns-in-None-clause-missed : goal.returns-in-None-clause-missed
returns-in-None-clause-missed c =
    let os = c.args.names.now in
    let text = c.args.text.now in
    let filled = c.args.filled in
    let is : c.in_ok-list.list.value ≡ vars_of os text = c.in_ok-list.ensures.value c.in-None.is in
    c.judge_fitting-missed.ensures
    ∙ ap (λ (b : Bool). first_missed (fitting_meets b)) (c.is_filled.ensures ∙ ap (λ (vs : List ℕ). not filled || nat_lt 0 (length vs)) is)
    ∙ second_decides (vars_meet os text c.args.left) (fitting_meets (not filled || nat_lt 0 (length (vars_of os text)))) (sym c.in_ok-list.ensures.missed ∙ c.in-None.is)
