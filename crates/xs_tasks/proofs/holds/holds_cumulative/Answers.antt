use Rattle.std.proofs.Common.{◌≡◌, ◌↔◌, ◌∙◌, true, sym, subst}
use Rattle.xs_model.specs.Accepted.{IsFormed}
use Rattle.xs_model.specs.Instance.{Holds}
use Rattle.xs_model.specs.declared.instance.Constraint.{Constraint}
use Rattle.std.proofs.Common.{length}
use Rattle.xs_tasks.specs.Tested.{IsJudgedAt}
use Rattle.xs_tasks.proofs.HoldLemmas.{held}
use Rattle.xs_tasks.proofs.holds.holds_cumulative.Goals as goal

pub returns-in-Cumulative : goal.returns-in-Cumulative
returns-in-Cumulative c =
    let a = c.args.a.now in
    let formed = subst (λ (y : Constraint). IsFormed (length a) y) c.in-Cumulative.is c.requires.formed in
    let judged = subst (λ (y : Constraint). IsJudgedAt a y) c.in-Cumulative.is c.requires.judged in
    let law = held a c.in-Cumulative.origins c.in-Cumulative.lengths c.in-Cumulative.heights c.in-Cumulative.ends c.in-Cumulative.cond formed judged in
    subst (λ (y : Constraint). (c.tasks_hold.result ≡ true) ↔ Holds y a) (sym c.in-Cumulative.is) (λ h. law.0 (sym c.tasks_hold.ensures ∙ h), λ h. c.tasks_hold.ensures ∙ law.1 h)
