use Rattle.std.proofs.Common.{sym, ◌∙◌}
use Rattle.xs_model.specs.Magnitude.{weighed}
use Rattle.xs_expr.proofs.Weighed.{weighed-bounds}
use Rattle.xs_judge.proofs.Counted.{fault-is, no-fault}
use Rattle.xs_judge.proofs.nodes.weight_of_expr.Goals as goal

pub returns-in-Err : goal.returns-in-Err
returns-in-Err c =
    let w = weighed c.args.spans.now c.args.e.now in
    let known = fault-is w.bounds w.nodes c.in-Err.field-0 (sym c.count_nodes.ensures ∙ c.in-Err.is) in
    absurd (no-fault _ c.in-Err.field-0 (sym (weighed-bounds c.args.spans.now c.args.e.now) ∙ known) c.requires.bounded)
