use Rattle.std.proofs.Common.{ℕ, ap, sym, ◌∙◌}
use Rattle.xs_model.specs.Bounds.{bounds}
use Rattle.xs_expr.proofs.Nodes.{mag-expression}
use Rattle.xs_model.specs.Magnitude.{weighed, total_of, judged_bounds}
use Rattle.xs_expr.proofs.Weighed.{weighed-bounds}
use Rattle.xs_judge.proofs.Counted.{counted-is, fault-is}
use Rattle.xs_judge.proofs.judging.judge_expr.Goals as goal

pub returns-in-Ok : goal.returns-in-Ok
returns-in-Ok c =
    let w = weighed c.args.spans.now c.args.e.now in
    let known = counted-is w c.in-Ok.counted (sym c.count_nodes.ensures ∙ c.in-Ok.is) in
    c.judge_root.ensures w.nodes known.1
    ∙ ap (judged_bounds (total_of (weighed c.args.spans.now c.args.e.now).nodes)) (sym known.0 ∙ weighed-bounds c.args.spans.now c.args.e.now)
    ∙ ap (λ (m : ℕ). judged_bounds m (bounds c.args.spans.now c.args.e.now)) (sym (mag-expression c.args.spans.now c.args.e.now))

pub returns-in-Err : goal.returns-in-Err
returns-in-Err c =
    let w = weighed c.args.spans.now c.args.e.now in
    let known = fault-is w.bounds w.nodes c.in-Err.kind (sym c.count_nodes.ensures ∙ c.in-Err.is) in
    ap (judged_bounds (total_of (weighed c.args.spans.now c.args.e.now).nodes)) (sym known ∙ weighed-bounds c.args.spans.now c.args.e.now)
    ∙ ap (λ (m : ℕ). judged_bounds m (bounds c.args.spans.now c.args.e.now)) (sym (mag-expression c.args.spans.now c.args.e.now))
