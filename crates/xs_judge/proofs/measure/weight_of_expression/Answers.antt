use Rattle.std.proofs.Common.{◌≡◌, ◌+◌, ℕ, ◌∙◌, ap, arith, length}
use Rattle.std.specs.Prelude.{sum}
use Rattle.xs_model.specs.Formed.{nodes}
use Rattle.xs_model.specs.Magnitude.{weighed}
use Rattle.xs_judge.specs.Weights.{measured}
use Rattle.xs_expr.proofs.Nodes.{length-nodes}
use Rattle.xs_judge.proofs.measure.weight_of_expression.Goals as goal

pub returns : goal.returns
returns c =
    let ss = c.args.spans.now in
    let e = c.args.expr.now in
    let ms = (weighed ss e).nodes in
    let m : sum ms ≡ sum ms + 0 = omega arith in
    let n : length ms ≡ nodes e + 0 = omega (arith, length-nodes ss e) in
    c.weight_of_expr.ensures ∙ ap (λ (k : ℕ). measured k (length ms)) m ∙ ap (λ (k : ℕ). measured (sum ms + 0) k) n
