use Rattle.std.proofs.Common.{◌≡◌, ◌+◌, ℕ, rules, arith, nat_abs, ap, ◌∙◌}
use Rattle.xs_judge.specs.Weights.{measured}
use Rattle.xs_judge.proofs.measure.transition.Goals as goal

pub returns : goal.returns
returns c =
    let size : c.unsigned_abs.result ≡ nat_abs c.args.value = search rules in
    let same : c.unsigned_abs.result + 0 ≡ 0 + (nat_abs c.args.value + (0 + 0)) = omega (arith, size) in
    c.and.ensures c.unsigned_abs.result 1 0 2 c.one.ensures c.marks.ensures ∙ ap (λ (m : ℕ). measured m 3) same
