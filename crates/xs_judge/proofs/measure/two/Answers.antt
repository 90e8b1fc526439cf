use Rattle.std.proofs.Common.{◌≡◌, ◌+◌, ℕ, rules, arith, nat_abs, ap, ◌∙◌}
use Rattle.xs_judge.specs.Weights.{measured}
use Rattle.xs_judge.proofs.measure.two.Goals as goal

pub returns : goal.returns
returns c =
    let low : c.unsigned_abs.result ≡ nat_abs c.args.lo = search rules in
    let high : c.unsigned_abs-2.result ≡ nat_abs c.args.hi = search rules in
    let both : c.unsigned_abs.result + c.unsigned_abs-2.result ≡ nat_abs c.args.lo + (nat_abs c.args.hi + 0) = omega (arith, low, high) in
    c.and.ensures c.unsigned_abs.result 1 c.unsigned_abs-2.result 1 c.one.ensures c.one-2.ensures ∙ ap (λ (m : ℕ). measured m 2) both
