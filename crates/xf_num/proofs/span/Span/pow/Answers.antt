use Rattle.std.proofs.Common.{rules, subst, sym, ◌≤ℤ◌}
use Rattle.xf_num.specs.Span.{int_pow}
use Rattle.xf_num.proofs.Images.{pow-IsImageHull, pow_ordered, base_fits}
use Rattle.xf_num.proofs.span.Span.pow.Goals as goal

pub raised-requires : goal.raised-requires
raised-requires c =
    let h = pow_ordered c.args.self c.args.k (search rules) in
    subst (λ b. int_pow b.lo c.args.k ≤ℤ int_pow b.hi c.args.k) (sym c.in-Some.ensures.1) h

pub returns-in-Some-clause-hull : goal.returns-in-Some-clause-hull
returns-in-Some-clause-hull c = let h = pow-IsImageHull c.args.self c.args.k (search rules) in search rules

pub returns-in-None-clause-value : goal.returns-in-None-clause-value
returns-in-None-clause-value c = λ f. c.in-None.ensures (base_fits c.args.self c.args.k (search rules) c.requires.least (record { lo_fits = search rules; hi_fits = search rules }) f)
