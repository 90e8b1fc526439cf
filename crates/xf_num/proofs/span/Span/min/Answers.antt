use Rattle.std.proofs.Common.{rules, arith}
use Rattle.std.proofs.lemmas.Int.{ints, clamps}
use Rattle.xf_num.proofs.Images.{min-IsHull}
use Rattle.xf_num.proofs.span.Span.min.Goals as goal

pub returns-clause-hull : goal.returns-clause-hull
returns-clause-hull c = let h = min-IsHull c.args.self c.args.other (search rules) (search rules) in search rules

pub invariant_of-result : goal.invariant_of-result
invariant_of-result c = omega (arith, ints, clamps, c.min.ensures.value, c.min-2.ensures.value)
