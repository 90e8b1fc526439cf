use Rattle.std.proofs.Common.{rules, arith}
use Rattle.std.proofs.lemmas.Int.{ints, clamps}
use Rattle.xf_num.proofs.Images.{max-IsHull}
use Rattle.xf_num.proofs.span.Span.max.Goals as goal

pub returns-clause-hull : goal.returns-clause-hull
returns-clause-hull c = let h = max-IsHull c.args.self c.args.other (search rules) (search rules) in search rules

pub invariant_of-result : goal.invariant_of-result
invariant_of-result c = omega (arith, ints, clamps, c.max.ensures.value, c.max-2.ensures.value)
