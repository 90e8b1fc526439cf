use Rattle.std.proofs.Common.{rules}
use Rattle.xf_num.proofs.Images.{neg-IsImageHull}
use Rattle.xf_num.proofs.span.Span.neg.Goals as goal

pub returns-in-Some-Some-clause-hull : goal.returns-in-Some-Some-clause-hull
returns-in-Some-Some-clause-hull c = let h = neg-IsImageHull c.args.self (search rules) in search rules
