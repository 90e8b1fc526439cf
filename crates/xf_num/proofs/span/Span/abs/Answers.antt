use Rattle.std.proofs.Common.{rules}
use Rattle.xf_num.proofs.Images.{abs-IsImageHull}
use Rattle.xf_num.proofs.span.Span.abs.Goals as goal

pub returns-in-Some-clause-hull : goal.returns-in-Some-clause-hull
returns-in-Some-clause-hull c = let h = abs-IsImageHull c.args.self (search rules) in search rules
