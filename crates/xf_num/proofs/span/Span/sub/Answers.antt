use Rattle.std.proofs.Common.{rules}
use Rattle.xf_num.proofs.Images.{sub-IsHull}
use Rattle.xf_num.proofs.span.Span.sub.Goals as goal

pub returns-in-Some-Some-clause-hull : goal.returns-in-Some-Some-clause-hull
returns-in-Some-Some-clause-hull c = let h = sub-IsHull c.args.self c.args.other (search rules) (search rules) in search rules
