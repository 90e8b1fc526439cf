use Rattle.std.proofs.Common.{rules}
use Rattle.xf_num.proofs.Images.{join-IsJoin}
use Rattle.xf_num.proofs.span.Span.hull_with.Goals as goal

pub returns-clause-hull : goal.returns-clause-hull
returns-clause-hull c = let h = join-IsJoin c.args.self c.args.other (search rules) (search rules) in search rules
