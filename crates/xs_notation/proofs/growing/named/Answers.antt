use Rattle.xs_notation.proofs.Operators.{operator-is}
use Rattle.xs_notation.proofs.growing.named.Goals as goal

pub returns : goal.returns
returns c = operator-is c.operator.result c.args.name.now c.operator.ensures.named c.operator.ensures.every
