use Rattle.xs_expr.proofs.Bounded.{values-are-bounded}
use Rattle.xs_expr.proofs.worth.values_are_bounded.Goals as goal

pub returns : goal.returns
returns c = values-are-bounded
