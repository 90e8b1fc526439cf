use Rattle.std.proofs.Common.{◌≡◌, ◌+◌, drop}
use Rattle.xs_model.specs.Formed.{nodes_of}
use Rattle.xs_objectives.proofs.count.+count.Given as goal

abbrev pub invariant-count_all-loop-expr : goal.invariant-count_all-loop-expr
invariant-count_all-loop-expr l = l.total + nodes_of (drop l.expr-index l.exprs) ≡ nodes_of l.exprs
