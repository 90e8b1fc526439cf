use Rattle.std.proofs.Common.{◌≡◌, map, take, drop}
use Rattle.xs_model.specs.Bounds.{all_ok}
use Rattle.xs_model.specs.Magnitude.{weighed, bounds_below, nodes_below}
use Rattle.xs_expr.specs.Operands.{gathered_of, none}
use Rattle.xs_judge.specs.Weights.{totalled}
use Rattle.xs_judge.proofs.nodes.+count.Given as goal

abbrev pub invariant-count_operands-loop-at : goal.invariant-count_operands-loop-at
invariant-count_operands-loop-at l = record {
  operands : gathered_of l.op l.at l.operands (all_ok (bounds_below (map (weighed l.spans) (drop l.at l.items)))) ≡ gathered_of l.op 0 none (all_ok (bounds_below (map (weighed l.spans) l.items)));
  total : l.total ≡ totalled (nodes_below (map (weighed l.spans) (take l.at l.items)));
}
