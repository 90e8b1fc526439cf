use Rattle.std.proofs.Common.{◌≡◌, take, drop, length}
use Rattle.std.specs.List.{AllByRecursion, flat_map}
use Rattle.xs_model.specs.Formed.{IsFormedItem}
use Rattle.xs_judge.specs.Weights.{weight_of_items}
use Rattle.xs_judge.proofs.measure.weight_of_each.Given as goal

abbrev pub invariant-loop-x : goal.invariant-loop-x
invariant-loop-x g l = record {
  total : l.total ≡ weight_of_items l.spans (flat_map g.T.Weighed.items (take l.x-index l.xs));
  rest : AllByRecursion (IsFormedItem (length l.spans)) (flat_map g.T.Weighed.items (drop l.x-index l.xs));
}
