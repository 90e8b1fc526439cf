use Rattle.std.proofs.Common.{◌≡◌, ◌+◌, All, drop}
use Rattle.xs_model.specs.Formed.{nodes_of}
use Rattle.xs_model.specs.Bounds.{HasVariables}
use Rattle.lo_terms.proofs.tests.+counting.Given as goal

abbrev pub invariant-all_within-loop-item : goal.invariant-all_within-loop-item
invariant-all_within-loop-item l = record {
  sum : l.total + nodes_of (drop l.item-index l.items) ≡ nodes_of l.items;
  whole : All (HasVariables l.variables) (drop l.item-index l.items) → All (HasVariables l.variables) l.items;
}
