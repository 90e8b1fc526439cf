use Rattle.std.proofs.Common.{All, drop}
use Rattle.xs_model.specs.Bounds.{HasVariables}
use Rattle.xs_model.specs.Formed.{HasSmallIntegers}
use Rattle.xs_expr.proofs.tests.+leaves.Given as goal

abbrev pub invariant-have_leaves-loop-item : goal.invariant-have_leaves-loop-item
invariant-have_leaves-loop-item l = record {
  variables : All (HasVariables l.variables) (drop l.item-index l.items) → All (HasVariables l.variables) l.items;
  small : All HasSmallIntegers (drop l.item-index l.items) → All HasSmallIntegers l.items;
}
