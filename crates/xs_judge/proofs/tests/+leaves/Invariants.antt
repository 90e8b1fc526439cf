use Rattle.std.proofs.Common.{All, drop}
use Rattle.xs_model.specs.Bounds.{HasVariables}
use Rattle.xs_model.specs.Formed.{HasSmallIntegers}
use Rattle.xs_judge.proofs.tests.+leaves.Given as goal

abbrev pub invariant-have_leaves-loop-item : goal.invariant-have_leaves-loop-item
invariant-have_leaves-loop-item l = record {
  variables : All (HasVariables 2) (drop l.item-index l.items) → All (HasVariables 2) l.items;
  small : All HasSmallIntegers (drop l.item-index l.items) → All HasSmallIntegers l.items;
}
