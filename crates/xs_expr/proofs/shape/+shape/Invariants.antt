use Rattle.std.proofs.Common.{All, drop}
use Rattle.xs_model.specs.Shape.{IsShaped}
use Rattle.xs_expr.proofs.shape.+shape.Given as goal

abbrev pub invariant-are_shaped-loop-item : goal.invariant-are_shaped-loop-item
invariant-are_shaped-loop-item l = record {
  whole : All IsShaped (drop l.item-index l.items) → All IsShaped l.items;
  left : All IsShaped l.items → All IsShaped (drop l.item-index l.items);
}
