use Rattle.std.proofs.Common.{◌≡◌, ◌≤◌, ◌+◌, length, drop}
use Rattle.xs_var.specs.Elements.{children_of}
use Rattle.xs_units.proofs.slides.child_count.Given as goal

abbrev pub invariant-loop-piece : goal.invariant-loop-piece
invariant-loop-piece l = record {
  few : l.count ≤ l.piece-index;
  so_far : l.count + length (children_of (drop l.piece-index l.pieces)) ≡ length (children_of l.pieces);
}
