use Rattle.std.proofs.Common.{◌≡◌, ◌≤◌, length}
use Rattle.xs_var.specs.Elements.{children_of}
use Rattle.xs_units.proofs.child.next_child.Given as goal

abbrev pub invariant-loop-piece : goal.invariant-loop-piece
invariant-loop-piece l = record {
  within : length l.rest ≤ length l.pieces;
  so_far : children_of l.rest ≡ children_of l.pieces;
}

abbrev pub decreases-loop-piece : goal.decreases-loop-piece
decreases-loop-piece l = length l.rest
