use Rattle.std.proofs.Common.{◌≡◌, [], length, take}
use Rattle.xs_var.specs.Elements.{children_of}
use Rattle.xs_file.proofs.sections.take_child.Given as goal

abbrev pub invariant-loop-i : goal.invariant-loop-i
invariant-loop-i l = record {
  size : length l.pieces ≡ length l.fn.pieces;
  none : children_of (take l.i l.pieces) ≡ [];
  same : children_of l.pieces ≡ children_of l.fn.pieces;
}
