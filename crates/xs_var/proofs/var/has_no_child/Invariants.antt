use Rattle.std.proofs.Common.{◌≡◌, drop}
use Rattle.xs_var.specs.Variable.{has_no_child}
use Rattle.xs_var.proofs.var.has_no_child.Given as goal

abbrev pub invariant-loop-piece : goal.invariant-loop-piece
invariant-loop-piece l = has_no_child (drop l.piece-index l.pieces) ≡ has_no_child l.pieces
