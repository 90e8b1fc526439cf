use Rattle.std.proofs.Common.{◌≡◌, drop}
use Rattle.std.specs.List.{list_all}
use Rattle.xs_objectives.specs.Known.{is_child_known}
use Rattle.xs_var.specs.Elements.{children_of}
use Rattle.xs_objectives.proofs.known.are_children_known.Given as goal

abbrev pub invariant-loop-piece : goal.invariant-loop-piece
invariant-loop-piece l = list_all (is_child_known l.measure) (children_of (drop l.piece-index l.pieces)) ≡ list_all (is_child_known l.measure) (children_of l.pieces)
