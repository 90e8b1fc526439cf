use Rattle.std.proofs.Common.{◌≡◌, drop, map}
use Rattle.xs_var.specs.Container.{are_children_known}
use Rattle.xs_var.proofs.container.are_children_known.Given as goal

abbrev pub invariant-loop-piece : goal.invariant-loop-piece
invariant-loop-piece l = are_children_known (map (λ name. name.now) l.names) (drop l.piece-index l.pieces) ≡ are_children_known (map (λ name. name.now) l.names) l.pieces
