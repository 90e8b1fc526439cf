use Rattle.std.proofs.Common.{◌≡◌, length}
use Rattle.xs_var.specs.Elements.{children_of}
use Rattle.xs_units.specs.Units.{are_group_children}
use Rattle.xs_units.proofs.judge.are_group_children.Given as goal

abbrev pub invariant-loop-child : goal.invariant-loop-child
invariant-loop-child l = are_group_children (children_of l.rest) ≡ are_group_children (children_of l.pieces)

abbrev pub decreases-loop-child : goal.decreases-loop-child
decreases-loop-child l = length l.rest
